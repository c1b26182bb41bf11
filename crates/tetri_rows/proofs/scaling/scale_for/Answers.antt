use Rattle.std.proofs.Common.{rules, sym, subst, ap, ◌∙◌}
use Rattle.std.specs.Prelude.{pos, ◌<ℤ◌}
use Rattle.std.proofs.lemmas.Int.{to_z-of_z}
use lib.IntN.{◌*ℤ◌}
use mir.Val.{SFits}
use mir.Syntax.{w64}
use Rattle.tetri_rows.proofs.Words.{short_word, wide_short, wide_word, gcd_step, fits_along, word_along, divides_word, reduced_denominator, short_under}
use Rattle.tetri_rows.proofs.Scaled.{whole_multiple}
use Rattle.tetri_rows.proofs.scaling.scale_for.Goals as goal

pub overflow_cast-gcd : goal.overflow_cast-gcd
overflow_cast-gcd c =
    let s = gcd_step c.gcd.result c.args.f c.args.den _ _ (wide_short c.args.f c.requires.f) (wide_short c.args.den c.requires.den.short) c.gcd.ensures.value c.requires.den.positive (short_under c.args.den c.requires.den.short) in
    fits_along c.gcd.result _ (wide_word _ s.3) s.3

pub divided-requires-clause-positive : goal.divided-requires-clause-positive
divided-requires-clause-positive c =
    let s = gcd_step c.gcd.result c.args.f c.args.den _ _ (wide_short c.args.f c.requires.f) (wide_short c.args.den c.requires.den.short) c.gcd.ensures.value c.requires.den.positive (short_under c.args.den c.requires.den.short) in
    subst (λ z. pos 0 <ℤ z) (sym (word_along c.gcd.result _ (wide_word c.gcd.result s.3) s.3)) s.0

pub divided-requires-clause-divides : goal.divided-requires-clause-divides
divided-requires-clause-divides c =
    let s = gcd_step c.gcd.result c.args.f c.args.den _ _ (wide_short c.args.f c.requires.f) (wide_short c.args.den c.requires.den.short) c.gcd.ensures.value c.requires.den.positive (short_under c.args.den c.requires.den.short) in
    divides_word c.gcd.result _ c.args.den _ (word_along c.gcd.result _ (wide_word c.gcd.result s.3) s.3) (short_word c.args.den c.requires.den.short) s.1

pub returns-clause-den : goal.returns-clause-den
returns-clause-den c =
    let fr : SFits w64 c.divided.result = search rules in
    let s = gcd_step c.gcd.result c.args.f c.args.den _ _ (wide_short c.args.f c.requires.f) (wide_short c.args.den c.requires.den.short) c.gcd.ensures.value c.requires.den.positive (short_under c.args.den c.requires.den.short) in
    reduced_denominator c.divided.result _ c.gcd.result _ c.args.den _ (to_z-of_z w64 _ fr) (word_along c.gcd.result _ (wide_word c.gcd.result s.3) s.3) (short_word c.args.den c.requires.den.short) s.0 c.requires.den c.divided.ensures.value

pub returns-clause-whole : goal.returns-clause-whole
returns-clause-whole c =
    let fr : SFits w64 c.divided.result = search rules in
    let s = gcd_step c.gcd.result c.args.f c.args.den _ _ (wide_short c.args.f c.requires.f) (wide_short c.args.den c.requires.den.short) c.gcd.ensures.value c.requires.den.positive (short_under c.args.den c.requires.den.short) in
    whole_multiple c.args.f c.args.den c.gcd.result _ s.2
    (ap (λ z. z *ℤ c.gcd.result) (to_z-of_z w64 _ fr) ∙ ap (λ z. c.divided.result *ℤ z) (sym (word_along c.gcd.result _ (wide_word c.gcd.result s.3) s.3)) ∙ c.divided.ensures.value ∙ short_word c.args.den c.requires.den.short)

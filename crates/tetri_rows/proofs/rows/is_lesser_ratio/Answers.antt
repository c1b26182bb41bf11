use Rattle.std.proofs.Common.{refl, sym, ap, ◌∙◌, subst}
use lib.IntN.{pos, ◌*ℤ◌, ◌-ℤ◌}
use mir.Val.{to_z, of_z}
use mir.Syntax.{w64}
use Rattle.tetri_rows.specs.Small.{IsShort}
use Rattle.tetri_rows.proofs.Ratios.{ratios_by_products}
use Rattle.tetri_rows.proofs.Words.{neg_word, neg_short, short_word, word}
use Rattle.tetri_rows.proofs.rows.is_lesser_ratio.Goals as goal

pub times-requires-clause-a : goal.times-requires-clause-a
times-requires-clause-a c = subst IsShort (sym (neg_word c.args.o _ (short_word _ c.requires.o) c.requires.o)) (neg_short _ c.requires.o)

pub times-requires-2-clause-a : goal.times-requires-2-clause-a
times-requires-2-clause-a c = subst IsShort (sym (neg_word c.args.p _ (short_word _ c.requires.p) c.requires.p)) (neg_short _ c.requires.p)

pub returns : goal.returns
returns c =
    let o' = to_z w64 (of_z w64 (pos 0 -ℤ to_z w64 (of_z w64 c.args.o))) in
    let p' = to_z w64 (of_z w64 (pos 0 -ℤ to_z w64 (of_z w64 c.args.p))) in
    ratios_by_products c.args.o c.args.a c.args.p c.args.b c.times.result c.times-2.result (to_z w64 (of_z w64 c.times.result)) (to_z w64 (of_z w64 c.times-2.result)) o' p' _ (word _ c.times.ensures.fits) (word _ c.times-2.ensures.fits)
    (c.times.ensures.value ∙ ap (λ z. o' *ℤ z) (short_word _ c.requires.b.short)) (c.times-2.ensures.value ∙ ap (λ z. p' *ℤ z) (short_word _ c.requires.a.short))
    (neg_word c.args.o _ (short_word _ c.requires.o) c.requires.o) (neg_word c.args.p _ (short_word _ c.requires.p) c.requires.p) refl c.requires.a c.requires.b

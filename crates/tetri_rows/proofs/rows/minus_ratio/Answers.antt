use Rattle.std.proofs.Common.{◌≡◌, sym, ap, ◌∙◌, subst}
use Rattle.std.specs.Prelude.{unsigned_abs}
use lib.IntN.{◌*ℤ◌, neg_ℤ}
use mir.Val.{to_z, of_z}
use mir.Syntax.{w64, w128}
use Rattle.tetri_algebra.specs.Rational.{fraction}
use Rattle.tetri_rows.specs.Small.{IsShort}
use Rattle.tetri_rows.proofs.Ratios.{fits_within, ratio_is}
use Rattle.tetri_rows.proofs.Words.{neg_word, neg_short, short_word, wide_of_word}
use Rattle.tetri_rows.proofs.rows.minus_ratio.Goals as goal

pub times-top-requires-clause-a : goal.times-top-requires-clause-a
times-top-requires-clause-a c = subst IsShort (sym (neg_word c.args.o _ (short_word _ c.requires.o) c.requires.o)) (neg_short _ c.requires.o)

pub new-requires-clause-num_within : goal.new-requires-clause-num_within
new-requires-clause-num_within c = fits_within c.times-top.result _ (wide_of_word _ c.times-top.ensures.fits) c.times-top.ensures.fits

pub new-requires-clause-den_within : goal.new-requires-clause-den_within
new-requires-clause-den_within c = fits_within c.product-bottom.result _ (wide_of_word _ c.product-bottom.ensures.fits) c.product-bottom.ensures.fits

pub returns : goal.returns
returns c =
    let t = c.times-top.result in
    let b = c.product-bottom.result in
    let te : t ≡ neg_ℤ c.args.o *ℤ c.args.den =
    c.times-top.ensures.value ∙ ap (λ z. z *ℤ to_z w64 (of_z w64 c.args.den)) (neg_word c.args.o _ (short_word _ c.requires.o) c.requires.o) ∙ ap (λ z. neg_ℤ c.args.o *ℤ z) (short_word _ c.requires.den.short) in
    let be : b ≡ c.args.other_den *ℤ c.args.a =
    c.product-bottom.ensures.value ∙ ap (λ z. z *ℤ to_z w64 (of_z w64 c.args.a)) (short_word _ c.requires.other_den.short) ∙ ap (λ z. c.args.other_den *ℤ z) (short_word _ c.requires.a.short) in
    c.new.ensures.rational
    ∙ ap (λ z. fraction z (unsigned_abs (to_z w128 (of_z w128 (to_z w64 (of_z w64 b)))))) (wide_of_word t c.times-top.ensures.fits)
    ∙ ap (λ z. fraction t (unsigned_abs z)) (wide_of_word b c.product-bottom.ensures.fits)
    ∙ sym (ratio_is c.args.den c.args.other_den c.args.o c.args.a t b c.requires.den c.requires.other_den c.requires.a.positive te be c.product-bottom.ensures.positive)

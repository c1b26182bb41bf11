use Rattle.std.proofs.Common.{◌<◌, ◌^◌, sym, subst}
use lib.IntN.{pos}
use Rattle.std.specs.Prelude.{unsigned_abs, ◌<ℤ◌}
use Rattle.tetri_algebra.specs.Integers.{mul_positive}
use Rattle.tetri_rows.proofs.Words.{product_word, product_fits, short_word, product_fits_along}
use Rattle.tetri_rows.proofs.rows.product.Goals as goal

pub overflow_mul-result : goal.overflow_mul-result
overflow_mul-result c = product_fits_along c.args.a c.args.b _ _ (short_word _ c.requires.a.short) (short_word _ c.requires.b.short) c.requires.a.short c.requires.b.short

pub returns-clause-value : goal.returns-clause-value
returns-clause-value c = product_word c.args.a c.args.b _ _ (short_word _ c.requires.a.short) (short_word _ c.requires.b.short) c.requires.a.short c.requires.b.short

pub returns-clause-positive : goal.returns-clause-positive
returns-clause-positive c = subst (λ z. pos 0 <ℤ z) (sym (returns-clause-value c)) (mul_positive _ _ c.requires.a.positive c.requires.b.positive)

pub returns-clause-fits : goal.returns-clause-fits
returns-clause-fits c = subst (λ z. unsigned_abs z < 2 ^ 63) (sym (returns-clause-value c)) (product_fits c.args.a c.args.b c.requires.a.short c.requires.b.short)

use Rattle.std.proofs.Common.{◌<◌, ◌^◌, sym, subst}
use Rattle.std.specs.Prelude.{unsigned_abs}
use Rattle.tetri_rows.proofs.Words.{product_word, product_fits, short_word, product_fits_along}
use Rattle.tetri_rows.proofs.rows.times.Goals as goal

pub overflow_mul-result : goal.overflow_mul-result
overflow_mul-result c = product_fits_along c.args.a c.args.b _ _ (short_word _ c.requires.a) (short_word _ c.requires.b) c.requires.a c.requires.b

pub returns-clause-value : goal.returns-clause-value
returns-clause-value c = product_word c.args.a c.args.b _ _ (short_word _ c.requires.a) (short_word _ c.requires.b) c.requires.a c.requires.b

pub returns-clause-fits : goal.returns-clause-fits
returns-clause-fits c = subst (λ z. unsigned_abs z < 2 ^ 63) (sym (returns-clause-value c)) (product_fits c.args.a c.args.b c.requires.a c.requires.b)

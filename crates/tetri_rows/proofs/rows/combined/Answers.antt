use Rattle.tetri_rows.proofs.Words.{combined_sum, combined_below, fits_along, word_along, below_along}
use Rattle.tetri_rows.specs.Rows.{combined}
use Rattle.tetri_rows.proofs.rows.combined.Goals as goal

pub overflow_add-result : goal.overflow_add-result
overflow_add-result c =
    let d = c.args.d in let f = c.args.f in let x = c.args.x in let y = c.args.y in
    fits_along (combined d f x y) _ (combined_sum d f x y c.requires.d c.requires.f c.requires.x c.requires.y) (combined_below d f x y c.requires.d c.requires.f c.requires.x c.requires.y)

pub returns-clause-value : goal.returns-clause-value
returns-clause-value c =
    let d = c.args.d in let f = c.args.f in let x = c.args.x in let y = c.args.y in
    word_along (combined d f x y) _ (combined_sum d f x y c.requires.d c.requires.f c.requires.x c.requires.y) (combined_below d f x y c.requires.d c.requires.f c.requires.x c.requires.y)

pub returns-clause-fits : goal.returns-clause-fits
returns-clause-fits c =
    let d = c.args.d in let f = c.args.f in let x = c.args.x in let y = c.args.y in
    below_along (combined d f x y) _ (returns-clause-value c) (combined_below d f x y c.requires.d c.requires.f c.requires.x c.requires.y)

use Rattle.tetri_strl.specs.declared.expr.Expr.TheFolds.{the_lemmas}
use Rattle.std.proofs.Common.{rules}
use Rattle.tetri_strl.proofs.copy.+copy_expr.Goals as goal

pub copy_expr-returns-in_err-copy_parts-in-Max : goal.copy_expr-returns-in_err-copy_parts-in-Max
copy_expr-returns-in_err-copy_parts-in-Max t c = search (rules, the_lemmas)

pub copy_expr-returns-in_err-copy_parts-in-Min : goal.copy_expr-returns-in_err-copy_parts-in-Min
copy_expr-returns-in_err-copy_parts-in-Min t c = search (rules, the_lemmas)

pub copy_expr-returns-in_err-copy_parts-in-Sum : goal.copy_expr-returns-in_err-copy_parts-in-Sum
copy_expr-returns-in_err-copy_parts-in-Sum t c = search (rules, the_lemmas)

pub copy_expr-returns-in_err-copy_expr-in-Scale : goal.copy_expr-returns-in_err-copy_expr-in-Scale
copy_expr-returns-in_err-copy_expr-in-Scale t c = search (rules, the_lemmas)

pub copy_expr-returns-in_err-new-in-Scale : goal.copy_expr-returns-in_err-new-in-Scale
copy_expr-returns-in_err-new-in-Scale t c = search (rules, the_lemmas)

pub copy_expr-returns-in_err-copy_expr-in-Barrier : goal.copy_expr-returns-in_err-copy_expr-in-Barrier
copy_expr-returns-in_err-copy_expr-in-Barrier t c = search (rules, the_lemmas)

pub copy_expr-returns-in_err-new-in-Barrier : goal.copy_expr-returns-in_err-new-in-Barrier
copy_expr-returns-in_err-new-in-Barrier t c = search (rules, the_lemmas)

pub copy_parts-returns-in_err-copy_expr : goal.copy_parts-returns-in_err-copy_expr
copy_parts-returns-in_err-copy_expr t c = search (rules, the_lemmas)

pub copy_parts-returns-in_err-push : goal.copy_parts-returns-in_err-push
copy_parts-returns-in_err-push t c = search (rules, the_lemmas)

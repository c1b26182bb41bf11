use Rattle.std.proofs.Common.{refl}
use Rattle.std.proofs.lemmas.Result.{err_from_is_err_and}
use Rattle.tetri_parse.proofs.Rows.{stops_first}
use Rattle.tetri_parse.proofs.LeafSteps.{leaf_steps}
use Rattle.tetri_parse.proofs.reading.leaf.Goals as goal

pub returns-in_err-mark-clause-value : goal.returns-in_err-mark-clause-value
returns-in_err-mark-clause-value c =
    let p = err_from_is_err_and c.from_residual.result c.from_residual.ensures.1 in
    rw (p.1, p.2, leaf_steps c.args.cluster.now c.args.linear c.args.num c.args.left c.args.text.now) (stops_first c.in_err-mark.field-0.0 _ _ c.in_err-mark.ensures)

pub returns-in_err-set-clause-value : goal.returns-in_err-set-clause-value
returns-in_err-set-clause-value c =
    let p = err_from_is_err_and c.from_residual-in_err-set.result c.from_residual-in_err-set.ensures.1 in
    rw (p.1, p.2, leaf_steps c.args.cluster.now c.args.linear c.args.num c.args.left c.args.text.now, c.in_ok-mark.ensures, ← c.skip_blanks-set_text.ensures) (stops_first c.in_err-set.field-0.0 _ _ c.in_err-set.ensures.value)

pub returns-in_err-numbers-clause-value : goal.returns-in_err-numbers-clause-value
returns-in_err-numbers-clause-value c =
    let p = err_from_is_err_and c.from_residual-in_err-numbers.result c.from_residual-in_err-numbers.ensures.1 in
    rw (p.1, p.2, leaf_steps c.args.cluster.now c.args.linear c.args.num c.args.left c.args.text.now, c.in_ok-mark.ensures, ← c.skip_blanks-set_text.ensures, c.in_ok-set.ensures.value) (stops_first c.in_err-numbers.field-0.0 _ _ c.in_err-numbers.ensures.value)

pub returns-clause-value : goal.returns-clause-value
returns-clause-value c =
    rw (leaf_steps c.args.cluster.now c.args.linear c.args.num c.args.left c.args.text.now, c.in_ok-mark.ensures, ← c.skip_blanks-set_text.ensures, c.in_ok-set.ensures.value, c.in_ok-numbers.ensures.value) refl

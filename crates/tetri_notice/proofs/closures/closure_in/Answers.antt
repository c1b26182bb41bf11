use Rattle.std.proofs.Common.{sym, refl}
use Rattle.std.proofs.lemmas.Result.{err_from_is_err_and}
use Rattle.tetri_notice.specs.Closures.{closure_in}
use Rattle.tetri_notice.proofs.Options.{some_from_ok, stops_first}
use Rattle.tetri_notice.proofs.closures.closure_in.Goals as goal

pub returns-in_err-node : goal.returns-in_err-node
unfolding closure_in
returns-in_err-node c =
    let p = err_from_is_err_and c.from_residual.result c.from_residual.ensures.1 in
    rw (p.1, p.2) (record { value = rw (sym c.in-Some.ensures) (stops_first _ _ _ _ c.in_err-node.ensures.value); within = tt })

pub returns-in_err-from : goal.returns-in_err-from
unfolding closure_in
returns-in_err-from c =
    let p = err_from_is_err_and c.from_residual-in_err-from.result c.from_residual-in_err-from.ensures.1 in
    rw (p.1, p.2) (record { value = rw (sym c.in-Some.ensures, some_from_ok _ _ _ c.in_ok-node.ensures.value) (stops_first _ _ _ _ c.in_err-from.ensures.value); within = tt })

pub returns : goal.returns
unfolding closure_in
returns c = record {
  value = rw (sym c.in-Some.ensures, some_from_ok _ _ _ c.in_ok-node.ensures.value, some_from_ok _ _ _ c.in_ok-from.ensures.value, c.in_ok-node-2.ensures) refl;
  within = record { some_slots = c.in_ok-from.ensures.within.0; within = c.in_ok-from.ensures.within.1 };
}

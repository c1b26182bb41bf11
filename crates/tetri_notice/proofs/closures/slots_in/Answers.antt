use Rattle.std.proofs.Common.{refl}
use Rattle.std.proofs.lemmas.Result.{err_from_is_err_and}
use Rattle.tetri_notice.specs.Closures.{slots_in}
use Rattle.tetri_notice.proofs.Options.{some_from_ok, stops_first}
use Rattle.tetri_notice.proofs.closures.slots_in.Goals as goal

pub returns-in_err-from : goal.returns-in_err-from
unfolding slots_in
returns-in_err-from c =
    let p = err_from_is_err_and c.from_residual.result c.from_residual.ensures.1 in
    rw (p.1, p.2) (record { value = stops_first _ _ _ _ c.in_err-from.ensures.value; within = tt })

pub returns-in_err-to : goal.returns-in_err-to
unfolding slots_in
returns-in_err-to c =
    let p = err_from_is_err_and c.from_residual-in_err-to.result c.from_residual-in_err-to.ensures.1 in
    rw (p.1, p.2) (record { value = rw (some_from_ok _ _ _ c.in_ok-from.ensures.value) (stops_first _ _ _ _ c.in_err-to.ensures.value); within = tt })

pub returns : goal.returns
unfolding slots_in
returns c = record {
  value = rw (some_from_ok _ _ _ c.in_ok-from.ensures.value, some_from_ok _ _ _ c.in_ok-to.ensures.value) refl;
  within = c.in_ok-to.ensures.within;
}

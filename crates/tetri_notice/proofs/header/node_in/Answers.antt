use Rattle.std.proofs.Common.{sym, refl}
use Rattle.std.proofs.lemmas.Result.{err_from_is_err_and}
use Rattle.tetri_notice.proofs.Options.{some_from_ok, stops_first, stops_map}
use Rattle.tetri_notice.proofs.header.node_in.Goals as goal

pub returns-in_err-name : goal.returns-in_err-name
returns-in_err-name c =
    let p = err_from_is_err_and c.from_residual.result c.from_residual.ensures.1 in
    rw (p.1, p.2) (record { named = tt; value = rw (sym c.in-Some.ensures) (stops_first _ _ _ _ c.in_err-name.ensures.value) })

pub returns-in_err-tags : goal.returns-in_err-tags
returns-in_err-tags c =
    let p = err_from_is_err_and c.from_residual-in_err-tags.result c.from_residual-in_err-tags.ensures.1 in
    rw (p.1, p.2) (record { named = tt; value = rw (sym c.in-Some.ensures, some_from_ok _ _ _ c.in_ok-name.ensures.value) (stops_map _ _ _ _ c.in_err-tags.ensures) })

pub returns : goal.returns
returns c = record {
  named = rw c.in_ok-name-2.ensures c.in_ok-name.ensures.name;
  value = rw (sym c.in-Some.ensures, some_from_ok _ _ _ c.in_ok-name.ensures.value, some_from_ok _ _ _ c.in_ok-tags.ensures, c.in_ok-name-2.ensures) refl;
}

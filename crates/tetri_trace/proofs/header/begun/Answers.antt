use Rattle.std.proofs.Common.{sym}
use Rattle.std.proofs.lemmas.Result.{err_from_is_err_and}
use Rattle.tetri_notice.specs.Headers.{header_text}
use Rattle.tetri_trace.proofs.Beginnings.{begins, stops_at_closures, stops_at_nodes}
use Rattle.tetri_trace.proofs.SoundLemmas.{header_sound}
use Rattle.tetri_trace.proofs.header.begun.Goals as goal

pub returns-in_err-cluster-clause-gives : goal.returns-in_err-cluster-clause-gives
returns-in_err-cluster-clause-gives c =
    let e = err_from_is_err_and c.from_residual.result c.from_residual.ensures.1 in
    rw (e.1, e.2) (stops_at_nodes (header_text c.args.header) c.in_err-cluster.field-0.0 c.in_err-cluster.ensures.value)

pub returns-in_err-closures-clause-gives : goal.returns-in_err-closures-clause-gives
returns-in_err-closures-clause-gives c =
    let e = err_from_is_err_and c.from_residual-in_err-closures.result c.from_residual-in_err-closures.ensures.1 in
    rw (e.1, e.2)
    (stops_at_closures (header_text c.args.header) c.in_ok-cluster.cluster c.in_err-closures.field-0.0 c.in_ok-cluster.ensures.value (rw c.deref.ensures.value at c.in_err-closures.ensures.value))

pub returns-clause-gives : goal.returns-clause-gives
returns-clause-gives c =
    rw (c.new.ensures, c.new-2.ensures, c.new-3.ensures.items)
    (begins (header_text c.args.header) c.in_ok-cluster.cluster c.in_ok-closures.closures c.in_ok-cluster.ensures.value (rw c.deref.ensures.value at c.in_ok-closures.ensures.value))

pub returns-clause-sound : goal.returns-clause-sound
returns-clause-sound c =
    let e = sym c.in_ok-cluster.ensures.same in
    rw (c.new.ensures, c.new-2.ensures, c.new-3.ensures.items)
    (header_sound c.args.header.header c.in_ok-cluster.cluster c.in_ok-closures.closures c.requires.header (rw e at c.requires.some_nodes) (rw e at c.requires.few_nodes) (rw e at c.requires.node_names) c.in_ok-cluster.ensures.differ c.in_ok-closures.ensures.sound)

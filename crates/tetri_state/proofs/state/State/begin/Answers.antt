use Rattle.std.proofs.Common.{◌≡◌, ◌∙◌, ◌+◌, ◌<◌, ◌&&◌, All, length, filter, map, not, ap, subst, sym, arith}
use Rattle.std.specs.List.Sorted.{IsStrictlyIncreasing}
use Rattle.std.proofs.lemmas.List.{length-map, with_items_is}
use Rattle.std.specs.Vec.{with_items}
use Rattle.tetri_trace.specs.Scenario.{Scenario, scenario}
use Rattle.tetri_state.specs.declared.pieces.Piece.{Piece}
use Rattle.tetri_state.specs.Begin.{Occurrences, begin, ending, finished, has_ended, occurring, prolonged, running_on, runs, staying, told, turn}
use Rattle.tetri_state.specs.Snapshot.{ArrivedBefore, Snapshot}
use Rattle.tetri_state.proofs.BeginLemmas.{appended, filter_both, same_standing, same_state}
use Rattle.tetri_state.proofs.state.State.begin.Goals as goal

pub begin_slot-requires-clause-drained : goal.begin_slot-requires-clause-drained
begin_slot-requires-clause-drained c = ap length (c.deref.ensures.value ∙ ap (λ (r : Snapshot). r.drained) c.self.view_is) ∙ c.requires.drained

pub begin_slot-requires-clause-pending : goal.begin_slot-requires-clause-pending
begin_slot-requires-clause-pending c = subst IsStrictlyIncreasing (sym (c.deref-2.ensures.value ∙ ap (λ (r : Snapshot). r.pending) c.self.view_is)) c.requires.pending

pub begin_slot-requires-clause-arrived : goal.begin_slot-requires-clause-arrived
begin_slot-requires-clause-arrived c =
    let t : Scenario = scenario c.args.trace.now in
    let same = same_standing (ap (λ (r : Snapshot). r.now) c.self.view_is) (c.deref.ensures.value ∙ ap (λ (r : Snapshot). r.drained) c.self.view_is)
    (c.deref-2.ensures.value ∙ ap (λ (r : Snapshot). r.pending) c.self.view_is) (c.deref-3.ensures.value ∙ ap (λ (r : Snapshot). r.pieces) c.self.view_is) in
    subst (λ r. All (ArrivedBefore t (r.now + 1)) (turn t r).pending) (sym same) c.requires.arrived

pub begin_slot-requires-clause-nodes : goal.begin_slot-requires-clause-nodes
begin_slot-requires-clause-nodes c =
    subst (All (λ (p : Piece). All (λ n. n < length (scenario c.args.trace.now).nodes) p.nodes))
    (sym (c.deref-3.ensures.value ∙ ap (λ (r : Snapshot). r.pieces) c.self.view_is)) c.requires.nodes

pub returns-clause-state : goal.returns-clause-state
returns-clause-state c =
    let s : Snapshot = c.args.self.now in
    let t : Scenario = scenario c.args.trace.now in
    let h = c.in_ok-begun.ensures in
    let now : c.self.inside.now ≡ s.now = ap (λ (r : Snapshot). r.now) c.self.view_is in
    let same = same_standing now (c.deref.ensures.value ∙ ap (λ (r : Snapshot). r.drained) c.self.view_is)
    (c.deref-2.ensures.value ∙ ap (λ (r : Snapshot). r.pending) c.self.view_is) (c.deref-3.ensures.value ∙ ap (λ (r : Snapshot). r.pieces) c.self.view_is) in
    let len : length c.prolong.new.pieces ≡ c.keep.new.pieces.len = ap length c.prolong.ensures ∙ length-map _ _ ∙ c.deref_mut.ensures.len in
    let stays : c.keep.new.pieces.items ≡ staying t s =
    c.keep.ensures
    ∙ ap (filter (λ (p : Piece). not (has_ended c.self.inside.now p) && runs c.deref-4.result.now p.job)) (ap (λ (r : Snapshot). r.pieces) c.self.view_is)
    ∙ ap (λ n. filter (λ (p : Piece). not (has_ended n p) && runs c.deref-4.result.now p.job) s.pieces) now
    ∙ ap (λ r. filter (λ (p : Piece). not (has_ended s.now p) && runs r p.job) s.pieces) (c.deref-4.ensures.value ∙ h.running ∙ ap (λ r. (turn t r).running) same)
    ∙ filter_both (λ (p : Piece). not (has_ended s.now p)) (λ (p : Piece). runs (turn t s).running p.job) s.pieces in
    let pieces : (with_items c.keep.new.pieces c.prolong.new.pieces).items ≡ map (prolonged s.now) (staying t s) =
    with_items_is c.keep.new.pieces c.prolong.new.pieces len ∙ c.prolong.ensures ∙ ap (λ n. map (prolonged n) c.deref_mut.result.now) now
    ∙ ap (map (prolonged s.now)) (c.deref_mut.ensures.value ∙ stays) in
    let launched = c.in_ok-reserve.ensures.items ∙ ap (λ (r : Snapshot). r.launched) c.self.view_is in
    let ended =
    appended c.append.ensures.items (c.append.ensures.succeeds (omega (arith, c.in_ok-reserve-2.ensures.ok)))
    (c.in_ok-reserve-2.ensures.items ∙ ap (λ (r : Snapshot). r.ended) c.self.view_is) (h.finished ∙ ap (λ r. finished (told (running_on r)) (told (ending r))) same) in
    let cancelled =
    appended c.extend_from_slice.ensures.items
    (c.extend_from_slice.ensures.succeeds (omega (arith, c.in_ok-reserve-3.ensures.ok, c.in_ok-reserve-3.ensures.len, c.deref-5.ensures.len, c.len-3.ensures)))
    (c.in_ok-reserve-3.ensures.items ∙ ap (λ (r : Snapshot). r.cancelled) c.self.view_is)
    (c.deref-5.ensures.value ∙ ap (λ (o : Occurrences). o.cancelled) (h.happened ∙ ap (occurring t) same)) in
    let expired =
    appended c.extend_from_slice-2.ensures.items
    (c.extend_from_slice-2.ensures.succeeds (omega (arith, c.in_ok-reserve-4.ensures.ok, c.in_ok-reserve-4.ensures.len, c.deref-6.ensures.len, c.len-4.ensures)))
    (c.in_ok-reserve-4.ensures.items ∙ ap (λ (r : Snapshot). r.expired) c.self.view_is)
    (c.deref-6.ensures.value ∙ ap (λ (o : Occurrences). o.expired) (h.happened ∙ ap (occurring t) same)) in
    same_state now (ap (λ (r : Snapshot). r.plan) c.self.view_is) (h.drained ∙ ap (λ r. (turn t r).drained) same) (h.pending ∙ ap (λ r. (begin t r).pending) same) pieces launched ended cancelled expired

pub returns-clause-happened : goal.returns-clause-happened
returns-clause-happened c =
    let same = same_standing (ap (λ (r : Snapshot). r.now) c.self.view_is) (c.deref.ensures.value ∙ ap (λ (r : Snapshot). r.drained) c.self.view_is)
    (c.deref-2.ensures.value ∙ ap (λ (r : Snapshot). r.pending) c.self.view_is) (c.deref-3.ensures.value ∙ ap (λ (r : Snapshot). r.pieces) c.self.view_is) in
    c.in_ok-begun.ensures.happened ∙ ap (occurring (scenario c.args.trace.now)) same

pub returns-clause-ended : goal.returns-clause-ended
returns-clause-ended c = c.in_ok-begun.ensures.ended

pub returns-clause-over : goal.returns-clause-over
returns-clause-over c = c.in_ok-begun.ensures.over

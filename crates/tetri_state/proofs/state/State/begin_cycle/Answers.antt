use Rattle.std.proofs.Common.{◌≡◌, ◌+◌, ap, subst, sym}
use Rattle.std.specs.List.Sorted.{IsStrictlyIncreasing}
use Rattle.std.proofs.lemmas.Result.{on_ok_weaker}
use Rattle.tetri_base.proofs.ListLaws.{Each-get}
use Rattle.tetri_trace.specs.Scenario.{scenario}
use Rattle.tetri_state.specs.declared.happened.Happened.{Happened}
use Rattle.tetri_state.specs.Begin.{Occurrences, occurrences, occurring, turn}
use Rattle.tetri_state.specs.Reached.{IsReached, begun}
use Rattle.tetri_state.proofs.Ascending.{ascend_to}
use Rattle.tetri_state.proofs.ReachedLemmas.{begin_reached, if_ok, stands_between}
use Rattle.tetri_state.proofs.StandLemmas.{KeepsToTrace, expired_ascends, turn_arrived}
use Rattle.tetri_state.proofs.state.State.begin_cycle.Goals as goal
use Rattle.tetri_state.specs.Snapshot.{ArrivedBefore}

pub begin-requires-clause-drained : goal.begin-requires-clause-drained
begin-requires-clause-drained c = (stands_between (scenario c.args.trace.now) c.args.self.now c.requires.sound c.requires.reached).drained

pub begin-requires-clause-pending : goal.begin-requires-clause-pending
begin-requires-clause-pending c =
    ascend_to c.args.self.now.pending (stands_between (scenario c.args.trace.now) c.args.self.now c.requires.sound c.requires.reached).ascending

pub begin-requires-clause-arrived : goal.begin-requires-clause-arrived
begin-requires-clause-arrived c =
    let t = scenario c.args.trace.now in
    let s = c.args.self.now in
    let all = turn_arrived t s c.requires.sound (stands_between t s c.requires.sound c.requires.reached) in
    λ k d lt. Each-get (ArrivedBefore t (s.now + 1)) (turn t s).pending k d all lt

pub begin-requires-clause-nodes : goal.begin-requires-clause-nodes
begin-requires-clause-nodes c =
    let t = scenario c.args.trace.now in
    let s = c.args.self.now in
    λ k d lt. (Each-get (KeepsToTrace t) s.pieces k d (stands_between t s c.requires.sound c.requires.reached).pieces lt).nodes

pub returns-clause-reached : goal.returns-clause-reached
returns-clause-reached c =
    let t = scenario c.args.trace.now in
    let s = c.args.self.now in
    on_ok_weaker c.begin.result (λ is. subst (IsReached t begun) (sym is) (begin_reached t s c.requires.reached c.requires.more)) c.begin.ensures.state

pub returns-clause-expired : goal.returns-clause-expired
returns-clause-expired c =
    let t = scenario c.args.trace.now in
    let s = c.args.self.now in
    let ascends = expired_ascends t s c.requires.sound (stands_between t s c.requires.sound c.requires.reached) in
    if_ok (λ (h : Happened). occurrences h ≡ occurring t s) (λ (h : Happened). IsStrictlyIncreasing h.expired.items)
    (λ h is. subst IsStrictlyIncreasing (sym (ap (λ (o : Occurrences). o.expired) is)) ascends) c.begin.result c.begin.ensures.happened

use Rattle.std.proofs.Common.{◌≡◌, ◌+◌, ◌∙◌, ◌&&◌, All, None, filter, get_or, length, not, refl, sym, ap, subst}
use Rattle.std.specs.List.Sorted.{IsNonDecreasingBy}
use Rattle.tetri_trace.specs.Scenario.{Scenario, scenario}
use Rattle.tetri_state.specs.declared.pieces.Piece.{Piece}
use Rattle.tetri_state.specs.Begin.{Turn, finished, has_ended, has_expired, is_over, runs, running_on, standing, staying, told, turn}
use Rattle.tetri_state.specs.Snapshot.{ArrivedBefore, Snapshot}
use Rattle.tetri_state.proofs.SoundLemmas.{nodes_known}
use Rattle.tetri_state.proofs.BeginLemmas.{events_are, filter_both, holders_known, same_occurrences, turn_is}
use Rattle.tetri_state.proofs.beginning.begin_slot.Goals as goal
use Rattle.tetri_state.proofs.beginning.begin_slot.Goals.{After-drop-running-2}

pub take_all-requires-clause-holders : goal.take_all-requires-clause-holders
take_all-requires-clause-holders c =
    let t : Scenario = scenario c.args.trace.now in
    let s : Snapshot = standing c.args.now c.args.drained.now c.args.pending.now c.args.pieces.now in
    let known = holders_known t s c.requires.nodes _ _ _ _ c.in_ok-holders.ensures refl c.count.ensures.value refl in
    ap length c.deref-5.ensures.value ∙ known.0 ∙ sym c.requires.drained

pub take_all-requires-clause-known : goal.take_all-requires-clause-known
take_all-requires-clause-known c =
    let t : Scenario = scenario c.args.trace.now in
    let s : Snapshot = standing c.args.now c.args.drained.now c.args.pending.now c.args.pieces.now in
    let es = events_are t s _ _ _ c.events_at-events.ensures c.deref-3.ensures.value refl in
    rw (es, c.requires.drained) (nodes_known t c.args.now c.requires.sound)

pub part-requires-clause-arrived : goal.part-requires-clause-arrived
part-requires-clause-arrived c =
    let t : Scenario = scenario c.args.trace.now in
    let s : Snapshot = standing c.args.now c.args.drained.now c.args.pending.now c.args.pieces.now in
    let known = holders_known t s c.requires.nodes _ _ _ _ c.in_ok-holders.ensures refl c.count.ensures.value refl in
    let turned : c.in_ok-turn.turn ≡ turn t s =
    c.in_ok-turn.ensures.turn
    ∙ turn_is t s (λ n. get_or c.deref-5.result.now n None) _ _ _ _ (λ n. ap (λ r. get_or r n None) c.deref-5.ensures.value ∙ known.1 n)
    (events_are t s _ _ _ c.events_at-events.ensures c.deref-3.ensures.value refl) refl refl (c.deref-4.ensures.value ∙ c.in_ok-running.ensures.told) in
    subst (All (ArrivedBefore t (c.args.now + 1))) (sym (c.deref-7.ensures.value ∙ ap (λ (v : Turn). v.pending) (c.turn.view_is ∙ turned))) c.requires.arrived

module _ (c : After-drop-running-2) where
  abbrev t : Scenario
  t = scenario c.args.trace.now

  abbrev s : Snapshot
  s = standing c.args.now c.args.drained.now c.args.pending.now c.args.pieces.now

  turn_now : c.in_ok-turn.turn ≡ turn t s
  turn_now =
      let known = holders_known t s c.requires.nodes _ _ _ _ c.in_ok-holders.ensures refl c.count.ensures.value refl in
      c.in_ok-turn.ensures.turn
      ∙ turn_is t s (λ n. get_or c.deref-5.result.now n None) _ _ _ _ (λ n. ap (λ r. get_or r n None) c.deref-5.ensures.value ∙ known.1 n)
      (events_are t s _ _ _ c.events_at-events.ensures c.deref-3.ensures.value refl) refl refl (c.deref-4.ensures.value ∙ c.in_ok-running.ensures.told)

  turn_pending : c.deref-7.result.now ≡ (turn t s).pending
  turn_pending = c.deref-7.ensures.value ∙ ap (λ (v : Turn). v.pending) (c.turn.view_is ∙ turn_now)

  over_is : c.in_ok-over.over.items ≡ told (filter (is_over s.now) (staying t s))
  over_is =
      c.in_ok-over.ensures.told
      ∙ ap (λ r. told (filter (is_over s.now) (filter (λ p. not (has_ended s.now p) && runs r p.job) s.pieces)))
      (c.deref-6.ensures.value ∙ ap (λ (v : Turn). v.running) (c.turn.view_is ∙ turn_now))
      ∙ ap (λ ps. told (filter (is_over s.now) ps)) (filter_both (λ (p : Piece). not (has_ended s.now p)) (λ (p : Piece). runs (turn t s).running p.job) s.pieces)

pub returns-clause-drained : goal.returns-clause-drained
returns-clause-drained c = ap (λ (v : Turn). v.drained) (c.turn.view_is ∙ turn_now c)

pub returns-clause-pending : goal.returns-clause-pending
returns-clause-pending c = c.in_ok-parted.ensures.pending ∙ ap (filter (λ j. not (has_expired (t c) c.args.now j))) (turn_pending c)

pub returns-clause-running : goal.returns-clause-running
returns-clause-running c = ap (λ (v : Turn). v.running) (c.turn.view_is ∙ turn_now c)

pub returns-clause-rise : goal.returns-clause-rise
returns-clause-rise c = subst (λ (v : Turn). IsNonDecreasingBy (λ a. a.job) v.running) (sym c.turn.view_is) c.in_ok-turn.ensures.running

pub returns-clause-finished : goal.returns-clause-finished
returns-clause-finished c =
    c.in_ok-finished.ensures
    ∙ ap (λ r. finished r c.deref-2.result.now) (c.deref.ensures.value ∙ c.in_ok-running.ensures.told)
    ∙ ap (finished (told (running_on (s c)))) (c.deref-2.ensures.value ∙ c.in_ok-ended.ensures.told)

pub returns-clause-happened : goal.returns-clause-happened
returns-clause-happened c =
    same_occurrences c.in_ok-ended.ensures.told (ap (λ (v : Turn). v.cancelled) (c.turn.view_is ∙ turn_now c)) (ap (λ (v : Turn). v.failed) (c.turn.view_is ∙ turn_now c))
    (over_is c) (c.in_ok-parted.ensures.expired ∙ ap (filter (has_expired (t c) c.args.now)) (turn_pending c))

pub returns-clause-ended : goal.returns-clause-ended
returns-clause-ended c = c.in_ok-ended.ensures.leaves

pub returns-clause-over : goal.returns-clause-over
returns-clause-over c = c.in_ok-over.ensures.leaves

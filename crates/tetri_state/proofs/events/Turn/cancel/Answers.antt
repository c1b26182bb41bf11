use Rattle.std.proofs.Common.{rules, ◌≡◌, ◌∙◌, ◌||◌, ◌==◌, ap, sym, true, false, filter, not}
use Rattle.std.proofs.lemmas.Fn.{filter_same}
use Rattle.tetri_base.specs.Lists.{has}
use Rattle.tetri_state.specs.declared.happened.PieceId.{PieceId}
use Rattle.tetri_state.specs.Begin.{Turn, runs}
use Rattle.tetri_state.proofs.Ascending.{without_absent}
use Rattle.tetri_state.proofs.TurnLemmas.{cancel_done, cancel_passed, either_left, either_right}
use Rattle.tetri_state.proofs.events.Turn.cancel.Goals as goal
use Rattle.tetri_state.proofs.events.Turn.cancel.Goals.{then-waited-via-then-waited, then-waited-via-else-waited+then-runs}

pub returns-in_ok-push : goal.returns-in_ok-push
returns-in_ok-push c =
    let job = c.args.job in
    let v : Turn = record {
      drained = c.self.inside.drained.items;
      pending = c.self.inside.pending.items;
      running = c.self.inside.running.items;
      cancelled = c.self.inside.cancelled.items;
      failed = c.self.inside.failed.items;
    } in
    let some : (has v.pending job || runs v.running job) ≡ true = elim c.then-waited.branch [
      | then-waited-via-then-waited w ↦ either_left _ _ (sym c.leave-waited.ensures.was ∙ w.if-waited.true)
      | then-waited-via-else-waited+then-runs w ↦
          either_right _ _ (ap (λ xs. runs xs job) (sym w.deref.ensures.value) ∙ sym w.runs.ensures ∙ w.if-runs.true)
    ] in
    let kept : c.retain.new.self.items ≡ filter (λ (a : PieceId). not (a.job == job)) v.running = filter_same _ _ _ (λ x b f' k. search rules) _ _ c.retain.ensures.filtered in
    rw (c.leave-waited.ensures.left, kept, c.in_ok-push.ensures.items, ← c.self.view_is) (sym (cancel_done job v some))

pub returns-else-runs : goal.returns-else-runs
returns-else-runs c =
    let job = c.args.job in
    let v : Turn = record {
      drained = c.self.inside.drained.items;
      pending = c.self.inside.pending.items;
      running = c.self.inside.running.items;
      cancelled = c.self.inside.cancelled.items;
      failed = c.self.inside.failed.items;
    } in
    let waits : has v.pending job ≡ false = sym c.leave-waited.ensures.was ∙ c.if-waited.false in
    let runs_on : runs v.running job ≡ false = ap (λ xs. runs xs job) (sym c.deref.ensures.value) ∙ sym c.runs.ensures ∙ c.if-runs.false in
    rw (c.leave-waited.ensures.left, without_absent job v.pending waits, ← c.self.view_is) (sym (cancel_passed job v waits runs_on))

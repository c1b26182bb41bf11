use Rattle.std.proofs.Common.{rules, ◌≡◌, ◌∙◌, ◌==◌, ap, sym, true, false, filter, not}
use Rattle.std.proofs.lemmas.Fn.{filter_same}
use Rattle.tetri_state.specs.declared.happened.PieceId.{PieceId}
use Rattle.tetri_state.specs.Begin.{Turn, runs}
use Rattle.tetri_state.proofs.TurnLemmas.{fail_done, fail_passed}
use Rattle.tetri_state.proofs.events.Turn.fail.Goals as goal

pub returns-in_ok-push : goal.returns-in_ok-push
returns-in_ok-push c =
    let job = c.args.job in
    let v : Turn = record {
      drained = c.self.inside.drained.items;
      pending = c.self.inside.pending.items;
      running = c.self.inside.running.items;
      cancelled = c.self.inside.cancelled.items;
      failed = c.self.inside.failed.items;
    } in
    let runs_on : runs v.running job ≡ true = ap (λ xs. runs xs job) (sym c.deref.ensures.value) ∙ sym c.runs.ensures ∙ c.if-runs.true in
    let kept : c.retain.new.self.items ≡ filter (λ (a : PieceId). not (a.job == job)) v.running = filter_same _ _ _ (λ x b f' k. search rules) _ _ c.retain.ensures.filtered in
    rw (c.in_ok-put_number.ensures, kept, c.in_ok-push.ensures.items, ← c.self.view_is) (sym (fail_done job v runs_on))

pub returns-else-runs : goal.returns-else-runs
returns-else-runs c =
    let job = c.args.job in
    let v : Turn = record {
      drained = c.self.inside.drained.items;
      pending = c.self.inside.pending.items;
      running = c.self.inside.running.items;
      cancelled = c.self.inside.cancelled.items;
      failed = c.self.inside.failed.items;
    } in
    let runs_on : runs v.running job ≡ false = ap (λ xs. runs xs job) (sym c.deref.ensures.value) ∙ sym c.runs.ensures ∙ c.if-runs.false in
    rw (← c.self.view_is) (sym (fail_passed job v runs_on))

use Rattle.std.proofs.Common.{◌∙◌, sym}
use Rattle.tetri_state.specs.declared.happened.PieceId.{PieceId}
use Rattle.tetri_state.proofs.ToldLemmas.{finished_passed, finished_told}
use Rattle.tetri_state.proofs.told.finished.Goals as goal
use Rattle.tetri_state.proofs.told.finished.Goals.{then-is_finished+in_ok-push, else-is_finished}

pub loop-place-preserved : goal.loop-place-preserved
loop-place-preserved c =
    let d : PieceId = record { job = 0; leaf = 0 } in
    elim c.if-is_finished.branch [
      | then-is_finished+in_ok-push w ↦
          rw (w.jobs-is, w.in_ok-push.ensures.items)
          (finished_told c.args.running.now c.args.ended.now c.loop-place.place d c.loop-place-test.true c.loop-place.jobs.items
          (sym w.if-is_finished.true ∙ c.is_finished.ensures d) ∙ c.loop-place.invariant)
      | else-is_finished w ↦
          rw w.jobs-is
          (finished_passed c.args.running.now c.args.ended.now c.loop-place.place d c.loop-place-test.true c.loop-place.jobs.items
          (sym w.if-is_finished.false ∙ c.is_finished.ensures d) ∙ c.loop-place.invariant)
    ]

use Rattle.tetri_assign.specs.Assigned.{gathered}
use Rattle.tetri_assign.specs.declared.held.Held.{Held}
use Rattle.tetri_assign.proofs.GatherLemmas.{follows, last_step, more_step, none_follows, one_follows}
use Rattle.tetri_assign.proofs.gathering.gather.Goals as goal
use Rattle.tetri_assign.proofs.gathering.gather.Goals.{then-is_last+in_ok-push-2, else-is_last}

pub loop-place-preserved : goal.loop-place-preserved
loop-place-preserved c =
    let d : Held = record { job = 0; leaf = 0; node = 0 } in
    let hs = c.args.held.now in
    let i = c.loop-place.place in
    let lt = c.loop-place-test.true in
    elim c.if-is_last.branch [
      | then-is_last+in_ok-push-2 w ↦
          let e = none_follows (follows hs i d lt) c.is_last.result (c.is_last.ensures d) w.if-is_last.true in
          rw (w.grants-is, w.nodes-is, w.in_ok-push-2.ensures.ok, w.replace-full.ensures.after, w.replace-full.ensures.value, w.new.ensures, c.in_ok-push.ensures.ok)
          (last_step hs i d lt c.loop-place.grants (gathered hs) c.loop-place.nodes e c.loop-place.invariant)
      | else-is_last w ↦
          let e = one_follows (follows hs i d lt) c.is_last.result (c.is_last.ensures d) w.if-is_last.false in
          rw (w.grants-is, w.nodes-is, c.in_ok-push.ensures.ok)
          (more_step hs i d lt c.loop-place.grants (gathered hs) c.loop-place.nodes e c.loop-place.invariant)
    ]

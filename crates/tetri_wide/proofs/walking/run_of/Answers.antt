use Rattle.std.proofs.Common.{◌+◌, ◌<◌, length, drop, arith}
use Rattle.tetri_compile.specs.Forms.{run}
use Rattle.tetri_compile.proofs.OutlineLemmas.{run_next}
use Rattle.tetri_wide.specs.Sketch.{share_of}
use Rattle.tetri_wide.proofs.ListSteps.{map_next}
use Rattle.tetri_wide.proofs.walking.run_of.Goals as goal

pub loop-place-preserved : goal.loop-place-preserved
loop-place-preserved c = λ xs e.
    let k = c.loop-place.place in
    let rest = run c.args.by (c.args.first + (k + 1)) (drop (k + 1) xs) in
    let lt : k < length xs = omega (arith, e, c.loop-place-test.true) in
    map_next share_of c.loop-place.shares.items _ _ rest _ _ c.in_ok-push.ensures.items (run_next c.args.by c.args.first xs k lt) (c.loop-place.invariant xs e)

use Rattle.std.proofs.Common.{◌<◌, arith, length}
use Rattle.tetri_cuts.proofs.CopyLemmas.{rows_push}
use Rattle.tetri_cuts.proofs.copies.copy_rows.Goals as goal

pub loop-i-preserved : goal.loop-i-preserved
loop-i-preserved c =
    let l : c.loop-i.i < length c.args.p.now.rows.items = omega arith in
    let h = c.in_ok-push.ensures.items in
    let k = c.in_ok-copy.ensures in
    let g = c.index.ensures in
    rows_push c.args.p.now.rows.items c.loop-i.copies.items _ c.loop-i.i c.index.result.now c.in_ok-copy.copy l c.index.ensures c.in_ok-copy.ensures.terms c.in_ok-copy.ensures.right c.in_ok-push.ensures.items c.loop-i.invariant

use Rattle.std.proofs.Common.{◌==◌, ℕ, ◌<◌, cond, length, get_or, set, ap, ◌∙◌, arith}
use Rattle.std.proofs.lemmas.List.{get_or_default}
use Rattle.std.proofs.lemmas.List.Edits.{map_over_more}
use Rattle.tetri_split.proofs.labels.rename.Goals as goal

pub loop-label-preserved : goal.loop-label-preserved
loop-label-preserved c =
    let ys = c.loop-label.labels in
    let i = c.loop-label.label-index in
    let within : i < length ys = omega arith in
    ap (set ys i) c.renamed.ensures
    ∙ map_over_more (λ (x : ℕ). cond (x == c.args.lost) c.args.kept x) c.args.labels.now ys i (get_or ys i 0) c.loop-label-test.true c.loop-label.invariant
    (get_or_default ys i 0 (get_or ys i 0) within)

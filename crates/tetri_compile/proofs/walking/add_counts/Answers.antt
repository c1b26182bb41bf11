use Rattle.std.proofs.Common.{◌<◌, ℕ, List, length, get_or, ap, ◌∙◌, arith}
use Rattle.tetri_space.specs.Partitions.{partitions, parts_in}
use Rattle.tetri_space.specs.Space.{space}
use Rattle.tetri_compile.proofs.OutlineLemmas.{inside_below}
use Rattle.tetri_compile.proofs.walking.add_counts.Goals as goal

pub usable_by-usable-requires-clause-there : goal.usable_by-usable-requires-clause-there
usable_by-usable-requires-clause-there c =
    let s = space c.args.inst.now in
    let k = c.loop-part.part-index in
    let same = c.parts_in-part-items.ensures ∙ c.requires.ready.parts in
    let lt : k < length (parts_in s (partitions s) c.args.leaf.now.set) = omega (arith, ap length same, c.loop-part-test.true) in
    omega (arith, inside_below s (partitions s) c.args.leaf.now.set k lt, ap (λ (ps : List ℕ). get_or ps k 0) same)

use Rattle.std.proofs.Common.{◌≡◌, ◌++◌, drop, take, filter}
use Rattle.tetri_advice.specs.Fit.{is_available, lowest}
use Rattle.tetri_space.specs.Space.{space}
use Rattle.tetri_space.specs.Slots.{is_marked}
use Rattle.tetri_greedy.proofs.fits.lowest.Given as goal

abbrev pub invariant-loop-node : goal.invariant-loop-node
invariant-loop-node l =
    l.nodes
    ++ take l.left (filter (is_available (space l.inst) (is_marked l.held (space l.inst).now) l.own.placements l.leaf) (drop l.node-index l.set)) ≡
    lowest (space l.inst) (is_marked l.held (space l.inst).now) l.own.placements l.leaf

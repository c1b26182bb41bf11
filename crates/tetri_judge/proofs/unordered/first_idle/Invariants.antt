use Rattle.std.proofs.Common.{◌≡◌, drop, map, Vec, ℕ}
use Rattle.std.specs.Global.{Global}
use Rattle.std.specs.List.{position_from}
use Rattle.tetri_judge.specs.Wasted.{is_idle_among}
use Rattle.tetri_space.specs.Space.{space}
use Rattle.tetri_judge.proofs.unordered.first_idle.Given as goal

abbrev pub invariant-loop-place : goal.invariant-loop-place
invariant-loop-place l =
    let passes = is_idle_among (space l.inst).bids (map (λ (ns : Vec ℕ Global). ns.items) l.idle) in
    position_from passes l.place (drop l.place l.grants) ≡ position_from passes 0 l.grants

use Rattle.std.proofs.Common.{length, ap, arith}
use Rattle.tetri_greedy.proofs.Placing.{placements-length}
use Rattle.tetri_greedy.proofs.fitted.Placements.len.Goals as goal

pub returns : goal.returns
returns c =
    let same = ap (λ f. length f.placements) c.self.view_is in
    omega (
      arith,
      c.len.ensures,
      c.self.inside.leaves.ok.0,
      same,
      placements-length c.self.inside.job c.self.inside.leaves.items c.self.inside.grants.items c.self.invariant,
    )

use Rattle.std.proofs.Common.{ap}
use Rattle.tetri_greedy.proofs.Placing.{placements-take, take_grants}
use Rattle.tetri_greedy.proofs.fitted.Placements.truncate.Goals as goal

pub invariant_of-self : goal.invariant_of-self
invariant_of-self c =
    rw (c.truncate.ensures.items, c.truncate-2.ensures.items)
    (take_grants c.self.inside.job c.args.len c.self.inside.leaves.items c.self.inside.grants.items c.self.invariant)

pub returns : goal.returns
returns c =
    rw (c.truncate.ensures.items, c.truncate-2.ensures.items, ← c.self.view_is)
    (ap (λ ps. record { job = c.self.inside.job; placements = ps })
    (placements-take c.self.inside.job c.args.len c.self.inside.leaves.items c.self.inside.grants.items c.self.invariant))

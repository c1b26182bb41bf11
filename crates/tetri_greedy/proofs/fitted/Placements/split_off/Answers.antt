use Rattle.std.proofs.Common.{length, ap, arith}
use Rattle.tetri_greedy.proofs.Placing.{as_many, drop_grants, placements-drop, placements-length, placements-take, take_grants}
use Rattle.tetri_greedy.proofs.fitted.Placements.split_off.Goals as goal

pub split_off-requires : goal.split_off-requires
split_off-requires c =
    let same = ap (λ f. length f.placements) c.self.view_is in
    omega (
      arith,
      c.requires,
      c.self.inside.leaves.ok.0,
      same,
      placements-length c.self.inside.job c.self.inside.leaves.items c.self.inside.grants.items c.self.invariant,
    )

pub split_off-requires-2 : goal.split_off-requires-2
split_off-requires-2 c =
    let same = ap (λ f. length f.placements) c.self.view_is in
    omega (
      arith,
      c.requires,
      c.self.inside.grants.ok.0,
      same,
      as_many c.self.inside.job c.self.inside.leaves.items c.self.inside.grants.items c.self.invariant,
      placements-length c.self.inside.job c.self.inside.leaves.items c.self.inside.grants.items c.self.invariant,
    )

pub invariant_of-result : goal.invariant_of-result
invariant_of-result c =
    rw (c.in_ok-leaves.ensures.tail, c.in-Ok.ensures.tail)
    (drop_grants c.self.inside.job c.args.at c.self.inside.leaves.items c.self.inside.grants.items c.self.invariant)

pub invariant_of-self-in-Ok : goal.invariant_of-self-in-Ok
invariant_of-self-in-Ok c =
    rw (c.in_ok-leaves.ensures.items, c.in-Ok.ensures.items)
    (take_grants c.self.inside.job c.args.at c.self.inside.leaves.items c.self.inside.grants.items c.self.invariant)

pub invariant_of-self-in-Err-1 : goal.invariant_of-self-in-Err-1
invariant_of-self-in-Err-1 c =
    rw (c.in_ok-leaves.ensures.items, c.truncate.ensures.items, c.in-Err.ensures.err)
    (take_grants c.self.inside.job c.args.at c.self.inside.leaves.items c.self.inside.grants.items c.self.invariant)

pub returns-in-Ok-clause-rest : goal.returns-in-Ok-clause-rest
returns-in-Ok-clause-rest c =
    rw (c.in_ok-leaves.ensures.tail, c.in-Ok.ensures.tail, ← c.self.view_is)
    (ap (λ ps. record { job = c.self.inside.job; placements = ps })
    (placements-drop c.self.inside.job c.args.at c.self.inside.leaves.items c.self.inside.grants.items c.self.invariant))

pub returns-in-Ok-clause-kept : goal.returns-in-Ok-clause-kept
returns-in-Ok-clause-kept c =
    rw (c.in_ok-leaves.ensures.items, c.in-Ok.ensures.items, ← c.self.view_is)
    (ap (λ ps. record { job = c.self.inside.job; placements = ps })
    (placements-take c.self.inside.job c.args.at c.self.inside.leaves.items c.self.inside.grants.items c.self.invariant))

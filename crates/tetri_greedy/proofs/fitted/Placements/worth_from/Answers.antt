use Rattle.std.proofs.Common.{length, drop, ap, arith, ◌∙◌}
use Rattle.tetri_strl.specs.Tree.{tree}
use Rattle.tetri_strl.specs.Worth.{worth_of}
use Rattle.tetri_greedy.proofs.Placing.{as_many, later_grants, placements-length}
use Rattle.tetri_greedy.proofs.fitted.Placements.worth_from.Goals as goal

pub later-requires : goal.later-requires
later-requires c =
    let same = ap (λ f. length f.placements) c.self.view_is in
    omega (
      arith,
      c.requires.within,
      same,
      ap length c.deref.ensures.value,
      as_many c.self.inside.job c.self.inside.leaves.items c.self.inside.grants.items c.self.invariant,
      placements-length c.self.inside.job c.self.inside.leaves.items c.self.inside.grants.items c.self.invariant,
    )

pub returns : goal.returns
returns c =
    rw (← c.self.view_is)
    (c.worth_among.ensures
    ∙ ap (λ gs. worth_of gs c.self.inside.job (tree c.args.e.now))
    (c.later.ensures ∙ ap (drop c.args.place) c.deref.ensures.value
    ∙ later_grants c.self.inside.job c.args.place c.self.inside.leaves.items c.self.inside.grants.items c.self.invariant))

use Rattle.std.proofs.Common.{All, subst}
use Rattle.std.specs.List.Sorted.{IsStrictlyIncreasing}
use Rattle.tetri_space.specs.Space.{space}
use Rattle.tetri_advice.proofs.GreedyLemmas.{greedy_lawful}
use Rattle.tetri_advice.proofs.laws.greedy_lists_are_lawful.Goals as goal

pub returns : goal.returns
returns c =
    greedy_lawful (space c.args.inst.now) c.requires (subst (All IsStrictlyIncreasing) c.deref.ensures c.len-sets.ensures.are_sets.ascending)

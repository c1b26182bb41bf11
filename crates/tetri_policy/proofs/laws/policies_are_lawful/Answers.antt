use Rattle.std.proofs.Common.{All, subst}
use Rattle.std.specs.List.Sorted.{IsStrictlyIncreasing}
use Rattle.tetri_space.specs.Space.{space}
use Rattle.tetri_space.proofs.InstanceLaws.{lawful_trimmed, thrifty_trimmed}
use Rattle.tetri_policy.specs.Policies.{starts_by}
use Rattle.tetri_policy.proofs.PolicyLemmas.{starts_lawful}
use Rattle.tetri_policy.proofs.laws.policies_are_lawful.Goals as goal

pub returns-clause-lawful : goal.returns-clause-lawful
returns-clause-lawful c =
    let s = space c.args.inst.now in
    let sets = subst (All IsStrictlyIncreasing) c.deref.ensures c.len-sets.ensures.are_sets.ascending in
    λ p. lawful_trimmed s c.requires (starts_by p s) (starts_lawful s c.requires sets p)

pub returns-clause-thrifty : goal.returns-clause-thrifty
returns-clause-thrifty c = λ p. thrifty_trimmed (space c.args.inst.now) c.requires (starts_by p (space c.args.inst.now))

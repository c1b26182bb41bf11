use Rattle.std.proofs.Common.{None}
use Rattle.std.proofs.lemmas.Bool.{iff_false}
use Rattle.tetri_space.specs.Space.{space}
use Rattle.tetri_space.proofs.SearchLemmas.{none_found, leaf_found}
use Rattle.tetri_space.proofs.RuleLemmas.{from_one, from_two, not_live_none, not_live}
use Rattle.tetri_space.proofs.rules.live_leaf.Goals as goal

pub returns-in_default-clause-first : goal.returns-in_default-clause-first
returns-in_default-clause-first c = λ earlier. record {
  broken = none_found _ c.args.grant.now.job c.in_default.ensures;
  first = from_one (space c.args.inst.now) earlier c.args.grant.now;
}

pub returns-in_default-leaf_numbered-clause-first : goal.returns-in_default-leaf_numbered-clause-first
returns-in_default-leaf_numbered-clause-first c = λ earlier. record {
  broken = not_live_none (space c.args.inst.now) earlier c.args.grant.now
      (leaf_found (space c.args.inst.now).bids c.args.grant.now.job c.args.grant.now.leaf _ None c.leaf_numbered.result c.in-Some.ensures c.leaf_numbered.ensures c.in_default-leaf_numbered.is);
  first = from_two (space c.args.inst.now) earlier c.args.grant.now _ c.in-Some.ensures;
}

pub returns-then-is_live-clause-leaf : goal.returns-then-is_live-clause-leaf
returns-then-is_live-clause-leaf c =
    leaf_found (space c.args.inst.now).bids c.args.grant.now.job c.args.grant.now.leaf _ _ c.leaf_numbered.result c.in-Some.ensures c.leaf_numbered.ensures c.in-Some-leaf_numbered.is

pub returns-else-is_live-clause-first : goal.returns-else-is_live-clause-first
returns-else-is_live-clause-first c = λ earlier.
    let found = leaf_found (space c.args.inst.now).bids c.args.grant.now.job c.args.grant.now.leaf _ _ c.leaf_numbered.result c.in-Some.ensures c.leaf_numbered.ensures c.in-Some-leaf_numbered.is in
    record {
      broken = not_live (space c.args.inst.now) earlier c.args.grant.now c.in-Some-leaf_numbered.leaf found (iff_false c.is_live.ensures c.if-is_live.false);
      first = from_two (space c.args.inst.now) earlier c.args.grant.now _ c.in-Some.ensures;
    }

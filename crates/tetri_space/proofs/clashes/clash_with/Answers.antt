use Rattle.std.proofs.Common.{Contains, subst, sym, ◌∙◌}
use Rattle.tetri_space.specs.Broken.{HasCommonSlot}
use Rattle.tetri_space.specs.Space.{space}
use Rattle.tetri_space.proofs.ClashLemmas.{of_value}
use Rattle.tetri_space.proofs.SearchLemmas.{offered_leaf}
use Rattle.tetri_space.proofs.clashes.clash_with.Goals as goal

pub returns-in_default : goal.returns-in_default
returns-in_default c = λ m at. c.in_default.ensures m at.0 (subst (λ xs. Contains xs m) (sym c.as_slice.ensures) at.1)

pub overlap-requires-clause-other_good : goal.overlap-requires-clause-other_good
overlap-requires-clause-other_good c =
    (offered_leaf (space c.args.inst.now) c.args.grant.now.job c.args.grant.now.leaf c.in-Some-leaf_of.other c.requires.sound (sym c.leaf_of.ensures ∙ c.in-Some-leaf_of.is)).0

pub returns-then-overlap : goal.returns-then-overlap
returns-then-overlap c =
    let common = c.in-Some.ensures in record {
      holds = (
        common.holds.0,
        subst (λ xs. Contains xs c.in-Some.node) c.as_slice.ensures common.holds.1,
        of_value _ (HasCommonSlot c.args.leaf.now) c.in-Some-leaf_of.other (sym c.leaf_of.ensures ∙ c.in-Some-leaf_of.is) (c.overlap.ensures.0 c.if-overlap.true),
      );
      least = λ m at. common.least m (at.0, subst (λ xs. Contains xs m) (sym c.as_slice.ensures) at.1);
    }

use Rattle.std.proofs.Common.{◌≡◌, ◌+◌, ◌∙◌, ap, sym}
use Rattle.std.specs.Prelude.{Some}
use Rattle.std.specs.Option.{option_map}
use Rattle.tetri_space.specs.Space.{bid, space}
use Rattle.tetri_strl.specs.Prune.{pruned}
use Rattle.tetri_strl.specs.Tree.{tree}
use Rattle.tetri_policy.proofs.LeftLemmas.{left_good, left_known}
use Rattle.tetri_policy.proofs.starting.start_at.Goals as goal

pub start_with-requires-clause-good : goal.start_with-requires-clause-good
start_with-requires-clause-good c =
    let b = bid c.args.offer.now in
    let slot = c.args.slot in
    let left : pruned slot (slot + 1) b.expr ≡ Some (tree c.in-Some.left) = sym c.in_ok-left.ensures.expression ∙ ap (option_map tree) c.in-Some.is in
    left_good (space c.args.inst.now) c.requires.sound b c.requires.pending slot (slot + 1) (tree c.in-Some.left) left

pub start_with-requires-clause-known : goal.start_with-requires-clause-known
start_with-requires-clause-known c =
    let b = bid c.args.offer.now in
    let slot = c.args.slot in
    let left : pruned slot (slot + 1) b.expr ≡ Some (tree c.in-Some.left) = sym c.in_ok-left.ensures.expression ∙ ap (option_map tree) c.in-Some.is in
    left_known (space c.args.inst.now) c.requires.sound b c.requires.pending slot (slot + 1) (tree c.in-Some.left) left

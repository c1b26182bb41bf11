use Rattle.std.proofs.Common.{◌≡◌, ◌∙◌, ap, rules}
use Rattle.std.proofs.lemmas.Int.{to_z-of_z}
use mir.Val.{SFits, of_z, to_z}
use mir.Syntax.{w128}
use Rattle.tetri_ip.specs.Forming.{add_product}
use Rattle.tetri_ip.specs.Points.{bounds_of}
use Rattle.tetri_ip.specs.Weighed.{bound_taken}
use Rattle.tetri_ip.proofs.Steps.{bound_lower, bound_upper}
use Rattle.tetri_ip.proofs.weighing.add_bound.Goals as goal
use Rattle.tetri_ip.proofs.weighing.add_bound.Goals.{then-by-gt0, else-by-gt0}

pub returns : goal.returns
returns c =
    let b = bounds_of c.args.r.now in
    let by = to_z-of_z w128 c.args.by c.ranges.by in
    let sum = to_z-of_z w128 c.args.sum c.ranges.sum in
    let taken : to_z w128 c.if-by-gt0.bound-bits ≡ bound_taken b c.args.j c.args.by = elim c.if-by-gt0.branch [
      | then-by-gt0 w ↦ (
          let g : SFits w128 w.index.result.now = search rules in
          bound_upper b c.args.j c.args.by _ w.index.result.now _ _ w.if-by-gt0.true by c.requires.upper w.index.ensures (to_z-of_z _ _ g) w.bound-is)
      | else-by-gt0 w ↦ (
          let g : SFits w128 w.index-else-by-gt0.result.now = search rules in
          bound_lower b c.args.j c.args.by _ w.index-else-by-gt0.result.now _ _ w.if-by-gt0.false by c.requires.lower w.index-else-by-gt0.ensures (to_z-of_z _ _ g) w.bound-is)
    ] in
    c.add_product.ensures
    ∙ ap (λ k. add_product k (to_z w128 (of_z w128 c.args.by)) (to_z w128 c.if-by-gt0.bound-bits)) sum
    ∙ ap (λ k. add_product c.args.sum k (to_z w128 c.if-by-gt0.bound-bits)) by
    ∙ ap (λ k. add_product c.args.sum c.args.by k) taken

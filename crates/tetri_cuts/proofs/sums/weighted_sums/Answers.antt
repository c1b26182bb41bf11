use Rattle.std.proofs.Common.{sym, ap, ◌∙◌, Some, Option, cond}
use Rattle.std.specs.Prelude.{is_none}
use Rattle.std.proofs.lemmas.Int.{to_z-of_z}
use lib.IntN.{ℤ}
use Rattle.tetri_cuts.specs.Cuts.{past_from}
use Rattle.tetri_cuts.proofs.CutSteps.{right_formed}
use Rattle.tetri_cuts.proofs.sums.weighted_sums.Goals as goal

pub returns-clause-sums : goal.returns-clause-sums
returns-clause-sums c =
    let e = sym c.right_sum.ensures ∙ c.in-Some.is in
    let right = right_formed c.args.p.now.rows.items c.args.weights.now c.in-Some.right _ e (λ u. to_z-of_z _ _ u) in
    record {
      columns = c.in_ok-columns.ensures.sums;
      right = right.is;
      columns_within = c.in_ok-columns.ensures.within;
      right_within = right.within;
      formed = ap (λ (o : Option ℤ). cond (is_none o) (Some 0) (past_from c.args.p.now.rows.items c.args.weights.now 0 c.args.p.now.costs.items)) e ∙ c.in_ok-columns.ensures.formed;
    }

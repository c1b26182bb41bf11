use Rattle.std.proofs.Common.{sym, ap, subst, ◌∙◌, arith, length, List}
use Rattle.std.specs.Prelude.{◌≤ℤ◌}
use Rattle.std.proofs.lemmas.Int.{to_z-of_z}
use Rattle.std.specs.Int.{int_div_euclid}
use lib.IntN.{ℤ}
use Rattle.tetri_ip.specs.declared.programs.Term.{Term}
use Rattle.tetri_ip.specs.Points.{left_side}
use Rattle.tetri_cuts.specs.Cuts.{cut_terms, quotients}
use Rattle.tetri_cuts.proofs.CutLaw.{cut_met}
use Rattle.tetri_cuts.proofs.CutSteps.{length-sums_from}
use Rattle.tetri_cuts.proofs.cuts.cut.Goals as goal

pub divided-requires-clause-few : goal.divided-requires-clause-few
divided-requires-clause-few c =
    let e = ap (λ (v : List ℤ). length v) c.in_ok-sums.ensures.sums.columns ∙ length-sums_from c.args.p.now.rows.items c.args.weights.now 0 c.args.p.now.costs.items in
    omega (arith, e, c.requires.fit.few_columns)

pub returns-clause-row : goal.returns-clause-row
returns-clause-row c = record {
  terms =
      c.in_ok-row.ensures.terms ∙ ap (λ y. quotients y 0 c.in_ok-sums.sums.columns.items) (to_z-of_z _ _ c.ranges.q)
      ∙ ap (λ (v : List ℤ). quotients c.args.q 0 v) c.in_ok-sums.ensures.sums.columns;
  right =
      c.in_ok-row.ensures.right ∙ ap (λ y. int_div_euclid c.in_ok-sums.sums.right y) (to_z-of_z _ _ c.ranges.q)
      ∙ ap (λ (z : ℤ). int_div_euclid z c.args.q) c.in_ok-sums.ensures.sums.right;
}

pub returns-clause-met : goal.returns-clause-met
returns-clause-met c point is =
    let row = returns-clause-row c in
    subst (λ (ts : List Term). left_side ts point ≤ℤ c.in_ok-row.row.right) (sym row.terms)
    (subst (λ (z : ℤ). left_side (cut_terms c.args.p.now c.args.q c.args.weights.now) point ≤ℤ z) (sym row.right)
    (cut_met c.args.p.now c.args.q c.args.weights.now c.requires.divisor c.requires.lower c.requires.rows c.requires.weights point is))

use Rattle.std.proofs.Common.{ℕ, ◌<◌, List, Some, length, ◌∙◌, ap, arith, refl, rules, sym, subst}
use Rattle.std.proofs.lemmas.Int.{to_z-of_z}
use mir.Val.{SFits}
use mir.Syntax.{w128}
use Rattle.tetri_ip.specs.declared.programs.Term.{Term}
use Rattle.tetri_ip.specs.Forming.{coefficients, subtract_product}
use Rattle.tetri_ip.specs.Points.{coefficient, column_at, number_at}
use Rattle.tetri_ip.specs.Weighed.{weight_at}
use Rattle.tetri_ip.proofs.Steps.{put_step, row_ascends, terms_of_at}
use Rattle.tetri_ip.proofs.by_row.subtract_rows.Goals as goal

pub subtract_row-requires-clause-ascending : goal.subtract_row-requires-clause-ascending
subtract_row-requires-clause-ascending c =
    let w = weight_at c.args.weights.now c.loop-w.w-index in
    let k : w.row < length c.args.p.now.rows.items = c.requires.rows c.loop-w.w-index _ c.loop-w-test.true in
    row_ascends c.args.p.now w.row c.index.result.now c.requires.fit k c.index.ensures

pub subtract_row-requires-clause-columns : goal.subtract_row-requires-clause-columns
subtract_row-requires-clause-columns c =
    let w = weight_at c.args.weights.now c.loop-w.w-index in
    let k : w.row < length c.args.p.now.rows.items = c.requires.rows c.loop-w.w-index _ c.loop-w-test.true in
    subst (λ (ts : List Term). (m : ℕ) → m < length ts → column_at ts m < length c.loop-w.factors) (terms_of_at c.args.p.now.rows.items w.row c.index.result.now k c.index.ensures)
    (λ m lt. omega (arith, (c.requires.fit.rows w.row k).columns m lt, c.requires.length, c.loop-w.invariant.count))

pub loop-w-preserved : goal.loop-w-preserved
loop-w-preserved c =
    let w = weight_at c.args.weights.now c.loop-w.w-index in
    let k : w.row < length c.args.p.now.rows.items = c.requires.rows c.loop-w.w-index _ c.loop-w-test.true in
    let by : SFits w128 w.by = search rules in
    record {
      count = c.subtract_row.auto.factors ∙ c.loop-w.invariant.count;
      in_range = c.if-not-subtract_row.ensures.in_range refl;
      taken = λ j lt.
          let inside : j < length c.loop-w.factors = omega (arith, lt, c.loop-w.invariant.count) in
          sym (put_step subtract_product (coefficients c.args.p.now.rows.items j) c.args.weights.now c.loop-w.w-index _ (number_at c.loop-w.factors j) _ _ (Some (number_at c.subtract_row.new.factors j))
          c.loop-w-test.true (to_z-of_z _ _ by) (sym (ap (λ (ts : List Term). coefficient ts j) (terms_of_at c.args.p.now.rows.items w.row c.index.result.now k c.index.ensures))) (sym (c.if-not-subtract_row.ensures.taken refl j inside)))
          ∙ c.loop-w.invariant.taken j lt;
    }

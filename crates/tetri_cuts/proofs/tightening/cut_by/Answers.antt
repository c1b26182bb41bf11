use Rattle.std.proofs.Common.{sym, ap, ◌∙◌, arith, length, List, rules}
use Rattle.std.specs.Prelude.{◌*ℤ◌}
use Rattle.std.proofs.lemmas.Int.{to_z-of_z}
use lib.IntN.{ℤ, pos}
use mir.Val.{SFits, of_z, to_z}
use mir.Syntax.{w128}
use Rattle.tetri_dictionary.specs.Fractions.{values}
use Rattle.tetri_cuts.proofs.CutSteps.{length-sums_from}
use Rattle.tetri_cuts.proofs.PassLemmas.{cut_of_sums, divisor_is, not_within, passes_from, passes_to, product_is, right_of_sums, terms_of_sums}
use Rattle.tetri_cuts.proofs.tightening.cut_by.Goals as goal

pub returns-in_default : goal.returns-in_default
returns-in_default c h =
    let f : SFits w128 c.from.result = search rules in
    not_within (c.args.q *ℤ pos c.args.d) (sym (product_is _ _ _ _ _ c.product.ensures (to_z-of_z _ _ c.ranges.q) (to_z-of_z _ _ f ∙ c.from.ensures)) ∙ c.in_default.is) h.in_range

pub divided-requires-clause-few : goal.divided-requires-clause-few
divided-requires-clause-few c =
    let e = ap (λ (v : List ℤ). length v) c.requires.sums.columns ∙ length-sums_from c.args.p.now.rows.items c.args.weights.now 0 c.args.p.now.costs.items in
    omega (arith, e, c.requires.fit.few_columns)

pub divided-requires-clause-divisor : goal.divided-requires-clause-divisor
divided-requires-clause-divisor c =
    let f : SFits w128 c.from.result = search rules in
    let o = product_is _ _ _ _ _ c.product.ensures (to_z-of_z _ _ c.ranges.q) (to_z-of_z _ _ f ∙ c.from.ensures) in
    let divisor = divisor_is _ c.args.q c.args.d c.in-Some.divisor (to_z w128 (of_z w128 c.in-Some.divisor)) o c.in-Some.is (λ u. to_z-of_z _ _ u) c.requires.multiplier c.requires.divisor in
    divisor.positive

pub passes-requires-clause-ascending : goal.passes-requires-clause-ascending
passes-requires-clause-ascending c =
    let f : SFits w128 c.from.result = search rules in
    let o = product_is _ _ _ _ _ c.product.ensures (to_z-of_z _ _ c.ranges.q) (to_z-of_z _ _ f ∙ c.from.ensures) in
    let divisor = divisor_is _ c.args.q c.args.d c.in-Some.divisor (to_z w128 (of_z w128 c.in-Some.divisor)) o c.in-Some.is (λ u. to_z-of_z _ _ u) c.requires.multiplier c.requires.divisor in
    (terms_of_sums c.args.p.now c.args.weights.now c.args.sums.now _ c.in_ok-row.row c.requires.sums c.in_ok-row.ensures.terms c.in_ok-row.ensures.right divisor.positive).ascending

pub passes-requires-clause-columns : goal.passes-requires-clause-columns
passes-requires-clause-columns c =
    let f : SFits w128 c.from.result = search rules in
    let o = product_is _ _ _ _ _ c.product.ensures (to_z-of_z _ _ c.ranges.q) (to_z-of_z _ _ f ∙ c.from.ensures) in
    let divisor = divisor_is _ c.args.q c.args.d c.in-Some.divisor (to_z w128 (of_z w128 c.in-Some.divisor)) o c.in-Some.is (λ u. to_z-of_z _ _ u) c.requires.multiplier c.requires.divisor in
    (terms_of_sums c.args.p.now c.args.weights.now c.args.sums.now _ c.in_ok-row.row c.requires.sums c.in_ok-row.ensures.terms c.in_ok-row.ensures.right divisor.positive).before

pub passes-requires-clause-numbers : goal.passes-requires-clause-numbers
passes-requires-clause-numbers c =
    let f : SFits w128 c.from.result = search rules in
    let o = product_is _ _ _ _ _ c.product.ensures (to_z-of_z _ _ c.ranges.q) (to_z-of_z _ _ f ∙ c.from.ensures) in
    let divisor = divisor_is _ c.args.q c.args.d c.in-Some.divisor (to_z w128 (of_z w128 c.in-Some.divisor)) o c.in-Some.is (λ u. to_z-of_z _ _ u) c.requires.multiplier c.requires.divisor in
    (terms_of_sums c.args.p.now c.args.weights.now c.args.sums.now _ c.in_ok-row.row c.requires.sums c.in_ok-row.ensures.terms c.in_ok-row.ensures.right divisor.positive).numbers

pub passes-requires-clause-right : goal.passes-requires-clause-right
passes-requires-clause-right c =
    let f : SFits w128 c.from.result = search rules in
    let o = product_is _ _ _ _ _ c.product.ensures (to_z-of_z _ _ c.ranges.q) (to_z-of_z _ _ f ∙ c.from.ensures) in
    let divisor = divisor_is _ c.args.q c.args.d c.in-Some.divisor (to_z w128 (of_z w128 c.in-Some.divisor)) o c.in-Some.is (λ u. to_z-of_z _ _ u) c.requires.multiplier c.requires.divisor in
    right_of_sums c.args.p.now c.args.weights.now c.args.sums.now _ c.in_ok-row.row c.requires.sums c.in_ok-row.ensures.terms c.in_ok-row.ensures.right divisor.positive

pub returns-then-not-passes : goal.returns-then-not-passes
returns-then-not-passes c h =
    let f : SFits w128 c.from.result = search rules in
    let o = product_is _ _ _ _ _ c.product.ensures (to_z-of_z _ _ c.ranges.q) (to_z-of_z _ _ f ∙ c.from.ensures) in
    let divisor = divisor_is _ c.args.q c.args.d c.in-Some.divisor (to_z w128 (of_z w128 c.in-Some.divisor)) o c.in-Some.is (λ u. to_z-of_z _ _ u) c.requires.multiplier c.requires.divisor in
    let row = cut_of_sums c.args.p.now c.args.weights.now c.args.sums.now _ c.in_ok-row.row c.requires.sums c.in_ok-row.ensures.terms c.in_ok-row.ensures.right in
    let t = c.passes.ensures.1 (passes_to c.args.p.now (values c.args.point.now) c.args.q c.args.weights.now c.args.d _ c.in_ok-row.row divisor.is row h) in
    let g = c.if-not-passes.true in
    cc

pub returns : goal.returns
returns c =
    let f : SFits w128 c.from.result = search rules in
    let o = product_is _ _ _ _ _ c.product.ensures (to_z-of_z _ _ c.ranges.q) (to_z-of_z _ _ f ∙ c.from.ensures) in
    let divisor = divisor_is _ c.args.q c.args.d c.in-Some.divisor (to_z w128 (of_z w128 c.in-Some.divisor)) o c.in-Some.is (λ u. to_z-of_z _ _ u) c.requires.multiplier c.requires.divisor in
    let row = cut_of_sums c.args.p.now c.args.weights.now c.args.sums.now _ c.in_ok-row.row c.requires.sums c.in_ok-row.ensures.terms c.in_ok-row.ensures.right in
    let t = c.passes.ensures.0 c.if-not-passes.false in
    record {
      passes = passes_from c.args.p.now (values c.args.point.now) c.args.q c.args.weights.now c.args.d _ c.in_ok-row.row divisor.is row divisor.in_range c.requires.sums.formed t.0 t.1;
      divisor = divisor.is;
      weights = c.in_ok-weights.ensures.items;
      row = row;
    }

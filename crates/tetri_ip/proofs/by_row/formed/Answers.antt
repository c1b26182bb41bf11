use Rattle.std.proofs.Common.{◌≡◌, ◌∙◌, None, length, refl, sym, subst, rules}
use Rattle.std.proofs.lemmas.Int.{to_z-of_z}
use lib.IntN.{ℤ}
use Rattle.tetri_ip.specs.Forming.{AreFactors}
use Rattle.tetri_ip.specs.Points.{bounds_of}
use Rattle.tetri_ip.proofs.FactorLemmas.{formed_answer}
use Rattle.tetri_ip.proofs.by_row.formed.Goals as goal

pub returns : goal.returns
returns c =
    let none : c.find_negative.result ≡ None = search rules in
    let count : length c.form_factors.new.factors ≡ length c.args.p.now.costs.items = search rules in
    formed_answer c.args.p.now (bounds_of c.args.r.now) c.args.q c.args.weights.now c.in-Some.right _ c.form_factors.new.factors c.right_sum.result c.bounds_total.result
    (sym c.find_negative.ensures ∙ none) c.right_sum.ensures c.in-Some.is (λ u. to_z-of_z _ _ u)
    (subst (λ (q : ℤ). AreFactors c.args.p.now q c.args.weights.now c.form_factors.new.factors) (to_z-of_z _ _ c.ranges.q) (c.if-not-form_factors.ensures refl))
    count c.bounds_total.ensures

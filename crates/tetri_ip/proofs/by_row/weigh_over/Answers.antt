use Rattle.std.proofs.Common.{◌≡◌, ◌∙◌, Ok, subst, rules}
use Rattle.std.proofs.lemmas.Int.{to_z-of_z}
use mir.Val.{SFits}
use mir.Syntax.{w128}
use lib.IntN.{ℤ}
use Rattle.tetri_ip.specs.Forming.{weigh_answer}
use Rattle.tetri_ip.specs.Points.{bounds_of}
use Rattle.tetri_ip.proofs.FactorLemmas.{answer_is}
use Rattle.tetri_ip.proofs.by_row.weigh_over.Goals as goal

pub returns-in-Some-clause-value : goal.returns-in-Some-clause-value
returns-in-Some-clause-value c =
    let f : SFits w128 c.in-Some.z = search rules in
    let told = subst (λ (q : ℤ). Ok c.in-Some.z ≡ weigh_answer c.args.p.now (bounds_of c.args.r.now) q c.args.weights.now) (to_z-of_z _ _ c.ranges.q) c.in-Some.ensures in
    to_z-of_z _ _ f ∙ (answer_is c.args.p.now (bounds_of c.args.r.now) c.args.q c.args.weights.now c.in-Some.z told).0

pub returns-in-Some-clause-weights : goal.returns-in-Some-clause-weights
returns-in-Some-clause-weights c = (answer_is c.args.p.now (bounds_of c.args.r.now) _ c.args.weights.now c.in-Some.z c.in-Some.ensures).1

use Rattle.std.proofs.Common.{rules, ◌≡◌, subst, arith, length, true}
use Rattle.tetri_swift.specs.Weights.{Climb}
use Rattle.tetri_swift.proofs.FairLemmas.{climb_rows}
use Rattle.tetri_swift.proofs.tests.weighed.Goals as goal

pub weigh_over-requires-clause-rows : goal.weigh_over-requires-clause-rows
weigh_over-requires-clause-rows c =
    let e : c.are_plain.result ≡ true = search rules in
    let n : c.len.result ≡ length c.args.p.now.rows.items = omega (arith, c.len.ensures, c.args.p.now.rows.ok.0) in
    climb_rows c.args.p.now 0 c.args.weights.now (subst (λ k. Climb k 0 c.args.weights.now) n (c.are_plain.ensures e))

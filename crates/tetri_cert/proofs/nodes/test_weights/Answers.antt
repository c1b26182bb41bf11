use Rattle.std.proofs.Common.{Err, Ok, Result, ℕ, sym, subst, rules, ◌≡◌, false, length}
use Rattle.std.specs.List.{list_any}
use Rattle.tetri_ip.specs.Forming.{weigh_answer}
use Rattle.tetri_ip.specs.Points.{bounds_of}
use Rattle.tetri_cert.specs.declared.faults.TreeFault.{TreeFault}
use Rattle.tetri_cert.specs.NodeBounds.{bound_by, is_unknown_row}
use Rattle.tetri_cert.specs.Trees.{IsTreeAnswer}
use Rattle.tetri_cert.proofs.NegativeLemmas.{told_by}
use Rattle.tetri_cert.proofs.Signed.{signed}
use Rattle.tetri_cert.proofs.nodes.test_weights.Goals as goal

pub returns-in-Ok : goal.returns-in-Ok
returns-in-Ok c =
    let p = c.args.p.now in
    let b = bounds_of c.args.r.now in
    let answer : Ok c.in-Ok.weighed ≡ weigh_answer p b c.args.q c.args.weights.now = search (rules, signed) in
    let rows : list_any (is_unknown_row (length p.rows.items)) c.args.weights.now ≡ false = search rules in
    let given : IsTreeAnswer c.quotient.result (bound_by c.args.node c.args.q (Ok c.in-Ok.weighed)) = search (rules, signed) in
    subst (λ (o : Result ℕ TreeFault). IsTreeAnswer c.quotient.result o) (sym (told_by p b c.args.node c.args.q c.args.weights.now (Ok c.in-Ok.weighed) answer rows)) given

pub returns-in-Err : goal.returns-in-Err
returns-in-Err c =
    let p = c.args.p.now in
    let b = bounds_of c.args.r.now in
    let answer : Err c.in-Err.fault ≡ weigh_answer p b c.args.q c.args.weights.now = search (rules, signed) in
    let rows : list_any (is_unknown_row (length p.rows.items)) c.args.weights.now ≡ false = search rules in
    let given : IsTreeAnswer c.weigh_fault.result (bound_by c.args.node c.args.q (Err c.in-Err.fault)) = search (rules, signed) in
    subst (λ (o : Result ℕ TreeFault). IsTreeAnswer c.weigh_fault.result o) (sym (told_by p b c.args.node c.args.q c.args.weights.now (Err c.in-Err.fault) answer rows)) given

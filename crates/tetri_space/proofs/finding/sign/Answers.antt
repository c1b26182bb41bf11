use Rattle.std.proofs.Common.{◌≡◌, ◌∙◌, ◌==◌, false, List, sym, subst, arith, true≢false}
use Rattle.std.specs.Vec.{vec_len}
use Rattle.tetri_base.proofs.ListLaws.{test_from_eq}
use Rattle.tetri_space.specs.Closed.{AreTurns}
use Rattle.tetri_space.specs.Space.{space}
use Rattle.tetri_space.specs.declared.closure.Closure.{Closure}
use Rattle.tetri_space.proofs.FindingLemmas.{signed_some}
use Rattle.tetri_space.proofs.finding.sign.Goals as goal

pub returns : goal.returns
returns c =
    let s = space c.args.inst.now in
    let ts = c.in_ok-push_turns.ensures in
    let long : (vec_len c.args.signature.now == 0) ≡ false = sym c.is_empty.ensures ∙ c.if-is_empty.false in
    signed_some s c.args.base c.args.node c.args.signature.now.items c.push_turns.new.turns.items
    (λ e. true≢false (sym (test_from_eq (vec_len c.args.signature.now) 0 (omega (arith, e, c.args.signature.now.ok.0))) ∙ long))
    ts.0 ts.1 (subst (λ (cs : List Closure). AreTurns cs c.args.node s.now c.args.base ts.0) c.deref.ensures ts.2)

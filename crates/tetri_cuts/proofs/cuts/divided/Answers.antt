use Rattle.std.proofs.Common.{◌≡◌, ◌+◌, ◌<◌, ◌≤◌, sym, ap, ◌∙◌, ◌++◌, arith, drop, get_or, length, rules}
use Rattle.std.specs.Int.{int_div_euclid}
use Rattle.std.specs.Global.{Vec}
use Rattle.std.proofs.lemmas.Int.{to_z-of_z}
use lib.IntN.{pos}
use mir.Val.{SFits, of_z, to_z}
use mir.Syntax.{w128}
use Rattle.tetri_ip.specs.declared.programs.Term.{Term}
use Rattle.tetri_ip.proofs.IntegerProgramLaws.{item_is}
use Rattle.tetri_cuts.specs.Cuts.{quotients}
use Rattle.tetri_cuts.proofs.CutSteps.{quotient_push, quotient_skip, quotients_done, read_zero}
use Rattle.tetri_cuts.proofs.cuts.divided.Goals as goal
use Rattle.tetri_cuts.proofs.cuts.divided.Goals.{then-by-ne0+in_ok-push, else-by-ne0}

pub loop-j-preserved : goal.loop-j-preserved
loop-j-preserved c =
    let q = to_z w128 (of_z w128 c.args.q) in
    let ss = c.args.sums.now.columns.items in
    let j = c.loop-j.j in
    let l : j < length ss = omega arith in
    let f : SFits w128 c.index.result.now = search rules in
    let fits : SFits w128 c.div_euclid-by.result = search rules in
    let is : c.div_euclid-by.result ≡ int_div_euclid (get_or ss j (pos 0)) q =
    c.div_euclid-by.ensures ∙ ap (λ z. int_div_euclid z q) (to_z-of_z _ _ f ∙ item_is ss j c.index.result.now (pos 0) l c.index.ensures) in
    elim c.if-by-ne0.branch [
      | then-by-ne0+in_ok-push w ↦
          ap (λ (v : Vec Term). v.items ++ quotients q (j + 1) (drop (j + 1) ss)) w.terms-is
          ∙ quotient_push q ss j (to_z w128 (of_z w128 c.div_euclid-by.result)) c.loop-j.terms.items _ l (to_z-of_z _ _ fits ∙ is) c.loop-j.invariant _ w.in_ok-push.ensures.items
          (λ h. w.if-by-ne0.true (ap (of_z w128) (sym (to_z-of_z _ _ fits) ∙ h)))
      | else-by-ne0 w ↦
          ap (λ (v : Vec Term). v.items ++ quotients q (j + 1) (drop (j + 1) ss)) w.terms-is
          ∙ quotient_skip q ss j c.div_euclid-by.result c.loop-j.terms.items _ l is c.loop-j.invariant (read_zero _ fits w.if-by-ne0.false)
    ]

pub returns-clause-terms : goal.returns-clause-terms
returns-clause-terms c =
    let q = to_z w128 (of_z w128 c.args.q) in
    let ss = c.args.sums.now.columns.items in
    let l : length ss ≤ c.loop-j.j = omega arith in
    sym (quotients_done q ss c.loop-j.j c.loop-j.terms.items l) ∙ c.loop-j.invariant ∙ ap (λ y. quotients y 0 ss) (to_z-of_z _ _ c.ranges.q)

use Rattle.std.proofs.Common.{◌≡◌, ◌+◌, ◌<◌, length, refl, sym, ap, subst, ◌∙◌, arith, rules, Ok}
use Rattle.std.specs.Global.{Vec}
use Rattle.std.proofs.lemmas.Int.{to_z-of_z}
use lib.IntN.{pos, ◌*ℤ◌}
use mir.Val.{SFits, to_z}
use mir.Syntax.{w128}
use Rattle.tetri_algebra.specs.Rational.{ℚ}
use Rattle.tetri_ip.proofs.IntegerProgramLaws.{item_is}
use Rattle.tetri_dictionary.specs.declared.lines.Entry.{Entry}
use Rattle.tetri_dictionary.specs.Start.{direction}
use Rattle.tetri_dictionary.proofs.Starting.{whole_read}
use Rattle.tetri_dictionary.proofs.SparseStart.{cost_done, cost_is, cost_none, next_formed}
use Rattle.tetri_dictionary.proofs.SparseWalks.{Formed, formed_push, formed_skip}
use Rattle.tetri_dictionary.proofs.start_lines.objective_entries.Goals as goal
use Rattle.tetri_dictionary.proofs.start_lines.objective_entries.Goals.{then-cost-ne0+in_ok-push, else-cost-ne0}

pub loop-j-preserved : goal.loop-j-preserved
loop-j-preserved c =
    let cs = c.args.p.now.costs.items in
    let j = c.loop-j.j in
    let h : j < length cs = omega (arith, c.len-j-end.ensures, c.args.p.now.costs.ok.0) in
    let a : SFits w128 c.index-cost.result.now = search rules in
    let e = to_z-of_z _ _ a ∙ item_is cs j c.index-cost.result.now (pos 0) h c.index-cost.ensures in
    elim c.if-cost-ne0.branch [
      | then-cost-ne0+in_ok-push w ↦
          subst (λ (v : Vec Entry). Formed (cost_is cs) (j + 1) v.items) (sym w.entries-is)
          (next_formed (cost_is cs) j w.push.new.self.items
          (formed_push (cost_is cs) j c.loop-j.entries.items w.push.new.self.items _ c.loop-j.invariant refl
          (ap (λ (z : ℚ). Ok z) (sym (whole_read w.whole.result w.directed.result _ w.whole.ensures.rational w.directed.ensures.within (w.directed.ensures.value ∙ ap (λ z. z *ℤ direction z) e)))) w.in_ok-push.ensures.items))
      | else-cost-ne0 w ↦
          subst (λ (v : Vec Entry). Formed (cost_is cs) (j + 1) v.items) (sym w.entries-is)
          (next_formed (cost_is cs) j c.loop-j.entries.items (formed_skip (cost_is cs) j c.loop-j.entries.items c.loop-j.invariant (cost_none cs j _ e (ap (to_z w128) w.if-cost-ne0.false))))
    ]

pub returns-clause-numbers : goal.returns-clause-numbers
returns-clause-numbers c =
    let cs = c.args.p.now.costs.items in
    let j : c.loop-j.j ≡ length cs = omega (arith, c.len-j-end.ensures, c.args.p.now.costs.ok.0, c.loop-j.auto.j-end) in
    cost_done cs c.loop-j.j c.loop-j.entries.items j c.loop-j.invariant

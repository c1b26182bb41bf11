use Rattle.std.proofs.Common.{◌<◌, length, map, ap, ◌∙◌, arith, rules}
use Rattle.std.proofs.lemmas.Int.{to_z-of_z}
use Rattle.std.proofs.lemmas.List.{at_drop_more}
use lib.IntN.{pos, ◌*ℤ◌}
use mir.Val.{SFits}
use mir.Syntax.{w128}
use Rattle.tetri_ip.proofs.IntegerProgramLaws.{item_is}
use Rattle.tetri_dictionary.specs.Start.{direction}
use Rattle.tetri_dictionary.proofs.Starting.{number_pushed, whole_read}
use Rattle.tetri_dictionary.proofs.start.objective_row.Goals as goal

pub loop-j-preserved : goal.loop-j-preserved
loop-j-preserved c =
    let cs = c.args.p.now.costs.items in
    let h : c.loop-j.j < length cs = omega (arith, c.len-j-end.ensures, c.args.p.now.costs.ok.0) in
    let a : SFits w128 c.index-cost.result.now = search rules in
    let e = to_z-of_z _ _ a ∙ item_is cs c.loop-j.j c.index-cost.result.now (pos 0) h c.index-cost.ensures in
    number_pushed c.loop-j.objective.items c.push-in-loop-j.new.self.items c.whole-in-loop-j.result _ _ _ c.in_ok-push-2.ensures.items
    (whole_read c.whole-in-loop-j.result c.directed.result _ c.whole-in-loop-j.ensures.rational c.directed.ensures.within (c.directed.ensures.value ∙ ap (λ z. z *ℤ direction z) e))
    (at_drop_more (map (λ z. z *ℤ direction z)) cs c.loop-j.j (pos 0) h)
    ∙ c.loop-j.invariant

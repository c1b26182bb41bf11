use Rattle.std.proofs.Common.{◌<◌, ◌≤◌, length, sym, ◌∙◌, arith, rules}
use Rattle.std.proofs.lemmas.Int.{to_z-of_z}
use lib.IntN.{pos}
use mir.Val.{SFits}
use mir.Syntax.{w128}
use Rattle.tetri_ip.specs.Points.{bounds_of}
use Rattle.tetri_ip.proofs.IntegerProgramLaws.{item_is}
use Rattle.tetri_dictionary.proofs.Starting.{corner_pushed, corner_done, corner_starts}
use Rattle.tetri_dictionary.proofs.start.corner.Goals as goal

pub loop-j-preserved : goal.loop-j-preserved
loop-j-preserved c =
    let cs = c.args.p.now.costs.items in
    let ls = c.args.r.now.lower.items in
    let us = c.args.r.now.upper.items in
    let j = c.loop-j.j in
    let h : j < length cs = omega (arith, c.len-j-end.ensures, c.args.p.now.costs.ok.0) in
    let g : j < length ls = omega (arith, c.requires.in_box.lower_count) in
    let k : j < length us = omega (arith, c.requires.in_box.upper_count) in
    let a : SFits w128 c.index.result.now = search rules in
    let b : SFits w128 c.index-in-loop-j.result.now = search rules in
    let d : SFits w128 c.index-in-loop-j-2.result.now = search rules in
    let f : SFits w128 c.start_at.result = search rules in
    corner_pushed cs ls us c.loop-j.start.items c.push.new.self.items j _ _ _ _ h g k c.in_ok-push.ensures.items (to_z-of_z _ _ f ∙ c.start_at.ensures)
    (to_z-of_z _ _ a ∙ item_is cs j c.index.result.now (pos 0) h c.index.ensures) (to_z-of_z _ _ b ∙ item_is ls j c.index-in-loop-j.result.now (pos 0) g c.index-in-loop-j.ensures) (to_z-of_z _ _ d ∙ item_is us j c.index-in-loop-j-2.result.now (pos 0) k c.index-in-loop-j-2.ensures)
    ∙ c.loop-j.invariant

pub returns-clause-corner : goal.returns-clause-corner
returns-clause-corner c =
    let h : length c.args.p.now.costs.items ≤ c.loop-j.j = omega (arith, c.len-j-end.ensures, c.args.p.now.costs.ok.0) in
    sym (corner_done c.args.p.now.costs.items c.args.r.now.lower.items c.args.r.now.upper.items c.loop-j.start.items c.loop-j.j h) ∙ c.loop-j.invariant

pub returns-clause-start : goal.returns-clause-start
returns-clause-start c = corner_starts c.args.p.now (bounds_of c.args.r.now) c.loop-j.start.items c.requires.in_box (returns-clause-corner c)

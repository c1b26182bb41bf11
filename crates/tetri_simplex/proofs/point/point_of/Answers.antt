use Rattle.std.proofs.Common.{◌<◌, length, sym, ◌∙◌, arith, rules}
use Rattle.std.proofs.lemmas.Int.{to_z-of_z}
use lib.IntN.{pos}
use mir.Val.{SFits}
use mir.Syntax.{w128}
use Rattle.tetri_num.specs.Frac.{value}
use Rattle.tetri_ip.proofs.IntegerProgramLaws.{item_is}
use Rattle.tetri_dictionary.specs.Tables.{Table}
use Rattle.tetri_simplex.proofs.EndForms.{point_next, point_stop, point_done, point_init}
use Rattle.tetri_simplex.proofs.point.point_of.Goals as goal

pub loop-j-init : goal.loop-j-init
loop-j-init g c =
    let t : Table = g.D.Dictionary.table c.args.d.now in
    point_init t.basic t.rows c.args.p.now.costs.items c.args.r.now.lower.items c.args.r.now.upper.items _ c.new-point.ensures.items

pub returns-in_default : goal.returns-in_default
returns-in_default g c =
    let t : Table = g.D.Dictionary.table c.args.d.now in
    let cs = c.args.p.now.costs.items in
    let ls = c.args.r.now.lower.items in
    let us = c.args.r.now.upper.items in
    let j = c.loop-j.j in
    let h : j < length cs = omega (arith, c.len-j-end.ensures, c.args.p.now.costs.ok.0) in
    let g : j < length ls = omega (arith, c.requires.in_box.lower_count) in
    let k : j < length us = omega (arith, c.requires.in_box.upper_count) in
    let a : SFits w128 c.index.result.now = search rules in
    let b : SFits w128 c.index-in-loop-j.result.now = search rules in
    let d : SFits w128 c.index-in-loop-j-2.result.now = search rules in
    sym c.loop-j.invariant
    ∙ point_stop t.basic t.rows j cs ls us _ _ _ (value c.value_at-moved.result) c.loop-j.point.items h g k
    (to_z-of_z _ _ a ∙ item_is cs j c.index.result.now (pos 0) h c.index.ensures) (to_z-of_z _ _ b ∙ item_is ls j c.index-in-loop-j.result.now (pos 0) g c.index-in-loop-j.ensures) (to_z-of_z _ _ d ∙ item_is us j c.index-in-loop-j-2.result.now (pos 0) k c.index-in-loop-j-2.ensures)
    c.value_at-moved.ensures c.in_default.ensures

pub loop-j-preserved : goal.loop-j-preserved
loop-j-preserved g c =
    let t : Table = g.D.Dictionary.table c.args.d.now in
    let cs = c.args.p.now.costs.items in
    let ls = c.args.r.now.lower.items in
    let us = c.args.r.now.upper.items in
    let j = c.loop-j.j in
    let h : j < length cs = omega (arith, c.len-j-end.ensures, c.args.p.now.costs.ok.0) in
    let g : j < length ls = omega (arith, c.requires.in_box.lower_count) in
    let k : j < length us = omega (arith, c.requires.in_box.upper_count) in
    let a : SFits w128 c.index.result.now = search rules in
    let b : SFits w128 c.index-in-loop-j.result.now = search rules in
    let d : SFits w128 c.index-in-loop-j-2.result.now = search rules in
    point_next t.basic t.rows j cs ls us _ _ _ (value c.value_at-moved.result) c.in-Some.x c.loop-j.point.items c.push.new.self.items h g k
    (to_z-of_z _ _ a ∙ item_is cs j c.index.result.now (pos 0) h c.index.ensures) (to_z-of_z _ _ b ∙ item_is ls j c.index-in-loop-j.result.now (pos 0) g c.index-in-loop-j.ensures) (to_z-of_z _ _ d ∙ item_is us j c.index-in-loop-j-2.result.now (pos 0) k c.index-in-loop-j-2.ensures)
    c.value_at-moved.ensures c.in-Some.ensures c.in_ok-push.ensures.items
    ∙ c.loop-j.invariant

pub returns : goal.returns
returns g c =
    let t : Table = g.D.Dictionary.table c.args.d.now in
    sym c.loop-j.invariant
    ∙ point_done t.basic t.rows c.loop-j.j c.args.p.now.costs.items c.args.r.now.lower.items c.args.r.now.upper.items c.loop-j.point.items (omega (arith, c.len-j-end.ensures, c.args.p.now.costs.ok.0))

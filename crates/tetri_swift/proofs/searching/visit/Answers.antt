use Rattle.std.proofs.Common.{◌∙◌, sym}
use Rattle.tetri_ip.specs.Points.{bounds_of}
use Rattle.tetri_swift.proofs.FollowLemmas.{sides_of}
use Rattle.tetri_swift.proofs.FrontLemmas.{over_in_box, over_next}
use Rattle.tetri_swift.proofs.searching.visit.Goals as goal

pub write_mark-requires-clause-in_box : goal.write_mark-requires-clause-in_box
write_mark-requires-clause-in_box g c = over_in_box c.args.p.now c.args.front.now c.requires.over c.requires.live

pub follow-requires-clause-in_box : goal.follow-requires-clause-in_box
follow-requires-clause-in_box g c = over_in_box c.args.p.now c.args.front.now c.requires.over c.requires.live

pub turn_on-requires-clause-sides : goal.turn_on-requires-clause-sides
turn_on-requires-clause-sides g c =
    let i = over_in_box c.args.p.now c.args.front.now c.requires.over c.requires.live in
    sides_of c.args.p.now (bounds_of c.args.front.now.region) c.in_ok-mark.field-0.mark i.lower_count c.in_ok-mark.ensures.tested

pub turn_on-requires-clause-upper : goal.turn_on-requires-clause-upper
turn_on-requires-clause-upper g c = c.requires.over.upper ∙ sym c.requires.over.lower

pub returns-clause-over : goal.returns-clause-over
returns-clause-over g c =
    let i = over_in_box c.args.p.now c.args.front.now c.requires.over c.requires.live in
    over_next c.args.p.now c.args.front.now _ c.in_ok-mark.field-0.mark c.requires.over c.requires.live
    (sides_of c.args.p.now (bounds_of c.args.front.now.region) c.in_ok-mark.field-0.mark i.lower_count c.in_ok-mark.ensures.tested)
    c.in_ok-live.ensures.next c.in_ok-live.ensures.lower c.in_ok-live.ensures.upper c.in_ok-live.ensures.columns

pub returns-clause-regions : goal.returns-clause-regions
returns-clause-regions g c = c.in_ok-live.ensures.next

use Rattle.std.proofs.Common.{sym, subst}
use Rattle.tetri_ip.specs.Points.{bounds_of}
use Rattle.tetri_cert.proofs.TreeBoundLaws.{IsSound}
use Rattle.tetri_search.specs.Table.{Node}
use Rattle.tetri_search.specs.Views.{dual_of_rc}
use Rattle.tetri_search.proofs.MarkLemmas.{rest_is_rest}
use Rattle.tetri_search.proofs.NodeLemmas.{mark_sound, sound_sides}
use Rattle.tetri_search.proofs.searching.visit.Goals as goal

pub turn_on-requires-clause-sides : goal.turn_on-requires-clause-sides
turn_on-requires-clause-sides c =
    let p = c.args.p.now in
    let b = bounds_of c.args.front.now.region in
    let n : Node = record { region = b; dual = dual_of_rc c.args.above } in
    let s = subst (IsSound p b) (sym c.in_ok-mark.ensures.mark) (mark_sound p n c.args.best c.args.left c.requires.fit c.requires.at.in_box c.requires.dual) in
    sound_sides p b c.in_ok-mark.field-0.mark c.requires.at.in_box s

pub returns-clause-still : goal.returns-clause-still
returns-clause-still c = λ e.
    let n : Node = record { region = bounds_of c.args.front.now.region; dual = dual_of_rc c.args.above } in
    c.in_ok-push_duals.ensures.still (rest_is_rest c.args.left c.args.p.now n c.args.best c.in_ok-mark.field-0.mark e c.in_ok-mark.ensures.mark)

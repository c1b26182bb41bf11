use Rattle.std.proofs.Common.{◌≡◌, ◌∙◌, sym, ap, subst, arith, Some}
use Rattle.std.specs.Prelude.{option_map}
use Rattle.tetri_cert.specs.Cells.{AreOfColumns, point_of}
use Rattle.tetri_search.specs.Follow.{last_whole}
use Rattle.tetri_search.proofs.LastLemmas.{last_before}
use Rattle.tetri_swift.proofs.searching.last_point.Goals as goal

pub point_of-requires : goal.point_of-requires
point_of-requires c =
    let h : last_whole c.args.marks.now ≡ Some c.in-Whole.point = last_before c.args.marks.now c.loop-i.i c.index-marks-i.result c.in-Whole.q c.in-Whole.weights c.in-Whole.worth c.in-Whole.point (omega arith) (omega arith) c.index-marks-i.is c.in-Whole.is c.loop-i.invariant in
    subst (AreOfColumns c.args.columns) (sym c.as_slice.ensures) (c.requires c.in-Whole.point h)

pub returns-in-Whole : goal.returns-in-Whole
returns-in-Whole c =
    let h : last_whole c.args.marks.now ≡ Some c.in-Whole.point = last_before c.args.marks.now c.loop-i.i c.index-marks-i.result c.in-Whole.q c.in-Whole.weights c.in-Whole.worth c.in-Whole.point (omega arith) (omega arith) c.index-marks-i.is c.in-Whole.is c.loop-i.invariant in
    ap Some (c.in_ok-point_of.ensures ∙ ap (point_of c.args.columns) c.as_slice.ensures) ∙ sym (ap (λ o. option_map (point_of c.args.columns) o) h)

use Rattle.std.proofs.Common.{◌≡◌, ◌∙◌, ◌∷◌, [], sym, ap, subst, arith, length, List}
use Rattle.std.specs.Prelude.{option_map}
use Rattle.tetri_ip.specs.Points.{box_of}
use Rattle.tetri_cert.specs.declared.marks.Mark.{Mark}
use Rattle.tetri_cert.specs.Cells.{point_of}
use Rattle.tetri_cert.specs.Trees.{tree_bound}
use Rattle.tetri_search.specs.Follow.{last_whole}
use Rattle.tetri_search.specs.Nodes.{AreWholePoints}
use Rattle.tetri_search.proofs.LastLemmas.{last_columns}
use Rattle.tetri_swift.specs.Follow.{Follows}
use Rattle.tetri_swift.proofs.FollowLemmas.{follows_wholes}
use Rattle.tetri_swift.proofs.FoundLemmas.{found_is}
use Rattle.tetri_swift.proofs.searching.search_by.Goals as goal

pub bound_of-requires-clause-follows : goal.bound_of-requires-clause-follows
bound_of-requires-clause-follows g c =
    let p = c.args.c.now.program in
    subst (λ (ms : List Mark). Follows p c.args.budget (box_of p ∷ []) c.args.low 0 ms) (sym c.as_slice.ensures) c.in_ok-marks.ensures.follows

pub last_point-requires : goal.last_point-requires
last_point-requires g c = λ cells h.
    let p = c.args.c.now.program in
    let n : c.len-columns.result ≡ length p.costs.items = omega (arith, c.len-columns.ensures, p.costs.ok.0) in
    let w = follows_wholes p c.args.budget (box_of p ∷ []) c.args.low 0 c.in_ok-marks.field-0.marks c.in_ok-marks.ensures.follows in
    last_columns p c.len-columns.result c.as_slice-2.result.now cells n (subst (λ (ms : List Mark). AreWholePoints p ms) (sym c.as_slice-2.ensures) w) h

pub returns : goal.returns
returns g c =
    let p = c.args.c.now.program in
    let n : c.len-columns.result ≡ length p.costs.items = omega (arith, c.len-columns.ensures, p.costs.ok.0) in
    found_is p c.args.low c.args.budget c.len-columns.result _ n c.in_ok-marks.ensures.follows (sym (ap (tree_bound p) c.as_slice.ensures) ∙ c.in_ok-bound.ensures) c.in_ok-marks.ensures.used c.in_ok-marks.ensures.best
    (c.in_ok-last.ensures ∙ ap (λ (ms : List Mark). option_map (point_of c.len-columns.result) (last_whole ms)) c.as_slice-2.ensures)

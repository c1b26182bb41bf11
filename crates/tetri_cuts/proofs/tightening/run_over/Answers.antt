use Rattle.std.proofs.Common.{refl, sym, ap, ◌∙◌, rules}
use Rattle.std.proofs.lemmas.Int.{to_z-of_z}
use Rattle.std.proofs.lemmas.List.{length-map}
use mir.Val.{SFits}
use mir.Syntax.{w128}
use Rattle.tetri_num.specs.Frac.{value}
use Rattle.tetri_simplex.specs.Outcomes.{end_of}
use Rattle.tetri_cuts.proofs.OutcomeLemmas.{best_root, best_says, cut_root, cut_says, cut_stops, no_root_of, stops_of}
use Rattle.tetri_cuts.proofs.tightening.run_over.Goals as goal

pub dual_run_over-requires-clause-in_box : goal.dual_run_over-requires-clause-in_box
dual_run_over-requires-clause-in_box c = c.in_ok-region.ensures.in_box c.requires.fit

pub next_cut-requires-clause-count : goal.next_cut-requires-clause-count
next_cut-requires-clause-count c =
    let f : SFits w128 c.in-Best.q = search rules in
    let says = best_says c.args.p.now _ c.in_ok-region.ensures.bounds _ c.in_ok-point.ensures.ends c.in_ok-point.ensures.certified c.in-Best.point c.in-Best.q _ c.in-Best.weights c.deref.result.now c.deref-in-Best.result.now c.in-Best.is (to_z-of_z _ _ f) c.deref.ensures.value c.deref-in-Best.ensures.value in
    sym (length-map c.deref.result.now value) ∙ says.certified.relaxed.count

pub next_cut-requires-clause-multiplier : goal.next_cut-requires-clause-multiplier
next_cut-requires-clause-multiplier c =
    let f : SFits w128 c.in-Best.q = search rules in
    let says = best_says c.args.p.now _ c.in_ok-region.ensures.bounds _ c.in_ok-point.ensures.ends c.in_ok-point.ensures.certified c.in-Best.point c.in-Best.q _ c.in-Best.weights c.deref.result.now c.deref-in-Best.result.now c.in-Best.is (to_z-of_z _ _ f) c.deref.ensures.value c.deref-in-Best.ensures.value in
    says.certified.multiplier

pub next_cut-requires-clause-rows : goal.next_cut-requires-clause-rows
next_cut-requires-clause-rows c =
    let f : SFits w128 c.in-Best.q = search rules in
    let says = best_says c.args.p.now _ c.in_ok-region.ensures.bounds _ c.in_ok-point.ensures.ends c.in_ok-point.ensures.certified c.in-Best.point c.in-Best.q _ c.in-Best.weights c.deref.result.now c.deref-in-Best.result.now c.in-Best.is (to_z-of_z _ _ f) c.deref.ensures.value c.deref-in-Best.ensures.value in
    says.certified.weights.rows

pub next_cut-requires-clause-run : goal.next_cut-requires-clause-run
next_cut-requires-clause-run c =
    let f : SFits w128 c.in-Best.q = search rules in
    let says = best_says c.args.p.now _ c.in_ok-region.ensures.bounds _ c.in_ok-point.ensures.ends c.in_ok-point.ensures.certified c.in-Best.point c.in-Best.q _ c.in-Best.weights c.deref.result.now c.deref-in-Best.result.now c.in-Best.is (to_z-of_z _ _ f) c.deref.ensures.value c.deref-in-Best.ensures.value in
    says.run

pub root_by-root-requires-clause-multiplier : goal.root_by-root-requires-clause-multiplier
root_by-root-requires-clause-multiplier c =
    let f : SFits w128 c.in-Best.q = search rules in
    let says = best_says c.args.p.now _ c.in_ok-region.ensures.bounds _ c.in_ok-point.ensures.ends c.in_ok-point.ensures.certified c.in-Best.point c.in-Best.q _ c.in-Best.weights c.in-Best.point.items c.in-Best.weights.items c.in-Best.is (to_z-of_z _ _ f) refl refl in
    says.certified.multiplier

pub root_by-root-requires-clause-weights : goal.root_by-root-requires-clause-weights
root_by-root-requires-clause-weights c =
    let f : SFits w128 c.in-Best.q = search rules in
    let says = best_says c.args.p.now _ c.in_ok-region.ensures.bounds _ c.in_ok-point.ensures.ends c.in_ok-point.ensures.certified c.in-Best.point c.in-Best.q _ c.in-Best.weights c.in-Best.point.items c.in-Best.weights.items c.in-Best.is (to_z-of_z _ _ f) refl refl in
    says.certified.weights

pub returns-in-Best-clause-root : goal.returns-in-Best-clause-root
returns-in-Best-clause-root c =
    let f : SFits w128 c.in-Best.q = search rules in
    let says = best_says c.args.p.now _ c.in_ok-region.ensures.bounds _ c.in_ok-point.ensures.ends c.in_ok-point.ensures.certified c.in-Best.point c.in-Best.q _ c.in-Best.weights c.in-Best.point.items c.in-Best.weights.items c.in-Best.is (to_z-of_z _ _ f) refl refl in
    best_root c.args.p.now _ _ _ _ says.run c.root_by-root.ensures

pub root_by-root-requires-in-Cut-clause-multiplier : goal.root_by-root-requires-in-Cut-clause-multiplier
root_by-root-requires-in-Cut-clause-multiplier c =
    let f : SFits w128 c.in-Cut.q = search rules in
    let says = cut_says c.args.p.now _ c.in_ok-region.ensures.bounds _ c.in_ok-point.ensures.ends c.in_ok-point.ensures.certified c.in-Cut.q _ c.in-Cut.weights c.in-Cut.weights.items c.in-Cut.is (to_z-of_z _ _ f) refl in
    says.certified.multiplier

pub root_by-root-requires-in-Cut-clause-weights : goal.root_by-root-requires-in-Cut-clause-weights
root_by-root-requires-in-Cut-clause-weights c =
    let f : SFits w128 c.in-Cut.q = search rules in
    let says = cut_says c.args.p.now _ c.in_ok-region.ensures.bounds _ c.in_ok-point.ensures.ends c.in_ok-point.ensures.certified c.in-Cut.q _ c.in-Cut.weights c.in-Cut.weights.items c.in-Cut.is (to_z-of_z _ _ f) refl in
    says.certified.weights

pub returns-in-Cut-clause-root : goal.returns-in-Cut-clause-root
returns-in-Cut-clause-root c =
    let f : SFits w128 c.in-Cut.q = search rules in
    let says = cut_says c.args.p.now _ c.in_ok-region.ensures.bounds _ c.in_ok-point.ensures.ends c.in_ok-point.ensures.certified c.in-Cut.q _ c.in-Cut.weights c.in-Cut.weights.items c.in-Cut.is (to_z-of_z _ _ f) refl in
    cut_root c.args.p.now _ _ _ says.run c.root_by-root-in-Cut.ensures

pub returns-in-Cut-clause-cut : goal.returns-in-Cut-clause-cut
returns-in-Cut-clause-cut c =
    let f : SFits w128 c.in-Cut.q = search rules in
    let says = cut_says c.args.p.now _ c.in_ok-region.ensures.bounds _ c.in_ok-point.ensures.ends c.in_ok-point.ensures.certified c.in-Cut.q _ c.in-Cut.weights c.in-Cut.weights.items c.in-Cut.is (to_z-of_z _ _ f) refl in
    cut_stops c.args.p.now _ _ c.args.made says.run

pub returns-in-Empty-clause-root : goal.returns-in-Empty-clause-root
returns-in-Empty-clause-root c =
    no_root_of c.args.p.now _ c.in_ok-region.ensures.bounds _ c.in_ok-point.ensures.ends c.in_ok-point.ensures.certified _ (ap end_of c.in-Empty.is) refl

pub returns-in-Empty-clause-cut : goal.returns-in-Empty-clause-cut
returns-in-Empty-clause-cut c =
    stops_of c.args.p.now _ c.in_ok-region.ensures.bounds _ c.in_ok-point.ensures.ends c.in_ok-point.ensures.certified _ c.args.made (ap end_of c.in-Empty.is) (λ x y vs g. cc)

pub returns-in-Past-clause-root : goal.returns-in-Past-clause-root
returns-in-Past-clause-root c =
    no_root_of c.args.p.now _ c.in_ok-region.ensures.bounds _ c.in_ok-point.ensures.ends c.in_ok-point.ensures.certified _ (ap end_of c.in-Past.is) refl

pub returns-in-Past-clause-cut : goal.returns-in-Past-clause-cut
returns-in-Past-clause-cut c =
    stops_of c.args.p.now _ c.in_ok-region.ensures.bounds _ c.in_ok-point.ensures.ends c.in_ok-point.ensures.certified _ c.args.made (ap end_of c.in-Past.is) (λ x y vs g. cc)

pub returns-clause-root : goal.returns-clause-root
returns-clause-root c =
    no_root_of c.args.p.now _ c.in_ok-region.ensures.bounds _ c.in_ok-point.ensures.ends c.in_ok-point.ensures.certified _ (ap end_of c.in-Long.is) refl

pub returns-clause-cut : goal.returns-clause-cut
returns-clause-cut c =
    stops_of c.args.p.now _ c.in_ok-region.ensures.bounds _ c.in_ok-point.ensures.ends c.in_ok-point.ensures.certified _ c.args.made (ap end_of c.in-Long.is) (λ x y vs g. cc)

use Rattle.std.proofs.Common.{◌≡◌, ℕ, sym, ap, subst, ◌∙◌, rules, List}
use Rattle.std.specs.Int.{int_div_euclid, saturate_unsigned, w64}
use Rattle.std.proofs.lemmas.Int.{to_z-of_z}
use lib.IntN.{ℤ}
use mir.Val.{SFits, of_z, to_z}
use mir.Syntax.{w128}
use Rattle.tetri_ip.specs.declared.programs.Weight.{Weight}
use Rattle.tetri_ip.specs.Forming.{weigh_answer}
use Rattle.tetri_ip.specs.Points.{Bounds, IsInBox, bounds_of, box_of}
use Rattle.tetri_ip.specs.Weighed.{AreOfRows, weighed}
use Rattle.tetri_cuts.specs.Tightening.{bound_by}
use Rattle.tetri_cuts.proofs.ColumnLemmas.{whole_box}
use Rattle.tetri_cuts.proofs.RootLemmas.{err_is_not_ok, root_with}
use Rattle.tetri_cuts.proofs.tightening.root_by.Goals as goal
use Rattle.tetri_cuts.proofs.tightening.root_by.Goals.{in-Ok, in-Err}

pub weigh_over-requires-clause-in_box : goal.weigh_over-requires-clause-in_box
weigh_over-requires-clause-in_box c = subst (λ (b : Bounds). IsInBox c.args.p.now b) (sym c.requires.whole) (whole_box c.args.p.now c.requires.fit)

pub weigh_over-requires-clause-rows : goal.weigh_over-requires-clause-rows
weigh_over-requires-clause-rows c = subst (λ (ws : List Weight). AreOfRows c.args.p.now ws) (sym c.deref.ensures.value) c.requires.weights.rows

pub returns : goal.returns
returns c =
    let p = c.args.p.now in
    let b = bounds_of c.args.r.now in
    let q = to_z w128 (of_z w128 c.args.q) in
    let same : q ≡ c.args.q = to_z-of_z _ _ c.ranges.q in
    let ws = c.deref.result.now in
    let number : weighed p b q ws ≡ weighed p (box_of p) c.args.q c.args.weights.items =
    ap (λ (x : Bounds). weighed p x q ws) c.requires.whole ∙ ap (λ (y : ℤ). weighed p (box_of p) y ws) same ∙ ap (λ (vs : List Weight). weighed p (box_of p) c.args.q vs) c.deref.ensures.value in
    let bound : c.match-weigh_over.bound ≡ bound_by p c.args.q c.args.weights.items =
    elim c.match-weigh_over.branch [
      | in-Ok w ↦ (
          let f : SFits w128 w.in-Ok.total = search rules in
          let g : SFits w128 w.div_euclid.result = search rules in
          w.bound-is ∙ w.capped-bound.ensures
          ∙ ap (λ (z : ℤ). saturate_unsigned w64 z) (to_z-of_z _ _ g ∙ w.div_euclid.ensures
          ∙ ap (λ (z : ℤ). int_div_euclid z q) (to_z-of_z _ _ f ∙ w.in-Ok.ensures.value ∙ number)
          ∙ ap (λ (y : ℤ). int_div_euclid (weighed p (box_of p) c.args.q c.args.weights.items) y) same))
      | in-Err w ↦ (
          let answer =
          c.weigh_over.ensures.answer ∙ ap (λ (x : Bounds). weigh_answer p x q ws) c.requires.whole ∙ ap (λ (y : ℤ). weigh_answer p (box_of p) y ws) same
          ∙ ap (λ (vs : List Weight). weigh_answer p (box_of p) c.args.q vs) c.deref.ensures.value ∙ c.requires.weights.formed in
          absurd (err_is_not_ok _ _ c.weigh_over.result w.in-Err.is answer))
    ] in
    ap (λ (y : ℤ). root_with y c.args.weights.items c.match-weigh_over.bound) same ∙ ap (λ (n : ℕ). root_with c.args.q c.args.weights.items n) bound

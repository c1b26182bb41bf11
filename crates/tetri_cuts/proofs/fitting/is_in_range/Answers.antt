use Rattle.std.proofs.Common.{◌≡◌, ◌+◌, ◌*◌, ◌<◌, ap, ◌∙◌, arith, drop, length, get_or, rules, List}
use Rattle.std.specs.Prelude.{unsigned_abs}
use Rattle.std.proofs.lemmas.Int.{to_z-of_z}
use mir.Val.{SFits}
use mir.Syntax.{w128}
use lib.IntN.{pos}
use Rattle.tetri_ip.specs.declared.programs.Term.{Term}
use Rattle.tetri_ip.specs.Points.{reach, size_at}
use Rattle.tetri_cuts.proofs.FitSteps.{not_so, reach_more}
use Rattle.tetri_cuts.proofs.fitting.is_in_range.Goals as goal

pub loop-term-preserved : goal.loop-term-preserved
loop-term-preserved c =
    let d : Term = record { column = 0; by = pos 0 } in
    let p = c.args.p.now in
    let ts = c.args.row.now.terms.items in
    let i = c.loop-term.term-index in
    let same = c.deref-term-items.ensures.value in
    let l : i < length ts = omega (arith, ap (λ (us : List Term). length us) same) in
    let f : SFits w128 (get_or c.deref-term-items.result.now i d).by = search rules in
    let r : c.loop-term.sum + c.unsigned_abs.result * c.size_at-size.result + reach p (drop (i + 1) ts) ≡ unsigned_abs c.args.row.now.right + reach p ts =
    reach_more p ts i d c.unsigned_abs.result c.size_at-size.result c.loop-term.sum _ l
    (c.unsigned_abs.ensures.value ∙ ap unsigned_abs (to_z-of_z _ _ f ∙ ap (λ (us : List Term). (get_or us i d).by) same))
    (c.size_at-size.ensures ∙ ap (λ (us : List Term). size_at p (get_or us i d).column) same) c.loop-term.invariant in
    omega (arith, r, c.in-Some.ensures.1, c.in-Some-checked_add.ensures.1)

pub returns-in_default : goal.returns-in_default
returns-in_default c =
    let d : Term = record { column = 0; by = pos 0 } in
    let p = c.args.p.now in
    let ts = c.args.row.now.terms.items in
    let i = c.loop-term.term-index in
    let same = c.deref-term-items.ensures.value in
    let l : i < length ts = omega (arith, ap (λ (us : List Term). length us) same) in
    let f : SFits w128 (get_or c.deref-term-items.result.now i d).by = search rules in
    let r : c.loop-term.sum + c.unsigned_abs.result * c.size_at-size.result + reach p (drop (i + 1) ts) ≡ unsigned_abs c.args.row.now.right + reach p ts =
    reach_more p ts i d c.unsigned_abs.result c.size_at-size.result c.loop-term.sum _ l
    (c.unsigned_abs.ensures.value ∙ ap unsigned_abs (to_z-of_z _ _ f ∙ ap (λ (us : List Term). (get_or us i d).by) same))
    (c.size_at-size.ensures ∙ ap (λ (us : List Term). size_at p (get_or us i d).column) same) c.loop-term.invariant in
    not_so _ (λ h. c.in_default.ensures (omega (arith, r, h)))

pub returns-in_default-checked_add : goal.returns-in_default-checked_add
returns-in_default-checked_add c =
    let d : Term = record { column = 0; by = pos 0 } in
    let p = c.args.p.now in
    let ts = c.args.row.now.terms.items in
    let i = c.loop-term.term-index in
    let same = c.deref-term-items.ensures.value in
    let l : i < length ts = omega (arith, ap (λ (us : List Term). length us) same) in
    let f : SFits w128 (get_or c.deref-term-items.result.now i d).by = search rules in
    let r : c.loop-term.sum + c.unsigned_abs.result * c.size_at-size.result + reach p (drop (i + 1) ts) ≡ unsigned_abs c.args.row.now.right + reach p ts =
    reach_more p ts i d c.unsigned_abs.result c.size_at-size.result c.loop-term.sum _ l
    (c.unsigned_abs.ensures.value ∙ ap unsigned_abs (to_z-of_z _ _ f ∙ ap (λ (us : List Term). (get_or us i d).by) same))
    (c.size_at-size.ensures ∙ ap (λ (us : List Term). size_at p (get_or us i d).column) same) c.loop-term.invariant in
    not_so _ (λ h. c.in_default-checked_add.ensures (omega (arith, r, h, c.in-Some.ensures.1)))

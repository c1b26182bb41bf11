use Rattle.std.proofs.Common.{List, ℕ, rules, ap, ◌∙◌, map, string_bytes}
use Rattle.std.proofs.lemmas.Int.{to_z-of_z}
use mir.Val.{SFits, of_z, to_z}
use mir.Syntax.{w128}
use lib.IntN.{ℤ}
use Rattle.tetri_ip.specs.Points.{number_at}
use Rattle.tetri_export.specs.Lp.{name_at}
use Rattle.tetri_export.specs.Mps.{bound_lines}
use Rattle.tetri_export.proofs.TextLemmas.{text_next}
use Rattle.tetri_export.proofs.mps.add_boxes.Goals as goal

pub loop-place-preserved : goal.loop-place-preserved
loop-place-preserved c =
    let l = c.loop-place in
    let low : SFits w128 (number_at c.args.lower.now l.place) = search rules in
    let high : SFits w128 (number_at c.args.upper.now l.place) = search rules in
    let raw : ℤ = to_z w128 (of_z w128 (number_at c.args.upper.now l.place)) in
    text_next (λ k. bound_lines (name_at (map string_bytes c.args.columns.now) k) (number_at c.args.lower.now k) (number_at c.args.upper.now k)) l.place
    (string_bytes c.args.out.now) (string_bytes l.out) (string_bytes c.add_bounds.new.out) _ l.invariant c.in_ok-add_bounds.ensures
    (ap (λ (z : ℤ). bound_lines c.name_at.result.now z raw) (to_z-of_z _ _ low) ∙ ap (λ (n : List ℕ). bound_lines n (number_at c.args.lower.now l.place) raw) c.name_at.ensures
    ∙ ap (λ (z : ℤ). bound_lines (name_at (map string_bytes c.args.columns.now) l.place) (number_at c.args.lower.now l.place) z) (to_z-of_z _ _ high))

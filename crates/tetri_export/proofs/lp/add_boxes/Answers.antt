use Rattle.std.proofs.Common.{rules, ap, ◌∙◌, map, string_bytes}
use Rattle.std.proofs.lemmas.Int.{to_z-of_z}
use mir.Val.{SFits, of_z, to_z}
use mir.Syntax.{w128}
use lib.IntN.{ℤ}
use Rattle.tetri_ip.specs.Points.{number_at}
use Rattle.tetri_export.specs.Lp.{name_at}
use Rattle.tetri_export.specs.Plain.{box_text}
use Rattle.tetri_export.proofs.TextLemmas.{text_next}
use Rattle.tetri_export.proofs.lp.add_boxes.Goals as goal

pub loop-place-preserved : goal.loop-place-preserved
loop-place-preserved c =
    let l = c.loop-place in
    let low : SFits w128 (number_at c.args.lower.now l.place) = search rules in
    let high : SFits w128 (number_at c.args.upper.now l.place) = search rules in
    let raw : ℤ = to_z w128 (of_z w128 (number_at c.args.upper.now l.place)) in
    text_next (λ k. box_text (number_at c.args.lower.now k) (name_at (map string_bytes c.args.columns.now) k) (number_at c.args.upper.now k)) l.place
    (string_bytes c.args.out.now) (string_bytes l.out) (string_bytes c.add_box.new.out) _ l.invariant c.in_ok-add_box.ensures
    (ap (λ (z : ℤ). box_text z c.name_at.result.now raw) (to_z-of_z _ _ low) ∙ ap (λ n. box_text (number_at c.args.lower.now l.place) n raw) c.name_at.ensures
    ∙ ap (λ (z : ℤ). box_text (number_at c.args.lower.now l.place) (name_at (map string_bytes c.args.columns.now) l.place) z) (to_z-of_z _ _ high))

use Rattle.std.proofs.Common.{rules, ap, ◌∙◌, map, string_bytes}
use Rattle.std.proofs.lemmas.Int.{to_z-of_z}
use mir.Val.{SFits}
use mir.Syntax.{w128}
use lib.IntN.{ℤ}
use Rattle.tetri_ip.specs.Points.{number_at}
use Rattle.tetri_export.specs.Lp.{name_at, times_text}
use Rattle.tetri_export.proofs.TextLemmas.{text_next}
use Rattle.tetri_export.proofs.lp.add_costs.Goals as goal

pub loop-place-preserved : goal.loop-place-preserved
loop-place-preserved c =
    let l = c.loop-place in
    let fits : SFits w128 (number_at c.args.costs.now l.place) = search rules in
    text_next (λ k. times_text (number_at c.args.costs.now k) (name_at (map string_bytes c.args.columns.now) k)) l.place
    (string_bytes c.args.out.now) (string_bytes l.out) (string_bytes c.add_times.new.out) _ l.invariant c.in_ok-add_times.ensures
    (ap (λ (z : ℤ). times_text z c.name_at.result.now) (to_z-of_z _ _ fits) ∙ ap (λ n. times_text (number_at c.args.costs.now l.place) n) c.name_at.ensures)

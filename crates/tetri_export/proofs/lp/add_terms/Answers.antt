use Rattle.std.proofs.Common.{rules, ap, ◌∙◌, map, string_bytes}
use Rattle.std.proofs.lemmas.Int.{to_z-of_z}
use mir.Val.{SFits}
use mir.Syntax.{w128}
use lib.IntN.{ℤ}
use Rattle.tetri_ip.specs.Points.{term_at}
use Rattle.tetri_export.specs.Lp.{term_text, times_text}
use Rattle.tetri_export.proofs.TextLemmas.{text_next}
use Rattle.tetri_export.proofs.lp.add_terms.Goals as goal

pub loop-place-preserved : goal.loop-place-preserved
loop-place-preserved c =
    let l = c.loop-place in
    let fits : SFits w128 (term_at c.args.terms.now l.place).by = search rules in
    text_next (λ k. term_text (map string_bytes c.args.columns.now) (term_at c.args.terms.now k)) l.place
    (string_bytes c.args.out.now) (string_bytes l.out) (string_bytes c.add_times.new.out) _ l.invariant c.in_ok-add_times.ensures
    (ap (λ (z : ℤ). times_text z c.name_at.result.now) (to_z-of_z _ _ fits) ∙ ap (λ n. times_text (term_at c.args.terms.now l.place).by n) c.name_at.ensures)

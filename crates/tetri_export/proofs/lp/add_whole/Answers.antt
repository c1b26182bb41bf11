use Rattle.std.proofs.Common.{ap, map, string_bytes}
use Rattle.tetri_export.specs.Lp.{name_at}
use Rattle.tetri_export.specs.Plain.{name_text}
use Rattle.tetri_export.proofs.TextLemmas.{text_next}
use Rattle.tetri_export.proofs.lp.add_whole.Goals as goal

pub loop-place-preserved : goal.loop-place-preserved
loop-place-preserved c =
    let l = c.loop-place in
    text_next (λ k. name_text (name_at (map string_bytes c.args.columns.now) k)) l.place
    (string_bytes c.args.out.now) (string_bytes l.out) (string_bytes c.add_name.new.out) _ l.invariant c.in_ok-add_name.ensures
    (ap name_text c.name_at.ensures)

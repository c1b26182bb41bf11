use Rattle.std.proofs.Common.{ap, map, string_bytes}
use Rattle.tetri_export.specs.Lines.{limit_line}
use Rattle.tetri_export.specs.Lp.{name_at}
use Rattle.tetri_export.proofs.TextLemmas.{text_next}
use Rattle.tetri_export.proofs.mps.add_limits.Goals as goal

pub loop-place-preserved : goal.loop-place-preserved
loop-place-preserved c =
    let l = c.loop-place in
    text_next (λ k. limit_line (name_at (map string_bytes c.args.names.now) k)) l.place
    (string_bytes c.args.out.now) (string_bytes l.out) (string_bytes c.add_limit.new.out) _ l.invariant c.in_ok-add_limit.ensures
    (ap limit_line c.name_at.ensures)

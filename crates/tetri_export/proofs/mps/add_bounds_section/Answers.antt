use Rattle.std.proofs.Common.{map, string_bytes}
use Rattle.std.specs.Prelude.{codes}
use Rattle.tetri_export.specs.Mps.{boxes_text}
use Rattle.tetri_export.proofs.TextLemmas.{after}
use Rattle.tetri_export.proofs.mps.add_bounds_section.Goals as goal

pub returns : goal.returns
returns c =
    after (string_bytes c.args.out.now) (string_bytes c.push_str.new.self) (string_bytes c.add_boxes.new.out) (codes "BOUNDS\n LO BOUND nothing 0\n UP BOUND nothing 0\n")
    (boxes_text (map string_bytes c.args.columns.now) c.args.lower.now c.args.upper.now) c.in_ok-push_str.ensures.bytes c.in_ok-add_boxes.ensures

use Rattle.std.proofs.Common.{map, string_bytes}
use Rattle.std.specs.Prelude.{codes}
use Rattle.tetri_export.specs.Mps.{limits_text}
use Rattle.tetri_export.proofs.TextLemmas.{after}
use Rattle.tetri_export.proofs.mps.add_rows_section.Goals as goal

pub returns : goal.returns
returns c =
    after (string_bytes c.args.out.now) (string_bytes c.push_str.new.self) (string_bytes c.add_limits.new.out) (codes "NAME cycle FREE\nROWS\n N value\n L none\n")
    (limits_text (map string_bytes c.args.names.now) c.args.count) c.in_ok-push_str.ensures.bytes c.in_ok-add_limits.ensures

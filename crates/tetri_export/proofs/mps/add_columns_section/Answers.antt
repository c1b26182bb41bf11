use Rattle.std.proofs.Common.{map, string_bytes}
use Rattle.std.specs.Prelude.{codes}
use Rattle.tetri_export.specs.Mps.{columns_text}
use Rattle.tetri_export.proofs.TextLemmas.{after}
use Rattle.tetri_export.proofs.mps.add_columns_section.Goals as goal

pub returns : goal.returns
returns c =
    after (string_bytes c.args.out.now) (string_bytes c.push_str.new.self) (string_bytes c.add_columns.new.out) (codes "COLUMNS\n WHOLE 'MARKER' 'INTORG'\n nothing value 0\n")
    (columns_text (map string_bytes c.args.columns.now) (map string_bytes c.args.names.now) c.args.costs.now c.args.entries.now) c.in_ok-push_str.ensures.bytes c.in_ok-add_columns.ensures

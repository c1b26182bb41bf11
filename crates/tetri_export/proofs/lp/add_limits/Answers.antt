use Rattle.std.proofs.Common.{map, string_bytes}
use Rattle.std.specs.Prelude.{codes}
use Rattle.tetri_compile.specs.Flat.{plain_row}
use Rattle.tetri_export.specs.Lp.{rows_text}
use Rattle.tetri_export.proofs.TextLemmas.{after}
use Rattle.tetri_export.proofs.lp.add_limits.Goals as goal

pub returns : goal.returns
returns c =
    after (string_bytes c.args.out.now) (string_bytes c.push_str.new.self) (string_bytes c.add_rows.new.out) (codes "Subject To\n none: 0 nothing <= 0\n")
    (rows_text (map string_bytes c.args.columns.now) (map string_bytes c.args.names.now) (map plain_row c.args.rows.now)) c.in_ok-push_str.ensures.bytes c.in_ok-add_rows.ensures

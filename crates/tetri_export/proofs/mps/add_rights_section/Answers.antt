use Rattle.std.proofs.Common.{map, string_bytes}
use Rattle.std.specs.Prelude.{codes}
use Rattle.tetri_compile.specs.Flat.{plain_row}
use Rattle.tetri_export.specs.Mps.{rights_text}
use Rattle.tetri_export.proofs.TextLemmas.{after}
use Rattle.tetri_export.proofs.mps.add_rights_section.Goals as goal

pub returns : goal.returns
returns c =
    after (string_bytes c.args.out.now) (string_bytes c.push_str.new.self) (string_bytes c.add_rights.new.out) (codes " END 'MARKER' 'INTEND'\nRHS\n RIGHT none 0\n")
    (rights_text (map string_bytes c.args.names.now) (map plain_row c.args.rows.now)) c.in_ok-push_str.ensures.bytes c.in_ok-add_rights.ensures

use Rattle.std.proofs.Common.{map, string_bytes}
use Rattle.std.specs.Prelude.{codes}
use Rattle.tetri_export.specs.Lp.{whole_text}
use Rattle.tetri_export.proofs.TextLemmas.{after}
use Rattle.tetri_export.proofs.lp.add_generals.Goals as goal

pub returns : goal.returns
returns c =
    after (string_bytes c.args.out.now) (string_bytes c.push_str.new.self) (string_bytes c.add_whole.new.out) (codes "Generals\n nothing\n")
    (whole_text (map string_bytes c.args.columns.now) c.args.count) c.in_ok-push_str.ensures.bytes c.in_ok-add_whole.ensures

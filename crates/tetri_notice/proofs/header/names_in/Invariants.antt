use Rattle.std.proofs.Common.{◌≡◌, ◌++◌, drop}
use Rattle.std.specs.Prelude.{option_map}
use Rattle.serde_json.specs.View.{items_view}
use Rattle.tetri_notice.specs.Fields.{names_in}
use Rattle.tetri_notice.proofs.header.names_in.Given as goal

abbrev pub invariant-loop-item : goal.invariant-loop-item
invariant-loop-item l = names_in (items_view l.list) ≡ option_map (λ names. l.names ++ names) (names_in (items_view (drop l.item-index l.list)))

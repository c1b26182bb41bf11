use Rattle.std.proofs.Common.{◌≡◌, ◌++◌, drop, All}
use Rattle.std.specs.Prelude.{option_map}
use Rattle.serde_json.specs.View.{items_view}
use Rattle.tetri_notice.specs.Closures.{closures_in, IsWithinLimits}
use Rattle.tetri_notice.proofs.closures.closures_in.Given as goal

abbrev pub invariant-loop-item : goal.invariant-loop-item
invariant-loop-item l = record {
  within : All IsWithinLimits l.closures.items;
  found : closures_in (items_view l.item-items) ≡ option_map (λ closures. l.closures.items ++ closures) (closures_in (items_view (drop l.item-index l.item-items)));
}

use Rattle.std.proofs.Common.{◌≡◌, string_bytes, take}
use Rattle.std.specs.Prelude.{All}
use Rattle.tetri_trace.specs.Scenario.{scenario}
use Rattle.tetri_queue.specs.Orders.{IsOrder, orders_text}
use Rattle.tetri_queue.proofs.ordering.orders_text.Given as goal

abbrev pub invariant-loop-piece : goal.invariant-loop-piece
invariant-loop-piece l = record {
  orders : All (IsOrder (scenario l.trace)) (take l.piece-index l.launches.pieces.items);
  text : string_bytes l.text ≡ orders_text l.form (scenario l.trace) (take l.piece-index l.launches.pieces.items);
}

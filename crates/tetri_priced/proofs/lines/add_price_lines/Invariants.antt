use Rattle.std.proofs.Common.{◌≡◌, ◌++◌, take, string_bytes}
use Rattle.std.specs.Prelude.{flat_map}
use Rattle.tetri_trace.specs.Scenario.{scenario}
use Rattle.tetri_priced.specs.Text.{node_line}
use Rattle.tetri_priced.proofs.lines.add_price_lines.Given as goal

abbrev pub invariant-loop-price : goal.invariant-loop-price
invariant-loop-price l = string_bytes l.out ≡ string_bytes l.initial.out ++ flat_map (node_line (scenario l.trace)) (take l.price-index l.prices)

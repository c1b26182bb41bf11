use Rattle.std.proofs.Common.{◌≡◌, ◌++◌, map, string_bytes}
use Rattle.std.specs.Prelude.{flat_map}
use Rattle.std.specs.List.{range_with_len}
use Rattle.tetri_ip.specs.Points.{number_at}
use Rattle.tetri_export.specs.Lp.{name_at}
use Rattle.tetri_export.specs.Mps.{column_text, entries_at}
use Rattle.tetri_export.proofs.mps.add_columns.Given as goal

abbrev pub invariant-loop-place : goal.invariant-loop-place
invariant-loop-place l = string_bytes l.out ≡ string_bytes l.initial.out ++ flat_map (λ k. column_text (map string_bytes l.names) (name_at (map string_bytes l.columns) k) (number_at l.costs k) (entries_at l.fn.entries k)) (range_with_len 0 l.place)

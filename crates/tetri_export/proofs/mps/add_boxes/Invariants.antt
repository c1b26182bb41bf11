use Rattle.std.proofs.Common.{◌≡◌, ◌++◌, map, string_bytes}
use Rattle.std.specs.Prelude.{flat_map}
use Rattle.std.specs.List.{range_with_len}
use Rattle.tetri_ip.specs.Points.{number_at}
use Rattle.tetri_export.specs.Lp.{name_at}
use Rattle.tetri_export.specs.Mps.{bound_lines}
use Rattle.tetri_export.proofs.mps.add_boxes.Given as goal

abbrev pub invariant-loop-place : goal.invariant-loop-place
invariant-loop-place l = string_bytes l.out ≡ string_bytes l.initial.out ++ flat_map (λ k. bound_lines (name_at (map string_bytes l.columns) k) (number_at l.lower k) (number_at l.upper k)) (range_with_len 0 l.place)

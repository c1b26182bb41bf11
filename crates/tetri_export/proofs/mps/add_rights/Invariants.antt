use Rattle.std.proofs.Common.{◌≡◌, ◌++◌, map, string_bytes}
use Rattle.std.specs.Prelude.{flat_map}
use Rattle.std.specs.List.{range_with_len}
use Rattle.tetri_compile.specs.Flat.{plain_row}
use Rattle.tetri_export.specs.Lines.{right_line}
use Rattle.tetri_export.specs.Lp.{name_at, row_at}
use Rattle.tetri_export.proofs.mps.add_rights.Given as goal

abbrev pub invariant-loop-place : goal.invariant-loop-place
invariant-loop-place l = string_bytes l.out ≡ string_bytes l.initial.out ++ flat_map (λ k. right_line (name_at (map string_bytes l.names) k) (row_at (map plain_row l.rows) k).right) (range_with_len 0 l.place)

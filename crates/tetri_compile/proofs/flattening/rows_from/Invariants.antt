use Rattle.std.proofs.Common.{◌≡◌, ◌++◌, drop, length, map}
use Rattle.tetri_compile.specs.Flat.{flat_row, plain_row}
use Rattle.tetri_compile.specs.Forms.{plain_limit}
use Rattle.tetri_compile.proofs.flattening.rows_from.Given as goal

abbrev pub invariant-loop-limit : goal.invariant-loop-limit
invariant-loop-limit l =
    map plain_row l.rows.items ++ map (flat_row (length l.out.uppers.items)) (map plain_limit (drop l.limit-index l.limit-items))
    ≡ map (flat_row (length l.out.uppers.items)) (map plain_limit l.limit-items)

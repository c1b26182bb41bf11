use Rattle.std.proofs.Common.{◌≡◌, ◌++◌, drop, length, map}
use Rattle.tetri_compile.specs.Flat.{flat_row, plain_row}
use Rattle.tetri_wide.specs.Sketch.{limit_of}
use Rattle.tetri_wide.proofs.flattening.rows_from.Given as goal

abbrev pub invariant-loop-limit : goal.invariant-loop-limit
invariant-loop-limit l =
    map plain_row l.rows.items ++ map (flat_row (length l.out.uppers.items)) (map limit_of (drop l.limit-index l.limit-items))
    ≡ map (flat_row (length l.out.uppers.items)) (map limit_of l.limit-items)

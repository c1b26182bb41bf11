use Rattle.std.proofs.Common.{◌≡◌, ◌+◌, ◌++◌, drop, length}
use Rattle.tetri_simplex.specs.Ends.{weights_of}
use Rattle.tetri_dictionary.specs.Tables.{coefficients_of, row_at}
use Rattle.tetri_dictionary.specs.Fractions.{values}
use Rattle.tetri_simplex.proofs.weights.row_weights.Given as goal

abbrev pub invariant-loop-i : goal.invariant-loop-i
invariant-loop-i g l =
    let t = g.D.Dictionary.table l.d in
    record {
      formed :
          values l.weights.items ++ weights_of t.nonbasic (coefficients_of (row_at t l.row)) l.own (l.first + l.i) (drop l.i l.rows)
          ≡ weights_of t.nonbasic (coefficients_of (row_at t l.row)) l.own l.first l.rows;
      count : length l.weights.items ≡ l.i;
    }

use Rattle.std.proofs.Common.{◌≡◌, ◌+◌, ◌-◌, ◌*◌, length}
use Rattle.tetri_parse.specs.Rows.{row_at}
use Rattle.tetri_parse.specs.Grammar.{expr_at, goes_on_to_child}
use Rattle.tetri_parse.specs.Phrase.{phrases, line_up}
use Rattle.tetri_parse.specs.Written.{AreSpelled}
use Rattle.tetri_parse.proofs.Rows.{gathered, put_last}
use Rattle.tetri_parse.proofs.reading.+reading.Given as goal

abbrev pub decreases-expr : goal.decreases-expr
decreases-expr l = 4 * l.levels

abbrev pub decreases-body : goal.decreases-body
decreases-body l = 4 * l.levels + 3

abbrev pub decreases-with_number : goal.decreases-with_number
decreases-with_number l = 4 * l.levels + 1

abbrev pub decreases-children : goal.decreases-children
decreases-children l = 4 * l.levels + 2

abbrev pub decreases-child_row : goal.decreases-child_row
decreases-child_row l = 4 * l.levels + 1

abbrev pub invariant-child_row-loop : goal.invariant-child_row-loop
invariant-child_row-loop l = record {
  so_far : gathered put_last (phrases l.cluster l.parts.items) (row_at (expr_at l.cluster l.levels) (goes_on_to_child l.cluster) (length l.text - l.counter) (l.leaves, l.rest)) ≡ row_at (expr_at l.cluster l.levels) (goes_on_to_child l.cluster) (length l.text) (l.taken, l.text);
  good : AreSpelled (length l.cluster) l.levels l.taken (line_up (phrases l.cluster l.parts.items)) l.leaves;
}

-- The usual worked example: of two nodes with a tag and two without, a job wants two with the tag, or any two for longer.
use Rattle.std.proofs.Common.{◌≡◌, ℕ, false, List, [], ◌∷◌, refl}
use lib.IntN.{pos, negsuc}
use Rattle.tetri_strl.specs.declared.expr.Leaf.{Leaf}
use Rattle.tetri_strl.specs.Tree.{greatest, one, join, none, more}
use Rattle.tetri_ip.specs.declared.programs.Term.{Term}
use Rattle.tetri_space.specs.declared.closure.Closure.{Closure}
use Rattle.tetri_space.specs.Partitions.{partitions}
use Rattle.tetri_space.specs.Space.{Space}
use Rattle.tetri_compile.specs.Flat.{FlatRow, program_of, column_count, row_count}

abbrev tagged : Leaf
tagged = record { num = 0; set = 0; k = 2; start = 0; dur = 2; v = 4; linear = false }

abbrev any_two : Leaf
any_two = record { num = 1; set = 1; k = 2; start = 0; dur = 3; v = 3; linear = false }

abbrev usual : Space
usual = record {
  now = 0;
  window = 4;
  nodes = 4;
  sets = (0 ∷ 1 ∷ []) ∷ (0 ∷ 1 ∷ 2 ∷ 3 ∷ []) ∷ [];
  busy_until = 0 ∷ 0 ∷ 0 ∷ 0 ∷ [];
  drained = false ∷ false ∷ false ∷ false ∷ [];
  closures = [];
  bids = record { job = 0; expr = join greatest (more (one tagged) (more (one any_two) none)) } ∷ [];
}

abbrev plus : ℕ → Term
plus j = record { column = j; by = pos 1 }

abbrev minus : ℕ → ℕ → Term
minus j k = record { column = j; by = negsuc k }

abbrev times_two : ℕ → Term
times_two j = record { column = j; by = pos 2 }

abbrev at_most : List Term → ℕ → FlatRow
at_most ts m = record { terms = ts; right = pos m }

two_parts : partitions usual ≡ (0 ∷ 1 ∷ []) ∷ (2 ∷ 3 ∷ []) ∷ []
two_parts = refl

six_columns : column_count usual ≡ 6
six_columns = refl

eleven_rows : row_count usual ≡ 11
eleven_rows = refl

-- the indicators of the job and of its two parts, the count of the tagged leaf, and the two of the other
whole_program : program_of usual ≡ record {
  costs = pos 0 ∷ pos 4 ∷ pos 3 ∷ pos 0 ∷ pos 0 ∷ pos 0 ∷ [];
  lower = pos 0 ∷ pos 0 ∷ pos 0 ∷ pos 0 ∷ pos 0 ∷ pos 0 ∷ [];
  upper = pos 1 ∷ pos 1 ∷ pos 1 ∷ pos 2 ∷ pos 2 ∷ pos 2 ∷ [];
  rows =
      at_most (minus 0 0 ∷ plus 1 ∷ plus 2 ∷ []) 0
      ∷ at_most (minus 1 1 ∷ plus 3 ∷ []) 0
      ∷ at_most (times_two 1 ∷ minus 3 0 ∷ []) 0
      ∷ at_most (minus 2 1 ∷ plus 4 ∷ plus 5 ∷ []) 0
      ∷ at_most (times_two 2 ∷ minus 4 0 ∷ minus 5 0 ∷ []) 0
      ∷ at_most (plus 3 ∷ plus 4 ∷ []) 2
      ∷ at_most (plus 3 ∷ plus 4 ∷ []) 2
      ∷ at_most (plus 4 ∷ []) 2
      ∷ at_most (plus 5 ∷ []) 2
      ∷ at_most (plus 5 ∷ []) 2
      ∷ at_most (plus 5 ∷ []) 2
      ∷ [];
}
whole_program = refl

-- ---- Two nodes with closures: a job wants any one of them for four slots, from slot 1 on.
abbrev any_one : Leaf
any_one = record { num = 0; set = 0; k = 1; start = 1; dur = 4; v = 5; linear = false }

abbrev closing : ℕ → ℕ → ℕ → Closure
closing n a b = record { node = n; from = a; to = b }

abbrev two_nodes : ℕ → List Closure → Space
two_nodes now closures = record {
  now = now;
  window = 4;
  nodes = 2;
  sets = (0 ∷ 1 ∷ []) ∷ [];
  busy_until = 0 ∷ 0 ∷ [];
  drained = false ∷ false ∷ [];
  closures = closures;
  bids = record { job = 0; expr = one any_one } ∷ [];
}

-- each slot has a free node, and no node is free throughout: neither count may be above 0
no_node_throughout : program_of (two_nodes 0 (closing 0 2 2 ∷ closing 1 4 4 ∷ [])) ≡ record {
  costs = pos 5 ∷ pos 0 ∷ pos 0 ∷ [];
  lower = pos 0 ∷ pos 0 ∷ pos 0 ∷ [];
  upper = pos 1 ∷ pos 0 ∷ pos 0 ∷ [];
  rows =
      at_most (minus 0 0 ∷ plus 1 ∷ plus 2 ∷ []) 0
      ∷ at_most (plus 0 ∷ minus 1 0 ∷ minus 2 0 ∷ []) 0
      ∷ at_most (plus 1 ∷ []) 1
      ∷ at_most (plus 1 ∷ []) 0
      ∷ at_most (plus 1 ∷ []) 1
      ∷ at_most (plus 2 ∷ []) 1
      ∷ at_most (plus 2 ∷ []) 1
      ∷ at_most (plus 2 ∷ []) 1
      ∷ [];
}
no_node_throughout = refl

-- without the second closure the second node may be had
one_node_throughout : program_of (two_nodes 0 (closing 0 2 2 ∷ [])) ≡ record {
  costs = pos 5 ∷ pos 0 ∷ pos 0 ∷ [];
  lower = pos 0 ∷ pos 0 ∷ pos 0 ∷ [];
  upper = pos 1 ∷ pos 0 ∷ pos 1 ∷ [];
  rows =
      at_most (minus 0 0 ∷ plus 1 ∷ plus 2 ∷ []) 0
      ∷ at_most (plus 0 ∷ minus 1 0 ∷ minus 2 0 ∷ []) 0
      ∷ at_most (plus 1 ∷ []) 1
      ∷ at_most (plus 1 ∷ []) 0
      ∷ at_most (plus 1 ∷ []) 1
      ∷ at_most (plus 2 ∷ []) 1
      ∷ at_most (plus 2 ∷ []) 1
      ∷ at_most (plus 2 ∷ []) 1
      ∷ [];
}
one_node_throughout = refl

-- a closure behind every leaf tells the nodes apart, and one that is over before now does not
split_behind : partitions (two_nodes 0 (closing 0 9 9 ∷ [])) ≡ (0 ∷ []) ∷ (1 ∷ []) ∷ []
split_behind = refl

together_after : partitions (two_nodes 1 (closing 0 0 0 ∷ [])) ≡ (0 ∷ 1 ∷ []) ∷ []
together_after = refl

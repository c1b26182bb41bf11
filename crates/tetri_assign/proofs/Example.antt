-- Two nodes, the first busy until slot 2: one job holds a node for two slots from slot 1 on, and two others want any node at slot 2.
use Rattle.std.proofs.Common.{◌≡◌, ℕ, false, List, [], ◌∷◌, map, refl}
use lib.IntN.{ℤ, pos}
use Rattle.tetri_strl.specs.declared.expr.Leaf.{Leaf}
use Rattle.tetri_strl.specs.Tree.{one}
use Rattle.tetri_space.specs.declared.closure.Closure.{Closure}
use Rattle.tetri_space.specs.Space.{Space}
use Rattle.tetri_space.specs.Total.{total_in}
use Rattle.tetri_compile.specs.Flat.{column_count}
use Rattle.tetri_assign.specs.Assigned.{assigned, grant}

abbrev first : Leaf
first = record { num = 0; set = 0; k = 1; start = 1; dur = 2; v = 6; linear = false }

abbrev longer : Leaf
longer = record { num = 0; set = 0; k = 1; start = 2; dur = 2; v = 5; linear = false }

abbrev shorter : Leaf
shorter = record { num = 0; set = 0; k = 1; start = 2; dur = 1; v = 5; linear = false }

abbrev two_nodes : Space
two_nodes = record {
  now = 1;
  window = 4;
  nodes = 2;
  sets = (0 ∷ 1 ∷ []) ∷ [];
  busy_until = 2 ∷ 1 ∷ [];
  drained = false ∷ false ∷ [];
  closures = [];
  bids = record { job = 1; expr = one first } ∷ record { job = 2; expr = one longer } ∷ record { job = 3; expr = one shorter } ∷ [];
}

abbrev at_numbers : List ℕ → List ℤ
at_numbers = map pos

six_columns : column_count two_nodes ≡ 6
six_columns = refl

-- the node that is held from slot 1 on is not free at slot 2, and the other one is by then
with_shorter : assigned two_nodes (at_numbers (1 ∷ 1 ∷ 0 ∷ 0 ∷ 1 ∷ 1 ∷ [])) ≡ grant 1 0 (1 ∷ []) ∷ grant 3 0 (0 ∷ []) ∷ []
with_shorter = refl

with_longer : assigned two_nodes (at_numbers (1 ∷ 1 ∷ 1 ∷ 1 ∷ 0 ∷ 0 ∷ [])) ≡ grant 1 0 (1 ∷ []) ∷ grant 2 0 (0 ∷ []) ∷ []
with_longer = refl

-- the two later jobs take both nodes where the first one takes none
without_first : assigned two_nodes (at_numbers (0 ∷ 0 ∷ 1 ∷ 1 ∷ 1 ∷ 1 ∷ [])) ≡ grant 2 0 (0 ∷ []) ∷ grant 3 0 (1 ∷ []) ∷ []
without_first = refl

worth_eleven : total_in two_nodes (grant 1 0 (1 ∷ []) ∷ grant 3 0 (0 ∷ []) ∷ []) ≡ 11
worth_eleven = refl

-- ---- The first of two nodes is closed in slot 2: a job that holds a node from slot 1 to slot 4 gets the other one.
abbrev throughout : Leaf
throughout = record { num = 0; set = 0; k = 1; start = 1; dur = 4; v = 5; linear = false }

abbrev closed_once : Closure
closed_once = record { node = 0; from = 2; to = 2 }

abbrev one_closed : Space
one_closed = record {
  now = 0;
  window = 4;
  nodes = 2;
  sets = (0 ∷ 1 ∷ []) ∷ [];
  busy_until = 0 ∷ 0 ∷ [];
  drained = false ∷ false ∷ [];
  closures = closed_once ∷ [];
  bids = record { job = 0; expr = one throughout } ∷ [];
}

other_node : assigned one_closed (at_numbers (1 ∷ 0 ∷ 1 ∷ [])) ≡ grant 0 0 (1 ∷ []) ∷ []
other_node = refl

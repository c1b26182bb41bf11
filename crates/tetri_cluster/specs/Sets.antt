-- The sets of nodes of a trace: each has the number of its place in the list.
use Rattle.std.specs.Prelude.{ℕ, ◌<◌, ◌≢◌, ◌∷◌, [], ◌++◌, ◌||◌, List, All, AllPairs, Bool, Option, Some, None, length, nat_eq, nat_lt, if◌then◌else◌}
use Rattle.std.specs.Cmp.Lexicographic.{pointwise}
use Rattle.std.specs.List.{list_any, position_or_len}
use Rattle.std.specs.List.Sorted.{IsStrictlyIncreasing}

-- each set ascends without repeats, and no two have the same nodes
pub record AreSets (sets : List (List ℕ)) : Type 0 where
  pub ascending : All IsStrictlyIncreasing sets
  pub different : AllPairs (λ s t. s ≢ t) sets

-- whether two sets have the same nodes
abbrev pub has_nodes : List ℕ → List ℕ → Bool
has_nodes = pointwise nat_eq

-- whether one of the sets has these nodes
abbrev pub is_known : List ℕ → List (List ℕ) → Bool
is_known nodes sets = list_any (has_nodes nodes) sets

-- the number that the set with these nodes has, or gets where it is new
abbrev pub number_in : List (List ℕ) → List ℕ → ℕ
number_in sets nodes = position_or_len (has_nodes nodes) sets

-- the sets with these nodes, last where they are new
abbrev pub with_set : List (List ℕ) → List ℕ → List (List ℕ)
with_set sets nodes = if is_known nodes sets then sets else sets ++ nodes ∷ []

-- a set's number, and the sets with it; none where it is new and 4,096 are there
abbrev pub set_added : List ℕ → List (List ℕ) → Option (ℕ × List (List ℕ))
set_added nodes sets =
    if is_known nodes sets || nat_lt (length sets) 4096 then Some (number_in sets nodes, with_set sets nodes) else None

-- sets over the nodes of a cluster of so many
abbrev pub HaveNodesBelow : ℕ → List (List ℕ) → Type 0
HaveNodesBelow count sets = All (All (λ n. n < count)) sets

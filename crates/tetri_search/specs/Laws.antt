-- What holds of every tree of a search.
use Rattle.std.specs.Prelude.{◌≡◌, ℕ, ◌*◌, ◌<◌, ◌≤◌, List, [], ◌∷◌, Bool, true, false, length, take, nat_lt, slice_index_or, Option, Some, None, ◌+ℤ◌, ◌-ℤ◌, Ok, pos, unsigned_abs}
use Rattle.std.specs.List.{fold, list_any}
use lib.IntN.{ℤ}
use Rattle.tetri_ip.specs.declared.programs.Program.{Program}
use Rattle.tetri_ip.specs.Points.{IsFit, objective}
use Rattle.tetri_ip.specs.SamePrograms.{SaysSame}
use Rattle.tetri_cert.specs.declared.marks.Cell.{Cell}
use Rattle.tetri_cert.specs.declared.marks.Mark.{Mark}
use Rattle.tetri_cert.specs.declared.marks.Mark.TheVariants.{Split, Close, Whole, Rest}
use Rattle.tetri_cert.specs.Cells.{point_of}
use Rattle.tetri_cert.specs.Trees.{nodes_in, tree_bound}
use Rattle.tetri_search.specs.Table.{Node, table}
use Rattle.tetri_search.specs.Follow.{IsEarned, after, best_behind, first_state, last_whole}

abbrev pub is_rest : Mark → Bool
is_rest (Split j at licence) = false
is_rest (Close q ws) = false
is_rest (Whole q ws worth cells) = false
is_rest (Rest q ws) = true

abbrev pub has_rest : List Mark → Bool
has_rest ms = list_any is_rest ms

-- the tree is a proper one; where no node is left open, its bound is at most the best objective known at its end
pub record IsSettled (p : Program) (low : ℕ) (ms : List Mark) : Type 0 where
  pub bound : ℕ
  pub bound_is : tree_bound p ms ≡ Ok bound
  pub at_most : has_rest ms ≡ false → bound ≤ best_behind low ms

abbrev pub EarnedIsProper : Type 0
EarnedIsProper = (p : Program) (low budget : ℕ) (ms : List Mark) → IsFit p → IsEarned p low budget ms → IsSettled p low ms

-- the best objective known is that of the last whole point, and as at first where there is none
abbrev pub IsBestPoint : Program → ℕ → Option (List Cell) → ℕ → Type 0
IsBestPoint p low None known = known ≡ low
IsBestPoint p low (Some cells) known = pos known ≡ objective p (point_of (length p.costs.items) cells)

abbrev pub WholesRise : Type 0
WholesRise = (p : Program) (low budget : ℕ) (ms : List Mark) → IsFit p → IsEarned p low budget ms → IsBestPoint p low (last_whole ms) (best_behind low ms)

-- a node is left open only where the budget is spent
abbrev pub RestsSpendTheBudget : Type 0
RestsSpendTheBudget = (p : Program) (low budget : ℕ) (ms : List Mark) → IsEarned p low budget ms → has_rest ms ≡ true → nodes_in ms ≡ budget

-- how many points a box has
abbrev pub points_in : List ℤ → List ℤ → ℕ
points_in [] us = 1
points_in (l ∷ ls) [] = 1
points_in (l ∷ ls) (u ∷ us) = unsigned_abs ((u -ℤ l) +ℤ pos 1) * points_in ls us

-- twice as many nodes as the box has points
abbrev pub enough : Program → ℕ
enough p = 2 * points_in p.lower.items p.upper.items

abbrev pub EnoughLeavesNoRest : Type 0
EnoughLeavesNoRest = (p : Program) (low budget : ℕ) (ms : List Mark) → IsFit p → IsEarned p low budget ms → enough p ≤ budget → has_rest ms ≡ false

-- each mark is that of the first node that is open behind the marks before it, for the best objective known and the marks used till then
pub record IsOfNode (p : Program) (low budget : ℕ) (ms : List Mark) (k : ℕ) : Type 0 where
  pub node : Node
  pub others : List Node
  pub open_nodes : (fold (after p) (first_state p low) (take k ms)).open_nodes ≡ node ∷ others
  pub mark : (m : Mark) → slice_index_or ms k m ≡ table p node (best_behind low (take k ms)) (nat_lt (nodes_in (take k ms)) budget)

abbrev pub EarnedByPlace : Type 0
EarnedByPlace = (p : Program) (low budget : ℕ) (ms : List Mark) → IsEarned p low budget ms → (k : ℕ) → k < length ms → IsOfNode p low budget ms k

-- programs that say the same have one tree for a best objective known at first and a budget
abbrev pub EarnedTreesAreOne : Type 0
EarnedTreesAreOne = (p other : Program) (low budget : ℕ) (ms others : List Mark) → SaysSame p other → IsEarned p low budget ms → IsEarned other low budget others → ms ≡ others

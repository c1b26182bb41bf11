-- The tree of a search: each mark is that of the next open node, and none is left open at the end.
use Rattle.std.specs.Prelude.{◌≡◌, ℕ, ◌+◌, List, [], ◌∷◌, max, nat_lt, Option, Some, None, pos}
use Rattle.std.specs.List.{fold}
use lib.IntN.{ℤ, negsuc}
use Rattle.tetri_ip.specs.declared.programs.Program.{Program}
use Rattle.tetri_ip.specs.Points.{Bounds, box_of}
use Rattle.tetri_simplex.specs.Ends.{End, best, cut, empty, past, long}
use Rattle.tetri_simplex.specs.Machine.{machine}
use Rattle.tetri_cert.specs.declared.marks.Cell.{Cell}
use Rattle.tetri_cert.specs.declared.marks.Mark.{Mark}
use Rattle.tetri_cert.specs.declared.marks.Mark.TheVariants.{Split, Close, Whole, Rest}
use Rattle.tetri_cert.specs.NodeBounds.{high_side, low_side}
use Rattle.tetri_search.specs.declared.branches.Branch.{Branch}
use Rattle.tetri_search.specs.declared.duals.Dual.{Dual}
use Rattle.tetri_search.specs.Table.{Node, table, unfixed_from}

-- ---- what a mark changes
-- the weights of a run that ended at a best point
abbrev pub dual_of : End → Option Dual
dual_of (best point q ws) = Some (record { q = q; weights = ws })
dual_of (cut q ws) = None
dual_of (empty ws) = None
dual_of (past place) = None
dual_of long = None

-- no run is made at a region of one point
abbrev pub dual_by : Option Branch → Program → Bounds → ℕ → Option Dual
dual_by None p b known = None
dual_by (Some c) p b known = dual_of (machine p b known)

-- the weights of a node's own run
unfoldable pub own_dual : Program → Bounds → ℕ → Option Dual
own_dual p b known = dual_by (unfixed_from 0 b.lower b.upper) p b known

abbrev pub dual_or : Option Dual → Option Dual → Option Dual
dual_or None above = above
dual_or (Some d) above = Some d

-- the weights that the nodes below one have above them
abbrev pub dual_below : Program → Node → ℕ → Option Dual
dual_below p n known = dual_or (own_dual p n.region known) n.dual

-- the nodes below one with its mark, the high side first, before other open nodes
abbrev pub open_behind : Node → Option Dual → Mark → List Node → List Node
open_behind n d (Split j at licence) others =
    record { region = high_side n.region j at; dual = d } ∷ record { region = low_side n.region j at; dual = d } ∷ others
open_behind n d (Close q ws) others = others
open_behind n d (Whole q ws worth cells) others = others
open_behind n d (Rest q ws) others = others

-- a number that is not below 0, else 0
abbrev pub natural : ℤ → ℕ
natural (pos n) = n
natural (negsuc n) = 0

-- the greater of a number and of a whole point's objective
abbrev pub best_after : ℕ → Mark → ℕ
best_after known (Split j at licence) = known
best_after known (Close q ws) = known
best_after known (Whole q ws worth cells) = max known (natural worth)
best_after known (Rest q ws) = known

-- one more, but for a rest
abbrev pub used_after : ℕ → Mark → ℕ
used_after used (Split j at licence) = used + 1
used_after used (Close q ws) = used + 1
used_after used (Whole q ws worth cells) = used + 1
used_after used (Rest q ws) = used

-- the greatest of a number and of the objectives of the whole points
abbrev pub best_behind : ℕ → List Mark → ℕ
best_behind low ms = fold best_after low ms

-- the cells of the last whole point
abbrev pub last_or : Option (List Cell) → Mark → Option (List Cell)
last_or (Some cells) m = Some cells
last_or None (Split j at licence) = None
last_or None (Close q ws) = None
last_or None (Whole q ws worth cells) = Some cells
last_or None (Rest q ws) = None

abbrev pub last_whole : List Mark → Option (List Cell)
last_whole [] = None
last_whole (m ∷ ms) = last_or (last_whole ms) m

-- ---- the search, mark by mark
-- the open nodes in order, the best objective known and the number of marks that are no rests
pub record State : Type 0 where
  pub open_nodes : List Node
  pub known : ℕ
  pub used : ℕ

abbrev pub first_state : Program → ℕ → State
first_state p low = record { open_nodes = record { region = box_of p; dual = None } ∷ []; known = low; used = 0 }

abbrev pub open_after : Program → List Node → ℕ → Mark → List Node
open_after p [] known m = []
open_after p (n ∷ ns) known m = open_behind n (dual_below p n known) m ns

abbrev pub after : Program → State → Mark → State
after p s m = record { open_nodes = open_after p s.open_nodes s.known m; known = best_after s.known m; used = used_after s.used m }

-- a mark is that of the next open node
abbrev pub IsNext : Program → ℕ → List Node → ℕ → ℕ → Mark → Type 0
IsNext p budget [] known used m = ⊥
IsNext p budget (n ∷ ns) known used m = m ≡ table p n known (nat_lt used budget)

-- each mark is that of the next open node
abbrev pub Follows : Program → ℕ → State → List Mark → Type 0
Follows p budget s [] = Unit {0}
Follows p budget s (m ∷ ms) = IsNext p budget s.open_nodes s.known s.used m × Follows p budget (after p s m) ms

-- the marks are those of a whole search, with the best objective known at first and the most marks that are no rests
pub record IsEarned (p : Program) (low budget : ℕ) (ms : List Mark) : Type 0 where
  pub follows : Follows p budget (first_state p low) ms
  pub whole : (fold (after p) (first_state p low) ms).open_nodes ≡ []

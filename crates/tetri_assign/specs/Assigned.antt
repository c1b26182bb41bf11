-- From the counts of a point to nodes.
use Rattle.std.specs.Prelude.{ℕ, Bool, ◌&&◌, not, ◌==◌, nat_lt, if◌then◌else◌, List, [], ◌∷◌, ◌++◌, map, take, unsigned_abs}
use Rattle.std.specs.List.{list_any, filter}
use lib.IntN.{ℤ}
use Rattle.tetri_strl.specs.declared.grants.Grant.{Grant}
use Rattle.tetri_ip.specs.Points.{number_at}
use Rattle.tetri_base.specs.Lists.{has}
use Rattle.tetri_space.specs.Free.{is_free}
use Rattle.tetri_space.specs.Partitions.{part_at, partitions}
use Rattle.tetri_space.specs.Space.{Space}
use Rattle.tetri_compile.specs.declared.outline.Tally.{Tally}
use Rattle.tetri_compile.specs.Draft.{draft}
use Rattle.tetri_compile.specs.Sizes.{covers}
use Rattle.tetri_assign.specs.declared.held.Held.{Held}
use Rattle.tetri_base.specs.Order.{by_then, in_order}

-- what a count took
pub record Piece : Type 0 where
  pub tally : Tally
  pub nodes : List ℕ

-- some piece holds the node in the slot
abbrev pub is_taken : List Piece → ℕ → ℕ → Bool
is_taken ps t n = list_any (λ q. covers q.tally.leaf t && has q.nodes n) ps

-- by start, job, leaf and partition
abbrev pub turn_before : Tally → Tally → Bool
turn_before = by_then (λ (c : Tally). c.leaf.start) (by_then (λ (c : Tally). c.job) (by_then (λ (c : Tally). c.leaf.num) (λ c d. nat_lt c.part d.part)))

-- `x` gives how many nodes a column counts
module _ (s : Space) (parts : List (List ℕ)) (x : ℕ → ℕ) where
  -- the nodes of the count's partition that are free at its start and that no piece holds there
  abbrev pub spare : List Piece → Tally → List ℕ
  spare ps c = filter (λ n. is_free s n c.leaf.start && not (is_taken ps c.leaf.start n)) (part_at parts c.part)

  -- the count takes the first of them
  abbrev pub piece : List Piece → Tally → Piece
  piece ps c = record { tally = c; nodes = take (x c.column) (spare ps c) }

  -- the counts take nodes one after the other; the last piece comes first
  abbrev pub pieces : List Piece → List Tally → List Piece
  pieces ps [] = ps
  pieces ps (c ∷ cs) = pieces (piece ps c ∷ ps) cs

  -- the counts above 0, in their turn
  abbrev pub turns : List Tally → List Tally
  turns cs = in_order turn_before (filter (λ c. nat_lt 0 (x c.column)) cs)

-- by job, leaf and node
abbrev pub held_before : Held → Held → Bool
held_before = by_then (λ (h : Held). h.job) (by_then (λ (h : Held). h.leaf) (λ h i. nat_lt h.node i.node))

-- the leaf got the node
abbrev pub held : Tally → ℕ → Held
held c n = record { job = c.job; leaf = c.leaf.num; node = n }

-- what the leaves got
abbrev pub all_held : List Piece → List Held
all_held [] = []
all_held (q ∷ qs) = map (held q.tally) q.nodes ++ all_held qs

abbrev pub grant : ℕ → ℕ → List ℕ → Grant
grant job leaf nodes = record { job = job; leaf = leaf; nodes = nodes }

-- the node goes into the first grant if that is the leaf's, and else into one of its own
abbrev pub give : Held → List Grant → List Grant
give h [] = grant h.job h.leaf (h.node ∷ []) ∷ []
give h (g ∷ gs) =
    if g.job == h.job && g.leaf == h.leaf then grant g.job g.leaf (h.node ∷ g.nodes) ∷ gs
    else grant h.job h.leaf (h.node ∷ []) ∷ g ∷ gs

-- a grant for each leaf in a row
abbrev pub gathered : List Held → List Grant
gathered [] = []
gathered (h ∷ hs) = give h (gathered hs)

-- the counts take nodes in their turn, and each leaf's grant is what its counts took
abbrev pub assigned_by : Space → List (List ℕ) → (ℕ → ℕ) → List Tally → List Grant
assigned_by s parts x cs = gathered (in_order held_before (all_held (pieces s parts x [] (turns s parts x cs))))

-- how many nodes a column counts at a point
abbrev pub count_at : List ℤ → ℕ → ℕ
count_at point j = unsigned_abs (number_at point j)

-- The counts above 0 are taken by start, job, leaf and partition. Each takes the first nodes of its partition that are free
-- at its start and that none before it holds there. The grants go by job and leaf, and a leaf's grant is what its counts
-- took, ascending.
abbrev pub assigned : Space → List ℤ → List Grant
assigned s point = assigned_by s (partitions s) (count_at point) (draft s).tallies

-- The walk of an expression: its columns, rows and form.
use Rattle.std.specs.Prelude.{ℕ, ◌+◌, ◌/◌, ◌==◌, min, if◌then◌else◌, List, [], ◌∷◌, ◌++◌, map, length}
use Rattle.tetri_strl.specs.declared.expr.Leaf.{Leaf}
use Rattle.tetri_strl.specs.Tree.{Operator, greatest, least, added, Tree, one, join, scale, barrier, Trees, none, more}
use Rattle.tetri_strl.specs.Worth.{worth_by}
use Rattle.tetri_compile.specs.Forms.{share, Form, times, run, Limit, limit}

-- a list of a one for each tree
abbrev pub ones : Trees → List ℕ
ones none = []
ones (more t ts) = 1 ∷ ones ts

-- the greatest worth, where each leaf is worth its value
abbrev pub best : Tree → ℕ
best = worth_by (λ l. l.v)

-- the form and the rows of a leaf under the indicator i, whose columns begin at n; `inside` gives the partitions in a set
module _ (inside : ℕ → List ℕ) where
  abbrev pub leaf_form : Leaf → ℕ → ℕ → Form
  leaf_form l i n = if l.linear then run (l.v / l.k) n (inside l.set) else (share i l.v ∷ [])

  abbrev pub leaf_rows : Leaf → ℕ → ℕ → List Limit
  leaf_rows l i n =
      limit (run 1 n (inside l.set)) (share i l.k ∷ [])
      ∷ (if l.linear then [] else (limit (share i l.k ∷ []) (run 1 n (inside l.set)) ∷ []))

-- `inside` gives the partitions in a set, and `usable` how many nodes of a partition a leaf may get
module _ (inside : ℕ → List ℕ) (usable : ℕ → Leaf → ℕ) where
  -- the upper bounds of the columns that a join has itself
  abbrev pub own_uppers : Operator → Trees → List ℕ
  own_uppers greatest ts = ones ts
  own_uppers least ts = best (join least ts) ∷ []
  own_uppers added ts = ones ts

  abbrev mutual
    -- the upper bounds of the columns of a walk, in order; each lower bound is 0
    pub uppers : Tree → List ℕ
    uppers (one l) = map (λ p. min l.k (usable p l)) (inside l.set)
    uppers (join op ts) = own_uppers op ts ++ uppers_of ts
    uppers (scale t s) = uppers t
    uppers (barrier t v) = uppers t

    pub uppers_of : Trees → List ℕ
    uppers_of none = []
    uppers_of (more t ts) = uppers t ++ uppers_of ts

  abbrev pub width : Tree → ℕ
  width t = length (uppers t)

  abbrev pub width_of : Trees → ℕ
  width_of ts = length (uppers_of ts)

  abbrev mutual
    -- the form of a walk under the indicator i, whose own columns begin at n
    pub form : Tree → ℕ → ℕ → Form
    form (one l) i n = leaf_form inside l i n
    form (join greatest ts) i n = forms ts n (n + length (ones ts))
    form (join least ts) i n = if best (join least ts) == 0 then [] else (share n 1 ∷ [])
    form (join added ts) i n = forms ts n (n + length (ones ts))
    form (scale t s) i n = times s (form t i n)
    form (barrier t v) i n = share i v ∷ []

    -- of trees whose indicators begin at j
    pub forms : Trees → ℕ → ℕ → Form
    forms none j n = []
    forms (more t ts) j n = form t j n ++ forms ts (j + 1) (n + width t)

  abbrev mutual
    -- the rows of a walk, in order
    pub rows : Tree → ℕ → ℕ → List Limit
    rows (one l) i n = leaf_rows inside l i n
    rows (join greatest ts) i n = limit (run 1 n (ones ts)) (share i 1 ∷ []) ∷ rows_of ts n (n + length (ones ts))
    rows (join least ts) i n = rows_under ts i n (n + 1)
    rows (join added ts) i n = limit (run 1 n (ones ts)) (share i (length (ones ts)) ∷ []) ∷ rows_of ts n (n + length (ones ts))
    rows (scale t s) i n = rows t i n
    rows (barrier t v) i n = rows t i n ++ (limit (share i v ∷ []) (form t i n) ∷ [])

    -- of trees whose indicators begin at j
    pub rows_of : Trees → ℕ → ℕ → List Limit
    rows_of none j n = []
    rows_of (more t ts) j n = rows t j n ++ rows_of ts (j + 1) (n + width t)

    -- of trees under one indicator i, each at least the column c
    pub rows_under : Trees → ℕ → ℕ → ℕ → List Limit
    rows_under none i c n = []
    rows_under (more t ts) i c n = rows t i n ++ (limit (share c 1 ∷ []) (form t i n) ∷ rows_under ts i c (n + width t))

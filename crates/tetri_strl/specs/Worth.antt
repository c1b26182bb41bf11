-- What an allotment is worth to an expression.
use Rattle.std.specs.Prelude.{ℕ, ◌+◌, ◌*◌, ◌/◌, min, max, ◌&&◌, ◌==◌, nat_lt, nat_le, if◌then◌else◌, List, [], ◌∷◌, length}
use Rattle.tetri_strl.specs.declared.expr.Leaf.{Leaf}
use Rattle.tetri_strl.specs.declared.grants.Grant.{Grant}
use Rattle.tetri_strl.specs.Tree.{Operator, greatest, least, added, Tree, one, join, scale, barrier, Trees, none, more}

-- how many nodes the grants give to the job's leaf of this number
abbrev pub granted : List Grant → ℕ → ℕ → ℕ
granted [] job leaf = 0
granted (g ∷ gs) job leaf =
    (if g.job == job && g.leaf == leaf then length g.nodes else 0) + granted gs job leaf

-- the worth of a leaf to which this many nodes are granted
abbrev pub worth_at : Leaf → ℕ → ℕ
worth_at l n = if l.linear then (l.v / l.k) * min l.k n else (if n == l.k then l.v else 0)

-- what the grants are worth to a leaf of the job
abbrev pub leaf_worth : List Grant → ℕ → Leaf → ℕ
leaf_worth a job l = worth_at l (granted a job l.num)

-- the value of a leaf that starts in the range, and 0 for any other
abbrev pub leaf_top : ℕ → ℕ → Leaf → ℕ
leaf_top from to l = if nat_le from l.start && nat_lt l.start to then l.v else 0

-- the greatest of a list, 0 where it is empty
abbrev pub greatest_of : List ℕ → ℕ
greatest_of [] = 0
greatest_of (x ∷ xs) = max x (greatest_of xs)

-- the least of a list and of one more number
abbrev pub least_from : ℕ → List ℕ → ℕ
least_from m [] = m
least_from m (x ∷ xs) = least_from (min m x) xs

-- the least of a list, 0 where it is empty
abbrev pub least_of : List ℕ → ℕ
least_of [] = 0
least_of (x ∷ xs) = least_from x xs

-- the sum of a list
abbrev pub added_of : List ℕ → ℕ
added_of [] = 0
added_of (x ∷ xs) = x + added_of xs

-- the worth of a join whose parts are worth these
abbrev pub joined : Operator → List ℕ → ℕ
joined greatest xs = greatest_of xs
joined least xs = least_of xs
joined added xs = added_of xs

module _ (value : Leaf → ℕ) where
  abbrev mutual
    -- the worth of a tree where each leaf is worth its value
    pub worth_by : Tree → ℕ
    worth_by (one l) = value l
    worth_by (join op ts) = joined op (worths_by ts)
    worth_by (scale t s) = s * worth_by t
    worth_by (barrier t v) = if nat_le v (worth_by t) then v else 0

    pub worths_by : Trees → List ℕ
    worths_by none = []
    worths_by (more t ts) = worth_by t ∷ worths_by ts

-- what the grants are worth to the job with this expression
abbrev pub worth_of : List Grant → ℕ → Tree → ℕ
worth_of a job = worth_by (leaf_worth a job)

-- the greatest worth by structure where only leaves count that start in the range
abbrev pub top_of : ℕ → ℕ → Tree → ℕ
top_of from to = worth_by (leaf_top from to)

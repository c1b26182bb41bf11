-- An expression as plain data: no pointers, no capacities.
use Rattle.std.specs.Prelude.{ℕ, List, [], ◌∷◌, ◌++◌, map}
use Rattle.tetri_strl.specs.declared.expr.Leaf.{Leaf}
use Rattle.tetri_strl.specs.declared.expr.Expr.{Expr}
use Rattle.tetri_strl.specs.declared.expr.Expr.TheOpen.{Expr-F}
use Rattle.tetri_strl.specs.declared.expr.Expr.TheFolds.{fold-Expr}

-- `max`, `min` and `sum`
pub data Operator : Type 0 where
  greatest : Operator
  least : Operator
  added : Operator

mutual
  -- a leaf, a join of parts, a part times a factor, or a part with the worth that it has to reach
  pub data Tree : Type 0 where
    one : Leaf → Tree
    join : Operator → Trees → Tree
    scale : Tree → ℕ → Tree
    barrier : Tree → ℕ → Tree

  -- the parts of a join, in order
  pub data Trees : Type 0 where
    none : Trees
    more : Tree → Trees → Trees

-- trees in a row
abbrev pub row : List Tree → Trees
row [] = none
row (t ∷ ts) = more t (row ts)

-- an expression whose parts are trees already
abbrev pub node_tree : Expr-F Tree → Tree
node_tree (Expr-F.One l) = one l
node_tree (Expr-F.Max es) = join greatest (row es.items)
node_tree (Expr-F.Min es) = join least (row es.items)
node_tree (Expr-F.Sum es) = join added (row es.items)
node_tree (Expr-F.Scale e s) = scale e.value s
node_tree (Expr-F.Barrier e v) = barrier e.value v

-- what an expression says
abbrev pub tree : Expr → Tree
tree = fold-Expr Tree node_tree

-- what a row of expressions says
abbrev pub trees : List Expr → Trees
trees es = row (map tree es)

abbrev mutual
  -- the leaves, in the order of the text
  pub leaves : Tree → List Leaf
  leaves (one l) = l ∷ []
  leaves (join op ts) = leaves_of ts
  leaves (scale t s) = leaves t
  leaves (barrier t v) = leaves t

  pub leaves_of : Trees → List Leaf
  leaves_of none = []
  leaves_of (more t ts) = leaves t ++ leaves_of ts

abbrev mutual
  -- the numbers of the leaves, in the order of the text
  pub numbers : Tree → List ℕ
  numbers (one l) = l.num ∷ []
  numbers (join op ts) = numbers_of ts
  numbers (scale t s) = numbers t
  numbers (barrier t v) = numbers t

  pub numbers_of : Trees → List ℕ
  numbers_of none = []
  numbers_of (more t ts) = numbers t ++ numbers_of ts

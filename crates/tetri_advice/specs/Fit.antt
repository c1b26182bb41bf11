-- The fit of an expression: greedily, the lowest nodes that are free beside what is held already.
use Rattle.std.specs.Prelude.{ℕ, ◌+◌, ◌==◌, ◌&&◌, List, [], ◌∷◌, ◌++◌, map, filter, take, length, Bool, true, not, nat_lt, nat_le, if◌then◌else◌}
use Rattle.std.specs.List.{list_any}
use Rattle.tetri_strl.specs.declared.expr.Leaf.{Leaf}
use Rattle.tetri_strl.specs.declared.grants.Grant.{Grant}
use Rattle.tetri_strl.specs.Tree.{greatest, least, added, Tree, one, join, scale, barrier, Trees, none, more}
use Rattle.tetri_strl.specs.Worth.{worth_of}
use Rattle.tetri_space.specs.Free.{is_free_throughout}
pub use Rattle.tetri_space.specs.Slots.{overlap}
pub use Rattle.tetri_space.specs.Space.{is_live}
use Rattle.tetri_space.specs.Space.{Space, set_of}

-- a leaf with the nodes that it is to get
pub record Placement : Type 0 where
  pub leaf : Leaf
  pub nodes : List ℕ

abbrev pub grant_of : ℕ → Placement → Grant
grant_of job p = record { job = job; leaf = p.leaf.num; nodes = p.nodes }

abbrev pub grants_of : ℕ → List Placement → List Grant
grants_of job ps = map (grant_of job) ps

-- the placement holds the node in some slot of the leaf
abbrev pub is_held_by : Leaf → ℕ → Placement → Bool
is_held_by l n p = list_any (λ m. m == n) p.nodes && overlap l p.leaf

-- some placement holds the node in some slot of the leaf
abbrev pub is_held : List Placement → Leaf → ℕ → Bool
is_held held l n = list_any (is_held_by l n) held

-- an exact leaf needs `k` nodes, a linear one any
abbrev pub enough : Leaf → ℕ → Bool
enough l n = if l.linear then nat_le 1 n else n == l.k

-- what a fit is worth to the job
abbrev pub fit_worth : ℕ → Tree → List Placement → ℕ
fit_worth job t ps = worth_of (grants_of job ps) job t

-- the better of two fits, the first where they are worth the same
abbrev pub better : ℕ × List Placement → ℕ × List Placement → ℕ × List Placement
better best next = if nat_lt best.0 next.0 then next else best

-- `taken` tells which nodes earlier jobs hold in some slot of a leaf; `held` are the job's own placements so far
module _ (s : Space) (taken : Leaf → ℕ → Bool) where
  -- the node is free, and not held, in every slot of the leaf
  abbrev pub is_available : List Placement → Leaf → ℕ → Bool
  is_available held l n = is_free_throughout s l n && not (taken l n) && not (is_held held l n)

  -- the lowest nodes of the leaf's set that are available, at most `k`
  abbrev pub lowest : List Placement → Leaf → List ℕ
  lowest held l = take l.k (filter (is_available held l) (set_of s l))

  abbrev pub fit_of_leaf : List Placement → Leaf → List Placement
  fit_of_leaf held l =
      if is_live s l && enough l (length (lowest held l)) then record { leaf = l; nodes = lowest held l } ∷ [] else []

module _ (s : Space) (job : ℕ) (taken : Leaf → ℕ → Bool) where
  abbrev mutual
    -- the fit of an expression beside what is taken and held
    pub fit_beside : List Placement → Tree → List Placement
    fit_beside held (one l) = fit_of_leaf s taken held l
    fit_beside held (join greatest ts) = (best_fit held ts (0, [])).1
    fit_beside held (join least ts) = if all_fit held ts then fits held ts else []
    fit_beside held (join added ts) = fits held ts
    fit_beside held (scale t by) = fit_beside held t
    fit_beside held (barrier t v) = if nat_le v (fit_worth job t (fit_beside held t)) then fit_beside held t else []

    -- the first fit that is worth most, and more than the best so far
    pub best_fit : List Placement → Trees → ℕ × List Placement → ℕ × List Placement
    best_fit held none best = best
    best_fit held (more t ts) best = best_fit held ts (better best (fit_worth job t (fit_beside held t), fit_beside held t))

    -- the fits in order, each beside the earlier ones
    pub fits : List Placement → Trees → List Placement
    fits held none = []
    fits held (more t ts) = fit_beside held t ++ fits (held ++ fit_beside held t) ts

    -- each of them is worth something
    pub all_fit : List Placement → Trees → Bool
    all_fit held none = true
    all_fit held (more t ts) = nat_le 1 (fit_worth job t (fit_beside held t)) && all_fit (held ++ fit_beside held t) ts

-- the fit of an expression beside what earlier jobs hold
abbrev pub fit : Space → ℕ → List Placement → Tree → List Placement
fit s job held t = fit_beside s job (is_held held) [] t

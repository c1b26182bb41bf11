-- Which grants of a job earn nothing.
use Rattle.std.specs.Prelude.{◌≡◌, ℕ, Bool, ◌&&◌, ◌==◌, not, if◌then◌else◌, List, [], ◌∷◌, ◌++◌, filter, Option}
use Rattle.std.specs.List.{list_any, position_from}
use Rattle.tetri_strl.specs.declared.expr.Leaf.{Leaf}
use Rattle.tetri_strl.specs.declared.grants.Grant.{Grant}
use Rattle.tetri_strl.specs.Tree.{greatest, least, added, Tree, one, join, scale, barrier, Trees, none, more, numbers, numbers_of}
use Rattle.tetri_strl.specs.Worth.{greatest_of, least_of, added_of, leaf_worth, worth_by, worths_by}

module _ (value : Leaf → ℕ) where
  abbrev mutual
    -- the numbers of the leaves below a part that is worth 0, and of those below each part of a
    -- `max` but its first part of greatest worth
    pub idle : Tree → List ℕ
    idle (one l) = if value l == 0 then l.num ∷ [] else []
    idle (join greatest ts) = if greatest_of (worths_by value ts) == 0 then numbers_of ts
        else idle_but_first (greatest_of (worths_by value ts)) ts
    idle (join least ts) = if least_of (worths_by value ts) == 0 then numbers_of ts
        else idle_each ts
    idle (join added ts) = if added_of (worths_by value ts) == 0 then numbers_of ts
        else idle_each ts
    idle (scale t s) = if worth_by value (scale t s) == 0 then numbers t else idle t
    idle (barrier t v) = if worth_by value (barrier t v) == 0 then numbers t else idle t

    -- in each of the parts
    pub idle_each : Trees → List ℕ
    idle_each none = []
    idle_each (more t ts) = idle t ++ idle_each ts

    -- in the first part that is worth this much, and all leaves of the others
    pub idle_but_first : ℕ → Trees → List ℕ
    idle_but_first best none = []
    idle_but_first best (more t ts) =
        if worth_by value t == best then idle t ++ numbers_of ts
        else numbers t ++ idle_but_first best ts

-- the grant is the job's, and its leaf is none of these
abbrev pub earns : ℕ → List ℕ → Grant → Bool
earns job ns g = g.job == job && not (list_any (λ n. n == g.leaf) ns)

-- the grant is the job's, and its leaf is one of these
abbrev pub wastes : ℕ → List ℕ → Grant → Bool
wastes job ns g = g.job == job && list_any (λ n. n == g.leaf) ns

-- the job's grants without those of idle leaves
abbrev pub trimmed : List Grant → ℕ → Tree → List Grant
trimmed a job t = filter (earns job (idle (leaf_worth a job) t)) a

-- some of the grants, in their order
abbrev pub IsPartOf : List Grant → List Grant → Type 0
IsPartOf some all = (keeps : Grant → Bool) × (some ≡ filter keeps all)

-- the place of the first grant of an idle leaf of the job
abbrev pub first_waste : List Grant → ℕ → Tree → Option ℕ
first_waste a job t = position_from (wastes job (idle (leaf_worth a job) t)) 0 a

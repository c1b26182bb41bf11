-- The Lagrangian value of an expression: what it gains above the prices of its nodes at most.
use Rattle.std.specs.Prelude.{ℕ, ◌*◌, ◌-◌, ◌/◌, min, nat_lt, nat_le, if◌then◌else◌, List, [], ◌∷◌}
use Rattle.tetri_base.specs.Lists.{sum_of}
use Rattle.tetri_strl.specs.declared.expr.Leaf.{Leaf}
use Rattle.tetri_strl.specs.Tree.{Operator, greatest, least, added, Tree, one, join, scale, barrier, Trees, none, more}
use Rattle.tetri_strl.specs.Worth.{added_of, greatest_of, least_of}
use Rattle.tetri_compile.specs.Walk.{best}
use Rattle.tetri_prices.specs.Filling.{by_cost, fill, pick}

-- a leaf over these places: what it gains where its worth counts m times, and its least cost
module _ {X : Type 0} (cost capacity : X → ℕ) where
  -- each node brings its share of the worth
  abbrev pub linear_gain : List X → Leaf → ℕ → ℕ
  linear_gain ps l m = pick cost capacity (m * (l.v / l.k)) l.k (by_cost cost capacity ps)

  -- all nodes together bring the worth, and none where there are too few
  abbrev pub whole_gain : List X → Leaf → ℕ → ℕ
  whole_gain ps l m =
      if nat_lt (sum_of capacity ps) l.k then 0
      else m * l.v - fill cost capacity l.k (by_cost cost capacity ps)

  abbrev pub leaf_gain : List X → Leaf → ℕ → ℕ
  leaf_gain ps l m = if l.linear then linear_gain ps l m else whole_gain ps l m

  -- of one node where the leaf is linear, and else of all
  abbrev pub leaf_cost : List X → Leaf → ℕ
  leaf_cost ps l = fill cost capacity (if l.linear then 1 else l.k) (by_cost cost capacity ps)

-- the gains, each less the least costs of all others, where those of all together are `all`
abbrev pub nets : ℕ → List ℕ → List ℕ → List ℕ
nets all [] cs = []
nets all (g ∷ gs) [] = []
nets all (g ∷ gs) (c ∷ cs) = (g - (all - c)) ∷ nets all gs cs

-- the gain of a join whose parts have these gains and least costs
abbrev pub joined_gain : Operator → List ℕ → List ℕ → ℕ
joined_gain greatest gs cs = greatest_of gs
joined_gain least gs cs = least_of (nets (added_of cs) gs cs)
joined_gain added gs cs = added_of gs

-- the least cost of a join whose parts have these: a `min` needs them all
abbrev pub joined_cost : Operator → List ℕ → ℕ
joined_cost greatest cs = least_of cs
joined_cost least cs = added_of cs
joined_cost added cs = least_of cs

-- `costs` says what a leaf costs at least where it is worth more than 0
module _ (costs : Leaf → ℕ) where
  abbrev mutual
    -- what an expression costs at least where it is worth more than 0
    pub least_cost : Tree → ℕ
    least_cost (one l) = costs l
    least_cost (join op ts) = joined_cost op (least_costs ts)
    least_cost (scale t s) = least_cost t
    least_cost (barrier t v) = least_cost t

    pub least_costs : Trees → List ℕ
    least_costs none = []
    least_costs (more t ts) = least_cost t ∷ least_costs ts

  -- `gains` says what a leaf gains
  module _ (gains : Leaf → ℕ → ℕ) where
    abbrev mutual
      -- what an expression gains whose worth counts m times
      pub gain : Tree → ℕ → ℕ
      gain (one l) m = gains l m
      gain (join op ts) m = joined_gain op (gains_of ts m) (least_costs ts)
      gain (scale t s) m = gain t (m * s)
      gain (barrier t v) m =
          if nat_le v (best t) then min (m * v - least_cost t) (gain t m) else 0

      pub gains_of : Trees → ℕ → List ℕ
      gains_of none m = []
      gains_of (more t ts) m = gain t m ∷ gains_of ts m

-- What was found of expressions.
use Rattle.std.specs.Prelude.{◌≡◌, ℕ, List, map}
use Rattle.tetri_strl.specs.Tree.{Operator, Tree, Trees}
use Rattle.tetri_strl.specs.Worth.{joined, worths_by}
use Rattle.tetri_space.specs.Partitions.{partitions}
use Rattle.tetri_space.specs.Space.{Space}
use Rattle.tetri_compile.specs.Walk.{best}
use Rattle.tetri_prices.specs.declared.values.Value.{Value}
use Rattle.tetri_prices.specs.Gain.{gain, gains_of, joined_cost, joined_gain, least_cost, least_costs}
use Rattle.tetri_prices.specs.Priced.{cost_for, gain_for, listed}

abbrev pub tops : List Value → List ℕ
tops vs = map (λ v. v.top) vs

abbrev pub gains : List Value → List ℕ
gains vs = map (λ v. v.gain) vs

abbrev pub costs : List Value → List ℕ
costs vs = map (λ v. v.cost) vs

-- the value of a join whose parts have these values
pub record IsJoined (op : Operator) (vs : List Value) (v : Value) : Type 0 where
  pub top : v.top ≡ joined op (tops vs)
  pub gain : v.gain ≡ joined_gain op (gains vs) (costs vs)
  pub cost : v.cost ≡ joined_cost op (costs vs)

module _ (s : Space) (rows : List (List ℕ)) where
  -- of a tree whose worth counts m times
  pub record IsValue (t : Tree) (m : ℕ) (v : Value) : Type 0 where
    pub top : v.top ≡ best t
    pub gain : v.gain ≡ gain (cost_for s (partitions s) (listed s.now rows)) (gain_for s (partitions s) (listed s.now rows)) t m
    pub cost : v.cost ≡ least_cost (cost_for s (partitions s) (listed s.now rows)) t

  -- of trees whose worths count m times
  pub record AreValues (ts : Trees) (m : ℕ) (vs : List Value) : Type 0 where
    pub tops : tops vs ≡ worths_by (λ l. l.v) ts
    pub gains : gains vs ≡ gains_of (cost_for s (partitions s) (listed s.now rows)) (gain_for s (partitions s) (listed s.now rows)) ts m
    pub costs : costs vs ≡ least_costs (cost_for s (partitions s) (listed s.now rows)) ts

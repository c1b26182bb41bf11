-- The values of expressions, from those of their parts, and what bounds them.
use Rattle.std.proofs.Common.{max, length, ◌≡◌, ℕ, zero, suc, ◌+◌, ◌*◌, ◌-◌, ◌<◌, ◌≤◌, ◌^◌, min, cond, nat_le, List, [], ◌∷◌, ◌++◌, map, sym, ap, ◌∙◌, arith, le_trans, mul-le-mul_left, mul-zero, zero-mul, mul_assoc, ◌⊎◌, inl, inr}
use Rattle.std.proofs.lemmas.Bool.{cases_lt}
use Rattle.std.proofs.lemmas.List.{append_assoc, length-map, map-append}
use Rattle.tetri_strl.specs.declared.expr.Leaf.{Leaf}
use Rattle.tetri_strl.specs.Tree.{added, barrier, greatest, join, least, more, none, Operator, scale, Tree, Trees}
use Rattle.tetri_strl.specs.WellMade.{HasChild, IsSound, PEAK, peak, peaks}
use Rattle.tetri_strl.specs.Worth.{added_of, greatest_of, joined}
use Rattle.tetri_strl.proofs.ExprLaws.{worth_le_peak}
use Rattle.tetri_space.specs.Partitions.{partitions, parts_in}
use Rattle.tetri_space.specs.Space.{Space}
use Rattle.tetri_compile.specs.Walk.{best}
use Rattle.tetri_prices.specs.declared.values.Value.{Value}
use Rattle.tetri_prices.specs.Gain.{gain, gains_of, joined_cost, joined_gain, least_cost}
use Rattle.tetri_prices.specs.Priced.{capacity, cost_for, gain_for, listed, node_cost}
use Rattle.tetri_prices.specs.steps.Values.{AreValues, costs, gains, IsJoined, IsValue, tops}
use Rattle.tetri_prices.proofs.JoinLemmas.{greatest_le_added}
use Rattle.tetri_prices.proofs.NetLemmas.{least_le_added}
use Rattle.tetri_prices.proofs.TopLemmas.{gain_le, leaf_gain_le}

-- ---- a list that grows by one value
pub grown : (f : Value → ℕ) (old new : List Value) (v : Value) (x : ℕ) (rest later all : List ℕ) → new ≡ old ++ v ∷ [] → f v ≡ x → rest ≡ x ∷ later →
    map f old ++ rest ≡ all → map f new ++ later ≡ all
grown f old new v x rest later all pushed is cut so_far =
    ap (λ (vs : List Value). map f vs ++ later) pushed
    ∙ ap (λ (xs : List ℕ). xs ++ later) (map-append f old (v ∷ []))
    ∙ append_assoc (map f old) (f v ∷ []) later
    ∙ ap (λ (n : ℕ). map f old ++ (n ∷ later)) is
    ∙ sym (ap (λ (xs : List ℕ). map f old ++ xs) cut)
    ∙ so_far

pub added-append : (xs ys : List ℕ) → added_of (xs ++ ys) ≡ added_of xs + added_of ys
added-append [] ys = omega arith
added-append (x ∷ xs) ys = omega (arith, added-append xs ys)

pub grown_costs : (old new : List Value) (v : Value) → new ≡ old ++ v ∷ [] → added_of (costs new) ≡ added_of (costs old) + v.cost
grown_costs old new v pushed =
    ap (λ (vs : List Value). added_of (costs vs)) pushed ∙ ap added_of (map-append (λ (w : Value). w.cost) old (v ∷ [])) ∙ added-append (costs old) (v.cost ∷ []) ∙ omega arith

-- ---- gains
module _ (s : Space) (price : ℕ → ℕ → ℕ) where
  abbrev own_costs : Leaf → ℕ
  own_costs = cost_for s (partitions s) price

  abbrev own_gains : Leaf → ℕ → ℕ
  own_gains = gain_for s (partitions s) price

  pub gain_below : (t : Tree) → IsSound t → (m : ℕ) → gain own_costs own_gains t m ≤ m * peak t
  gain_below t sound m =
      le_trans (gain_le own_costs own_gains (λ l k. leaf_gain_le (node_cost s (partitions s) price l) (capacity s (partitions s) price l) (parts_in s (partitions s) l.set) l k) t m)
      (mul-le-mul_left m (worth_le_peak (λ (l : Leaf). l.v) (λ l good. omega arith) t sound))

  -- where the factor passes every word, the part is worth nothing
  gain_past : (t : Tree) → IsSound t → (m limit : ℕ) → m * peak t ≤ limit → limit < m → gain own_costs own_gains t m ≡ 0
  gain_past t sound m limit few past = by_peak (peak t) (gain_below t sound m) few
    where
      by_peak : (n : ℕ) → gain own_costs own_gains t m ≤ m * n → m * n ≤ limit → gain own_costs own_gains t m ≡ 0
      by_peak zero below le = omega (arith, below, mul-zero m)
      by_peak (suc n) below le =
          let one : 1 ≤ suc n = omega arith in
          let least_one : m * 1 ≤ m * suc n = mul-le-mul_left m one in
          absurd (omega (arith, least_one, le, past))

  -- the factor of a scaled part
  pub factor_gain : (t : Tree) → IsSound t → (times by r : ℕ) → (times * by < 2 ^ 128 → r ≡ times * by) → (2 ^ 128 ≤ times * by → r ≡ 0) → times * (by * peak t) ≤ 2 ^ 80 →
      gain own_costs own_gains t r ≡ gain own_costs own_gains t (times * by)
  factor_gain t sound times by r whole past few = by_size (cases_lt (times * by) (2 ^ 128))
    where
      by_size : (times * by < 2 ^ 128) ⊎ (2 ^ 128 ≤ times * by) → gain own_costs own_gains t r ≡ gain own_costs own_gains t (times * by)
      by_size (inl lt) = ap (gain own_costs own_gains t) (whole lt)
      by_size (inr ge) =
          let e = past ge in
          let none : gain own_costs own_gains t (times * by) ≡ 0 = gain_past t sound (times * by) (2 ^ 80) (omega (arith, mul_assoc times by (peak t), few)) (omega (arith, ge)) in
          let zero_times : gain own_costs own_gains t r ≡ 0 = omega (arith, gain_below t sound r, ap (λ n. n * peak t) e, zero-mul (peak t)) in
          zero_times ∙ sym none

pub factor_few : (times from by product peak limit : ℕ) → product ≡ times * from → from ≡ by → times * (by * peak) ≤ limit → product * peak ≤ limit
factor_few times from by product peak limit is same few =
    omega (arith, ap (λ n. n * peak) (is ∙ ap (λ n. times * n) same), mul_assoc times by peak, few)

-- ---- values
module _ (s : Space) (rows : List (List ℕ)) where
  pub joined_value : (op : Operator) (ts : Trees) (m : ℕ) (vs : List Value) (v : Value) → AreValues s rows ts m vs → IsJoined op vs v → IsValue s rows (join op ts) m v
  joined_value op ts m vs v are is =
      let price = listed s.now rows in
      record {
        top = is.top ∙ ap (joined op) are.tops;
        gain = is.gain ∙ ap (λ (gs : List ℕ). joined_gain op gs (costs vs)) are.gains
            ∙ ap (joined_gain op (gains_of (cost_for s (partitions s) price) (gain_for s (partitions s) price) ts m)) are.costs;
        cost = is.cost ∙ ap (joined_cost op) are.costs;
      }

  pub scaled_value : (t : Tree) (m by r : ℕ) (v w : Value) → IsValue s rows t r v →
      gain (cost_for s (partitions s) (listed s.now rows)) (gain_for s (partitions s) (listed s.now rows)) t r
      ≡ gain (cost_for s (partitions s) (listed s.now rows)) (gain_for s (partitions s) (listed s.now rows)) t (m * by) →
      w.top ≡ by * v.top → w.gain ≡ v.gain → w.cost ≡ v.cost → IsValue s rows (scale t by) m w
  scaled_value t m by r v w is same top gained cost = record {
    top = top ∙ ap (λ n. by * n) is.top;
    gain = gained ∙ is.gain ∙ same;
    cost = cost ∙ is.cost;
  }

  pub barred_value : (t : Tree) (m low : ℕ) (v w : Value) → IsValue s rows t m v → w.top ≡ cond (nat_le low v.top) low 0 →
      w.gain ≡ cond (nat_le low v.top) (min (m * low - v.cost) v.gain) 0 → w.cost ≡ v.cost → IsValue s rows (barrier t low) m w
  barred_value t m low v w is top gained cost =
      let price = listed s.now rows in
      let k = least_cost (cost_for s (partitions s) price) t in
      record {
        top = top ∙ ap (λ n. cond (nat_le low n) low 0) is.top;
        gain = gained ∙ ap (λ n. cond (nat_le low n) (min (m * low - v.cost) v.gain) 0) is.top
            ∙ ap (λ n. cond (nat_le low (best t)) (min (m * low - n) v.gain) 0) is.cost
            ∙ ap (λ n. cond (nat_le low (best t)) (min (m * low - k) n) 0) is.gain;
        cost = cost ∙ is.cost;
      }

-- ---- what joins ask of the values that they join
pub joined_small : (op : Operator) (vs : List Value) (v : Value) (limit : ℕ) → IsJoined op vs v → added_of (costs vs) ≤ limit → v.cost ≤ limit
joined_small greatest vs v limit is few = omega (arith, is.cost, least_le_added (costs vs), few)
joined_small least vs v limit is few = omega (arith, is.cost, few)
joined_small added vs v limit is few = omega (arith, is.cost, least_le_added (costs vs), few)

pub few_rest : (m p g limit : ℕ) → m * max p g ≤ limit → (m * p ≤ limit) × (m * g ≤ limit)
few_rest m p g limit few =
    let left : p ≤ max p g = omega arith in
    let right : g ≤ max p g = omega arith in
    (omega (arith, few, mul-le-mul_left m left), omega (arith, few, mul-le-mul_left m right))

module _ (s : Space) (rows : List (List ℕ)) where
  pub some_values : (ts : Trees) (m : ℕ) (vs : List Value) → AreValues s rows ts m vs → HasChild ts → 1 ≤ length vs
  some_values none m vs are some = absurd some
  some_values (more t ts) m vs are some = omega (arith, ap (λ (ns : List ℕ). length ns) are.tops, length-map vs (λ (v : Value). v.top))

  top_small : (t : Tree) → IsSound t → best t ≤ peak t
  top_small t sound = worth_le_peak (λ (l : Leaf). l.v) (λ l good. omega arith) t sound

  -- under a `max` and a `min`, which have one peak
  pub greatest_fits : (ts : Trees) (m : ℕ) (vs : List Value) → AreValues s rows ts m vs → IsSound (join greatest ts) → m * peak (join greatest ts) ≤ 2 ^ 80 →
      (greatest_of (tops vs) < 2 ^ 64) × (greatest_of (gains vs) ≤ 2 ^ 80)
  greatest_fits ts m vs are sound few =
      let price = listed s.now rows in (
        omega (arith, ap greatest_of are.tops, top_small (join greatest ts) sound, sound.2),
        omega (arith, ap greatest_of are.gains, gain_below s price (join greatest ts) sound m, few),
      )

  pub added_fits : (ts : Trees) (m : ℕ) (vs : List Value) → AreValues s rows ts m vs → IsSound (join added ts) → m * peak (join added ts) ≤ 2 ^ 80 →
      (added_of (tops vs) < 2 ^ 64) × (added_of (gains vs) ≤ 2 ^ 80)
  added_fits ts m vs are sound few =
      let price = listed s.now rows in (
        omega (arith, ap added_of are.tops, top_small (join added ts) sound, sound.2),
        omega (arith, ap added_of are.gains, gain_below s price (join added ts) sound m, few),
      )

  pub scaled_fits : (t : Tree) (by : ℕ) → IsSound (scale t by) → (top : ℕ) → top ≡ best t → by * top ≤ PEAK
  scaled_fits t by sound top is = omega (arith, ap (λ n. by * n) is, mul-le-mul_left by (top_small t sound.0), sound.2)

-- the parts of a sum have peaks below the sum of all
pub sum_few : (m : ℕ) (ts : Trees) (limit : ℕ) → m * added_of (peaks ts) ≤ limit → m * greatest_of (peaks ts) ≤ limit
sum_few m ts limit few = omega (arith, few, mul-le-mul_left m (greatest_le_added (peaks ts)))

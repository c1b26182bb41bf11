-- Steps of the loops that join values.
use Rattle.std.proofs.Common.{◌≡◌, ℕ, zero, suc, ◌+◌, ◌-◌, ◌<◌, ◌≤◌, max, List, [], ◌∷◌, length, get_or, drop, map, sym, ap, ◌∙◌, arith}
use Rattle.std.proofs.lemmas.List.{drop_all, length-map}
use Rattle.tetri_strl.specs.Tree.{added, greatest, least}
use Rattle.tetri_strl.specs.Worth.{added_of, greatest_of, least_from, least_of}
use Rattle.tetri_prices.specs.declared.values.Value.{Value}
use Rattle.tetri_prices.specs.steps.Values.{costs, gains, IsJoined, tops}
use Rattle.tetri_prices.proofs.NetLemmas.{gross, net_gross}

pub greatest_le_added : (xs : List ℕ) → greatest_of xs ≤ added_of xs
greatest_le_added [] = omega arith
greatest_le_added (x ∷ xs) = omega (arith, greatest_le_added xs)

pub gross_le : (gs cs : List ℕ) → greatest_of (gross gs cs) ≤ greatest_of gs + added_of cs
gross_le [] cs = omega arith
gross_le (g ∷ gs) [] = omega arith
gross_le (g ∷ gs) (c ∷ cs) = omega (arith, gross_le gs cs)

pub greatest_has : (f : Value → ℕ) (vs : List Value) (i : ℕ) (d : Value) → i < length vs → f (get_or vs i d) ≤ greatest_of (map f vs)
greatest_has f [] i d lt = absurd (omega (arith, lt))
greatest_has f (v ∷ vs) zero d lt = omega arith
greatest_has f (v ∷ vs) (suc i) d lt = omega (arith, greatest_has f vs i d (omega (arith, lt)))

pub added_has : (f : Value → ℕ) (vs : List Value) (i : ℕ) (d : Value) → i < length vs → f (get_or vs i d) ≤ added_of (map f vs)
added_has f vs i d lt = omega (arith, greatest_has f vs i d lt, greatest_le_added (map f vs))

-- a number above all changes no least
pub least_start : (limit : ℕ) (xs : List ℕ) → 1 ≤ length xs → greatest_of xs ≤ limit → least_from limit xs ≡ least_of xs
least_start limit [] some le = absurd (omega (arith, some))
least_start limit (x ∷ xs) some le = ap (λ n. least_from n xs) (omega (arith, le))

gross_some : (vs : List Value) → 1 ≤ length vs → 1 ≤ length (gross (gains vs) (costs vs))
gross_some [] some = absurd (omega (arith, some))
gross_some (v ∷ vs) some = omega arith

module _ (vs : List Value) (i : ℕ) (over : length vs ≤ i) (some : 1 ≤ length vs) (v : Value) where
  abbrev MOST : ℕ
  MOST = 340282366920938463463374607431768211455

  abbrev rest : List Value
  rest = drop i vs

  ended : rest ≡ []
  ended = drop_all i vs over

  cost_is : added_of (costs vs) ≤ MOST → least_from v.cost (costs rest) ≡ least_from MOST (costs vs) → v.cost ≡ least_of (costs vs)
  cost_is small so_far =
      sym (ap (λ (ws : List Value). least_from v.cost (costs ws)) ended) ∙ so_far
      ∙ least_start MOST (costs vs) (omega (arith, some, length-map vs (λ (w : Value). w.cost))) (omega (arith, small, greatest_le_added (costs vs)))

  pub greatest_is : added_of (costs vs) ≤ MOST → max v.top (greatest_of (tops rest)) ≡ greatest_of (tops vs) → max v.gain (greatest_of (gains rest)) ≡ greatest_of (gains vs) →
      least_from v.cost (costs rest) ≡ least_from MOST (costs vs) → IsJoined greatest vs v
  greatest_is small top gain cost = record {
    top = omega (arith, top, ap (λ (ws : List Value). greatest_of (tops ws)) ended);
    gain = omega (arith, gain, ap (λ (ws : List Value). greatest_of (gains ws)) ended);
    cost = cost_is small cost;
  }

  pub added_is : added_of (costs vs) ≤ MOST → v.top + added_of (tops rest) ≡ added_of (tops vs) → v.gain + added_of (gains rest) ≡ added_of (gains vs) →
      least_from v.cost (costs rest) ≡ least_from MOST (costs vs) → IsJoined added vs v
  added_is small top gain cost = record {
    top = omega (arith, top, ap (λ (ws : List Value). added_of (tops ws)) ended);
    gain = omega (arith, gain, ap (λ (ws : List Value). added_of (gains ws)) ended);
    cost = cost_is small cost;
  }

  pub least_is : (low limit : ℕ) → greatest_of (tops vs) ≤ limit → greatest_of (gains vs) + added_of (costs vs) ≤ MOST →
      least_from v.top (tops rest) ≡ least_from limit (tops vs) → least_from low (gross (gains rest) (costs rest)) ≡ least_from MOST (gross (gains vs) (costs vs)) →
      v.cost + added_of (costs rest) ≡ added_of (costs vs) → v.gain ≡ low - v.cost → IsJoined least vs v
  least_is low limit high small top so_far cost net =
      let all : v.cost ≡ added_of (costs vs) = omega (arith, cost, ap (λ (ws : List Value). added_of (costs ws)) ended) in
      let least : low ≡ least_of (gross (gains vs) (costs vs)) =
      sym (ap (λ (ws : List Value). least_from low (gross (gains ws) (costs ws))) ended) ∙ so_far
      ∙ least_start MOST (gross (gains vs) (costs vs)) (gross_some vs some) (omega (arith, small, gross_le (gains vs) (costs vs))) in
      record {
        top = sym (ap (λ (ws : List Value). least_from v.top (tops ws)) ended) ∙ top ∙ least_start limit (tops vs) (omega (arith, some, length-map vs (λ (w : Value). w.top))) high;
        gain = omega (arith, net, all, least, net_gross (gains vs) (costs vs));
        cost = all;
      }

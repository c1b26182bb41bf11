-- Filling from the cheapest costs least, and picking from the cheapest gains most.
use Rattle.std.proofs.Common.{◌≡◌, ℕ, ◌+◌, ◌*◌, ◌-◌, ◌<◌, ◌≤◌, min, Bool, false, List, [], ◌∷◌, refl, ap, arith, ◌⊎◌, inl, inr, mul-le-mul_left, mul-le-mul_right, add-mul, mul-add, zero-mul, nat_lt}
use Rattle.std.proofs.lemmas.Bool.{cases_lt}
use Rattle.std.proofs.lemmas.Bool.Decides.{nat_tests}
use Rattle.tetri_base.specs.Lists.{sum_of, Each, EachPair}
use Rattle.tetri_base.proofs.ListLaws.{Each-all, Each-map, EachPair-with}
use Rattle.tetri_base.proofs.OrderLaws.{NotAfter, order_by, in_order-rises, sum_of-in_order, Each-in_order}
use Rattle.tetri_prices.specs.Filling.{by_cost, fill, pick}

-- so many items, each at least c or at most c
module _ (x f : ℕ → ℕ) (c : ℕ) where
  many_above : (ps : List ℕ) → Each (λ p. c ≤ f p) ps → sum_of x ps * c ≤ sum_of (λ p. x p * f p) ps
  many_above [] h = omega (arith, zero-mul c)
  many_above (p ∷ ps) h =
      let here : x p * c ≤ x p * f p = mul-le-mul_left (x p) h.0 in
      omega (arith, add-mul (x p) (sum_of x ps) c, here, many_above ps h.1)

  many_below : (ps : List ℕ) → Each (λ p. f p ≤ c) ps → sum_of (λ p. x p * f p) ps ≤ sum_of x ps * c
  many_below [] h = omega arith
  many_below (p ∷ ps) h =
      let here : x p * f p ≤ x p * c = mul-le-mul_left (x p) h.0 in
      omega (arith, add-mul (x p) (sum_of x ps) c, here, many_below ps h.1)

-- ---- one step, in numbers: `x` of `r` are chosen at `c`, and `others` more
-- all that is asked for fits
fill_here : (k d x r c low others spent rest : ℕ) → k ≤ r → k + d ≤ x + others → low ≤ c → others * c ≤ spent → rest ≡ 0 →
    min k r * c + rest + d * low ≤ x * c + spent
fill_here k d x r c low others spent rest le few lower above none =
    let all : min k r ≡ k = omega arith in
    let most : (k + d) * c ≤ (x + others) * c = mul-le-mul_right c few in
    let more : d * low ≤ d * c = mul-le-mul_left d lower in
    omega (arith, ap (λ n. n * c) all, most, more, add-mul k d c, add-mul x others c, above, none)

-- more is asked for than fits
fill_on : (k d x r c low spent rest : ℕ) → r < k → x ≤ r → low ≤ c → rest + (d + (r - x)) * c ≤ spent → min k r * c + rest + d * low ≤ x * c + spent
fill_on k d x r c low spent rest lt fits lower later =
    let all : min k r ≡ r = omega arith in
    let split : r ≡ (r - x) + x = omega arith in
    let more : d * low ≤ d * c = mul-le-mul_left d lower in
    omega (arith, ap (λ n. n * c) all, ap (λ n. n * c) split, add-mul (r - x) x c, add-mul d (r - x) c, more, later)

pick_here : (k d x r g high others brought rest : ℕ) → k ≤ r → x + others ≤ k + d → g ≤ high → brought ≤ others * g →
    x * g + brought ≤ min k r * g + rest + d * high
pick_here k d x r g high others brought rest le few higher below =
    let all : min k r ≡ k = omega arith in
    let most : (x + others) * g ≤ (k + d) * g = mul-le-mul_right g few in
    let more : d * g ≤ d * high = mul-le-mul_left d higher in
    omega (arith, ap (λ n. n * g) all, most, more, add-mul k d g, add-mul x others g, below)

pick_on : (k d x r g high brought rest : ℕ) → r < k → x ≤ r → g ≤ high → brought ≤ rest + (d + (r - x)) * g → x * g + brought ≤ min k r * g + rest + d * high
pick_on k d x r g high brought rest lt fits higher later =
    let all : min k r ≡ r = omega arith in
    let split : r ≡ (r - x) + x = omega arith in
    let more : d * g ≤ d * high = mul-le-mul_left d higher in
    omega (arith, ap (λ n. n * g) all, ap (λ n. n * g) split, add-mul (r - x) x g, add-mul d (r - x) g, more, later)

module _ (cost capacity : ℕ → ℕ) where
  -- no later one is cheaper
  abbrev Rising : List ℕ → Type 0
  Rising ps = EachPair (λ p q. cost p ≤ cost q) ps

  fill_none : (k : ℕ) (ps : List ℕ) → k ≡ 0 → fill cost capacity k ps ≡ 0
  fill_none k [] e = refl
  fill_none k (p ∷ ps) e =
      let a : min k (capacity p) ≡ 0 = omega (arith, e) in
      omega (arith, ap (λ n. n * cost p) a, zero-mul (cost p), fill_none (k - capacity p) ps (omega (arith, e)))

  -- `x` is how many of each are chosen
  module _ (x : ℕ → ℕ) where
    abbrev pub Fits : List ℕ → Type 0
    Fits ps = Each (λ p. x p ≤ capacity p) ps

    abbrev pub spent : List ℕ → ℕ
    spent ps = sum_of (λ p. x p * cost p) ps

    -- so many from the cheapest, and d more at a cost that none is below, cost no more than any choice of as many
    fill_least : (ps : List ℕ) (low k d : ℕ) → Rising ps → Each (λ p. low ≤ cost p) ps → Fits ps → k + d ≤ sum_of x ps →
        fill cost capacity k ps + d * low ≤ spent ps
    fill_least [] low k d up lows fits few =
        let e : d ≡ 0 = omega arith in omega (arith, ap (λ n. n * low) e, zero-mul low)
    fill_least (p ∷ ps) low k d up lows fits few =
        by_room (cases_lt (capacity p) k) (λ k2 d2 few2. fill_least ps (cost p) k2 d2 up.1 up.0 fits.1 few2)
      where
        by_room : (capacity p < k) ⊎ (k ≤ capacity p) → ((k2 d2 : ℕ) → k2 + d2 ≤ sum_of x ps → fill cost capacity k2 ps + d2 * cost p ≤ spent ps) →
            fill cost capacity k (p ∷ ps) + d * low ≤ spent (p ∷ ps)
        by_room (inl lt) later = fill_on k d (x p) (capacity p) (cost p) low (spent ps) (fill cost capacity (k - capacity p) ps) lt fits.0 lows.0 (later (k - capacity p) (d + (capacity p - x p)) (omega (arith, few, lt, fits.0)))
        by_room (inr le) later =
            fill_here k d (x p) (capacity p) (cost p) low (sum_of x ps) (spent ps) (fill cost capacity (k - capacity p) ps) le few lows.0 (many_above x cost (cost p) ps up.0) (fill_none (k - capacity p) ps (omega arith))

    module _ (each : ℕ) where
      abbrev brings : ℕ → ℕ
      brings p = each - cost p

      pick_most : (ps : List ℕ) (high k d : ℕ) → Rising ps → Each (λ p. brings p ≤ high) ps → Fits ps → sum_of x ps ≤ k + d →
          sum_of (λ p. x p * brings p) ps ≤ pick cost capacity each k ps + d * high
      pick_most [] high k d up highs fits few = omega arith
      pick_most (p ∷ ps) high k d up highs fits few =
          by_room (cases_lt (capacity p) k) (λ k2 d2 few2. pick_most ps (brings p) k2 d2 up.1 lower fits.1 few2)
        where
          lower : Each (λ q. brings q ≤ brings p) ps
          lower = Each-map (λ q. cost p ≤ cost q) (λ q. brings q ≤ brings p) (λ q le. omega (arith, le)) ps up.0

          by_room : (capacity p < k) ⊎ (k ≤ capacity p) → ((k2 d2 : ℕ) → sum_of x ps ≤ k2 + d2 → sum_of (λ q. x q * brings q) ps ≤ pick cost capacity each k2 ps + d2 * brings p) →
              sum_of (λ q. x q * brings q) (p ∷ ps) ≤ pick cost capacity each k (p ∷ ps) + d * high
          by_room (inl lt) later =
              pick_on k d (x p) (capacity p) (brings p) high (sum_of (λ q. x q * brings q) ps) (pick cost capacity each (k - capacity p) ps) lt fits.0 highs.0
              (later (k - capacity p) (d + (capacity p - x p)) (omega (arith, few, lt, fits.0)))
          by_room (inr le) later =
              pick_here k d (x p) (capacity p) (brings p) high (sum_of x ps) (sum_of (λ q. x q * brings q) ps) (pick cost capacity each (k - capacity p) ps) le few highs.0 (many_below x brings (brings p) ps lower)

      -- what each brings is at most what it gains and costs
      brought : (ps : List ℕ) → sum_of x ps * each ≤ sum_of (λ p. x p * brings p) ps + spent ps
      brought [] = omega (arith, zero-mul each)
      brought (p ∷ ps) =
          let split : each ≤ brings p + cost p = omega arith in
          let here : x p * each ≤ x p * (brings p + cost p) = mul-le-mul_left (x p) split in
          omega (arith, add-mul (x p) (sum_of x ps) each, here, mul-add (x p) (brings p) (cost p), brought ps)

    -- ---- in order of cost
    not_less : (m n : ℕ) → nat_lt n m ≡ false → m ≤ n
    not_less m n e = grind (arith, nat_tests)

    abbrev before : ℕ → ℕ → Bool
    before p q = nat_lt (cost p) (cost q)

    sorted : (ps : List ℕ) → Rising (by_cost cost capacity ps)
    sorted ps =
        EachPair-with (λ p. Unit {0}) (NotAfter before) (λ p q. cost p ≤ cost q) (λ p q u v e. not_less (cost p) (cost q) e) (by_cost cost capacity ps)
        (Each-all (λ p. Unit {0}) (λ p. tt) (by_cost cost capacity ps)) (in_order-rises before (order_by cost) ps)

    same_sum : (f : ℕ → ℕ) (ps : List ℕ) → sum_of f (by_cost cost capacity ps) ≡ sum_of f ps
    same_sum f ps = sum_of-in_order before f ps

    fits_sorted : (ps : List ℕ) → Fits ps → Fits (by_cost cost capacity ps)
    fits_sorted ps fits = Each-in_order before (λ p. x p ≤ capacity p) ps fits

    pub fill_cheapest : (k : ℕ) (ps : List ℕ) → Fits ps → k ≤ sum_of x ps → fill cost capacity k (by_cost cost capacity ps) ≤ spent ps
    fill_cheapest k ps fits few =
        let qs = by_cost cost capacity ps in
        let least = fill_least qs 0 k 0 (sorted ps) (Each-all (λ p. 0 ≤ cost p) (λ p. omega arith) qs) (fits_sorted ps fits) (omega (arith, few, same_sum x ps)) in
        omega (arith, least, same_sum (λ p. x p * cost p) ps)

    pub pick_best : (each k : ℕ) (ps : List ℕ) → Fits ps → sum_of x ps ≤ k → sum_of x ps * each ≤ pick cost capacity each k (by_cost cost capacity ps) + spent ps
    pick_best each k ps fits few =
        let qs = by_cost cost capacity ps in
        let most = pick_most each qs each k 0 (sorted ps) (Each-all (λ p. each - cost p ≤ each) (λ p. omega arith) qs) (fits_sorted ps fits) (omega (arith, few, same_sum x ps)) in
        omega (arith, most, brought each ps, zero-mul each, same_sum (λ p. x p * (each - cost p)) ps)

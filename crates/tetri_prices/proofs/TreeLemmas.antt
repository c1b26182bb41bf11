-- What an expression is worth, so many times, is at most what it gains and what its leaves are charged.
use Rattle.std.proofs.Common.{◌≡◌, ℕ, zero, suc, ◌+◌, ◌*◌, ◌-◌, ◌<◌, ◌≤◌, min, max, Bool, true, false, cond, nat_le, ap, ◌∙◌, arith, ◌⊎◌, inl, inr, mul-le-mul_left, mul-zero, mul-add, mul_assoc}
use Rattle.std.proofs.lemmas.Bool.{cases_lt}
use Rattle.std.proofs.lemmas.Bool.Decides.{nat_tests}
use Rattle.tetri_base.specs.Lists.{sum_of}
use Rattle.tetri_base.proofs.ListLaws.{sum_of-append}
use Rattle.tetri_strl.specs.declared.expr.Leaf.{Leaf}
use Rattle.tetri_strl.specs.Aligned.{EachLeaf, EachLeafOf}
use Rattle.tetri_strl.specs.Tree.{greatest, least, added, Tree, one, join, scale, barrier, Trees, none, more, leaves, leaves_of}
use Rattle.tetri_strl.specs.Worth.{greatest_of, least_from, least_of, added_of, worth_by, worths_by}
use Rattle.tetri_strl.proofs.ExprLaws.{EachLeaf-both, worth_by-le}
use Rattle.tetri_compile.specs.Walk.{best}
use Rattle.tetri_prices.specs.Gain.{gain, gains_of, least_cost, least_costs}
use Rattle.tetri_prices.proofs.NetLemmas.{gross, least_from_le, net_gross}

times_max : (m x y a : ℕ) → m * x ≤ a → m * y ≤ a → m * max x y ≤ a
times_max m x y a p q = by_order (cases_lt x y)
  where
    by_order : (x < y) ⊎ (y ≤ x) → m * max x y ≤ a
    by_order (inl lt) = let e : max x y ≡ y = omega arith in omega (arith, ap (λ n. m * n) e, q)
    by_order (inr le) = let e : max x y ≡ x = omega arith in omega (arith, ap (λ n. m * n) e, p)

times_min : (m x y : ℕ) → (m * min x y ≤ m * x) × (m * min x y ≤ m * y)
times_min m x y =
    let left : min x y ≤ x = omega arith in
    let right : min x y ≤ y = omega arith in
    (mul-le-mul_left m left, mul-le-mul_left m right)

test_true : (x y : ℕ) → x ≤ y → nat_le x y ≡ true
test_true x y h = grind (arith, nat_tests)

test_false : (x y : ℕ) → y < x → nat_le x y ≡ false
test_false x y h = grind (arith, nat_tests)

-- a product above 0 has factors above 0
pub some_factor : (s w : ℕ) → 0 < s * w → 0 < w
some_factor s zero some = absurd (omega (arith, some, mul-zero s))
some_factor s (suc w) some = omega arith

-- a barrier that is worth something stands over a part that is
barred_some : (v w : ℕ) → 0 < cond (nat_le v w) v 0 → 0 < w
barred_some v w some = by_order (cases_lt w v)
  where
    at_most : (b : Bool) → cond b v 0 ≤ v
    at_most true = omega arith
    at_most false = omega arith

    by_order : (w < v) ⊎ (v ≤ w) → 0 < w
    by_order (inl lt) = absurd (omega (arith, some, ap (λ b. cond b v 0) (test_false v w lt)))
    by_order (inr le) = omega (arith, some, le, at_most (nat_le v w))

-- `w` is what the part is worth, `t` its top, `g` what it gains, `k` its least cost, and `c` what it is charged
barred : (m v w t g k c : ℕ) → w ≤ t → m * w ≤ g + c → (0 < w → k ≤ c) → m * cond (nat_le v w) v 0 ≤ cond (nat_le v t) (min (m * v - k) g) 0 + c
barred m v w t g k c below le paid = by_order (cases_lt w v)
  where
    by_order : (w < v) ⊎ (v ≤ w) → m * cond (nat_le v w) v 0 ≤ cond (nat_le v t) (min (m * v - k) g) 0 + c
    by_order (inl lt) =
        let nothing : m * cond (nat_le v w) v 0 ≡ 0 = ap (λ b. m * cond b v 0) (test_false v w lt) ∙ mul-zero m in
        omega (arith, nothing)
    by_order (inr reached) =
        let there : v ≤ t = omega (arith, reached, below) in
        let more_times : m * v ≤ m * w = mul-le-mul_left m reached in
        let one_side : m * cond (nat_le v w) v 0 ≡ m * v = ap (λ b. m * cond b v 0) (test_true v w reached) in
        let other : cond (nat_le v t) (min (m * v - k) g) 0 ≡ min (m * v - k) g = ap (λ b. cond b (min (m * v - k) g) 0) (test_true v t there) in
        by_some more_times one_side other (cases_lt 0 w)
      where
        by_some : m * v ≤ m * w → m * cond (nat_le v w) v 0 ≡ m * v → cond (nat_le v t) (min (m * v - k) g) 0 ≡ min (m * v - k) g → (0 < w) ⊎ (w ≤ 0) →
            m * cond (nat_le v w) v 0 ≤ cond (nat_le v t) (min (m * v - k) g) 0 + c
        by_some more_times one_side other (inl some) = omega (arith, one_side, other, more_times, le, paid some)
        by_some more_times one_side other (inr nothing) =
            let none : w ≡ 0 = omega (arith, nothing) in
            omega (arith, one_side, more_times, ap (λ n. m * n) none, mul-zero m)

module _ (costs : Leaf → ℕ) (gains : Leaf → ℕ → ℕ) (value charge : Leaf → ℕ) where
  -- a leaf for which this holds, and which is worth no more than its value
  pub record IsPriced (l : Leaf) : Type 0 where
    pub priced : (m : ℕ) → m * value l ≤ gains l m + charge l
    pub below : value l ≤ l.v
    pub paid : 0 < value l → costs l ≤ charge l

  abbrev charged : Tree → ℕ
  charged t = sum_of charge (leaves t)

  abbrev charged_of : Trees → ℕ
  charged_of ts = sum_of charge (leaves_of ts)

  charged_more : (t : Tree) (ts : Trees) → charged_of (more t ts) ≡ charged t + charged_of ts
  charged_more t ts = sum_of-append charge (leaves t) (leaves_of ts)

  worth_le_best : (t : Tree) → EachLeaf IsPriced t → worth_by value t ≤ best t
  worth_le_best t h = worth_by-le value (λ l. l.v) t (EachLeaf-both IsPriced IsPriced (λ l. value l ≤ l.v) (λ l p q. p.below) t h h)

  -- a sum of parts is worth something only where one of them is
  some_greatest : (ts : Trees) → 0 < added_of (worths_by value ts) → 0 < greatest_of (worths_by value ts)
  some_greatest none some = some
  some_greatest (more t ts) some = by_first (cases_lt 0 (worth_by value t)) (λ later. some_greatest ts later)
    where
      by_first : (0 < worth_by value t) ⊎ (worth_by value t ≤ 0) → (0 < added_of (worths_by value ts) → 0 < greatest_of (worths_by value ts)) →
          0 < greatest_of (worths_by value (more t ts))
      by_first (inl here) rest = omega (arith, here)
      by_first (inr nothing) rest = omega (arith, rest (omega (arith, nothing, some)))

  mutual
    -- what is worth more than 0 is charged its least cost
    pub tree_paid : (t : Tree) → EachLeaf IsPriced t → 0 < worth_by value t → least_cost costs t ≤ charged t
    tree_paid (one l) h some = omega (arith, h.paid some)
    tree_paid (join greatest ts) h some = one_paid ts h some
    tree_paid (join least ts) h some = all_paid ts h some
    tree_paid (join added ts) h some = one_paid ts h (some_greatest ts some)
    tree_paid (scale t s) h some = tree_paid t h (some_factor s (worth_by value t) some)
    tree_paid (barrier t v) h some = tree_paid t h (barred_some v (worth_by value t) some)

    one_paid : (ts : Trees) → EachLeafOf IsPriced ts → 0 < greatest_of (worths_by value ts) → least_of (least_costs costs ts) ≤ charged_of ts
    one_paid none h some = absurd (omega (arith, some))
    one_paid (more t ts) h some = by_first (cases_lt 0 (worth_by value t)) (tree_paid t h.0) (λ rest. one_paid_from ts h.1 (least_cost costs t) rest)
      where
        by_first : (0 < worth_by value t) ⊎ (worth_by value t ≤ 0) → (0 < worth_by value t → least_cost costs t ≤ charged t) →
            (0 < greatest_of (worths_by value ts) → least_from (least_cost costs t) (least_costs costs ts) ≤ charged_of ts) →
            least_of (least_costs costs (more t ts)) ≤ charged_of (more t ts)
        by_first (inl here) paid later = omega (arith, least_from_le (least_cost costs t) (least_costs costs ts), paid here, charged_more t ts)
        by_first (inr nothing) paid later = omega (arith, later (omega (arith, nothing, some)), charged_more t ts)

    one_paid_from : (ts : Trees) → EachLeafOf IsPriced ts → (k : ℕ) → 0 < greatest_of (worths_by value ts) → least_from k (least_costs costs ts) ≤ charged_of ts
    one_paid_from none h k some = absurd (omega (arith, some))
    one_paid_from (more t ts) h k some = by_first (cases_lt 0 (worth_by value t)) (tree_paid t h.0) (λ rest. one_paid_from ts h.1 (min k (least_cost costs t)) rest)
      where
        by_first : (0 < worth_by value t) ⊎ (worth_by value t ≤ 0) → (0 < worth_by value t → least_cost costs t ≤ charged t) →
            (0 < greatest_of (worths_by value ts) → least_from (min k (least_cost costs t)) (least_costs costs ts) ≤ charged_of ts) →
            least_from k (least_costs costs (more t ts)) ≤ charged_of (more t ts)
        by_first (inl here) paid later = omega (arith, least_from_le (min k (least_cost costs t)) (least_costs costs ts), paid here, charged_more t ts)
        by_first (inr nothing) paid later = omega (arith, later (omega (arith, nothing, some)), charged_more t ts)

    all_paid : (ts : Trees) → EachLeafOf IsPriced ts → 0 < least_of (worths_by value ts) → added_of (least_costs costs ts) ≤ charged_of ts
    all_paid none h some = absurd (omega (arith, some))
    all_paid (more t ts) h some =
        let rest = all_paid_from ts h.1 (worth_by value t) (charged t) (least_cost costs t) (tree_paid t h.0) some in
        omega (arith, rest, charged_more t ts)

    all_paid_from : (ts : Trees) → EachLeafOf IsPriced ts → (w c k : ℕ) → (0 < w → k ≤ c) → 0 < least_from w (worths_by value ts) →
        k + added_of (least_costs costs ts) ≤ c + charged_of ts
    all_paid_from none h w c k paid some = omega (arith, paid some)
    all_paid_from (more t ts) h w c k paid some =
        let rest = all_paid_from ts h.1 (min w (worth_by value t)) (c + charged t) (k + least_cost costs t) (step (tree_paid t h.0)) some in
        omega (arith, rest, charged_more t ts)
      where
        step : (0 < worth_by value t → least_cost costs t ≤ charged t) → 0 < min w (worth_by value t) → k + least_cost costs t ≤ c + charged t
        step own both =
            let here : 0 < worth_by value t = omega (arith, both) in
            let there : 0 < w = omega (arith, both) in
            omega (arith, paid there, own here)

  mutual
    pub tree_priced : (t : Tree) → EachLeaf IsPriced t → (m : ℕ) → m * worth_by value t ≤ gain costs gains t m + charged t
    tree_priced (one l) h m = omega (arith, h.priced m)
    tree_priced (join greatest ts) h m = greatest_priced ts h m
    tree_priced (join least ts) h m = least_priced ts h m
    tree_priced (join added ts) h m = added_priced ts h m
    tree_priced (scale t s) h m = omega (arith, tree_priced t h (m * s), mul_assoc m s (worth_by value t))
    tree_priced (barrier t v) h m =
        barred m v (worth_by value t) (best t) (gain costs gains t m) (least_cost costs t) (charged t) (worth_le_best t h) (tree_priced t h m) (tree_paid t h)

    greatest_priced : (ts : Trees) → EachLeafOf IsPriced ts → (m : ℕ) → m * greatest_of (worths_by value ts) ≤ greatest_of (gains_of costs gains ts m) + charged_of ts
    greatest_priced none h m = omega (arith, mul-zero m)
    greatest_priced (more t ts) h m =
        let here = tree_priced t h.0 m in
        let rest = greatest_priced ts h.1 m in
        let sums = charged_more t ts in
        times_max m (worth_by value t) (greatest_of (worths_by value ts)) (greatest_of (gains_of costs gains (more t ts) m) + charged_of (more t ts))
        (omega (arith, here, sums)) (omega (arith, rest, sums))

    added_priced : (ts : Trees) → EachLeafOf IsPriced ts → (m : ℕ) → m * added_of (worths_by value ts) ≤ added_of (gains_of costs gains ts m) + charged_of ts
    added_priced none h m = omega (arith, mul-zero m)
    added_priced (more t ts) h m =
        omega (arith, tree_priced t h.0 m, added_priced ts h.1 m, charged_more t ts, mul-add m (worth_by value t) (added_of (worths_by value ts)))

    least_priced : (ts : Trees) → EachLeafOf IsPriced ts → (m : ℕ) → m * least_of (worths_by value ts) ≤ gain costs gains (join least ts) m + charged_of ts
    least_priced none h m = omega (arith, mul-zero m)
    least_priced (more t ts) h m =
        by_worth (cases_lt 0 (least_of (worths_by value (more t ts))))
        (λ some. least_priced_from ts h.1 m (worth_by value t) (gain costs gains t m + least_cost costs t) (charged t) (least_cost costs t) (first (tree_priced t h.0 m) (tree_paid t h.0)) some)
      where
        first : m * worth_by value t ≤ gain costs gains t m + charged t → (0 < worth_by value t → least_cost costs t ≤ charged t) → 0 < worth_by value t →
            (m * worth_by value t + least_cost costs t ≤ gain costs gains t m + least_cost costs t + charged t) × (least_cost costs t ≤ charged t)
        first le paid here = (omega (arith, le), paid here)

        by_worth : (0 < least_of (worths_by value (more t ts))) ⊎ (least_of (worths_by value (more t ts)) ≤ 0) →
            (0 < least_of (worths_by value (more t ts)) →
            m * least_of (worths_by value (more t ts)) + (least_cost costs t + added_of (least_costs costs ts))
            ≤ least_of (gross (gains_of costs gains (more t ts) m) (least_costs costs (more t ts))) + (charged t + charged_of ts)) →
            m * least_of (worths_by value (more t ts)) ≤ gain costs gains (join least (more t ts)) m + charged_of (more t ts)
        by_worth (inl some) from =
            omega (arith, from some, charged_more t ts, net_gross (gains_of costs gains (more t ts) m) (least_costs costs (more t ts)))
        by_worth (inr nothing) from =
            let none : least_of (worths_by value (more t ts)) ≡ 0 = omega (arith, nothing) in
            omega (arith, ap (λ n. m * n) none, mul-zero m)

    -- of the parts before, `w` is the least worth, `g` the least of their gains with their own least costs, `c` what they are charged, and `k` their least costs
    least_priced_from : (ts : Trees) → EachLeafOf IsPriced ts → (m w g c k : ℕ) → (0 < w → (m * w + k ≤ g + c) × (k ≤ c)) → 0 < least_from w (worths_by value ts) →
        m * least_from w (worths_by value ts) + (k + added_of (least_costs costs ts)) ≤ least_from g (gross (gains_of costs gains ts m) (least_costs costs ts)) + (c + charged_of ts)
    least_priced_from none h m w g c k before some = omega (arith, (before some).0)
    least_priced_from (more t ts) h m w g c k before some =
        let rest = least_priced_from ts h.1 m (min w (worth_by value t)) (min g (gain costs gains t m + least_cost costs t)) (c + charged t) (k + least_cost costs t)
        (step (tree_priced t h.0 m) (tree_paid t h.0) (times_min m w (worth_by value t))) some in
        omega (arith, rest, charged_more t ts)
      where
        step : m * worth_by value t ≤ gain costs gains t m + charged t → (0 < worth_by value t → least_cost costs t ≤ charged t) →
            (m * min w (worth_by value t) ≤ m * w) × (m * min w (worth_by value t) ≤ m * worth_by value t) → 0 < min w (worth_by value t) →
            (m * min w (worth_by value t) + (k + least_cost costs t) ≤ min g (gain costs gains t m + least_cost costs t) + (c + charged t)) × (k + least_cost costs t ≤ c + charged t)
        step le paid both here =
            let now : 0 < worth_by value t = omega (arith, here) in
            let then_ : 0 < w = omega (arith, here) in
            let p = before then_ in
            let q = paid now in
            (omega (arith, p.0, p.1, q, le, both.0, both.1), omega (arith, p.1, q))

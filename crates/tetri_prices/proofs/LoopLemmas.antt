-- Steps of the loops that take nodes.
use Rattle.std.proofs.Common.{[], ◌∷◌, ◌++◌, sym, subst, below_more, ◌≡◌, ℕ, zero, suc, ◌+◌, ◌*◌, ◌-◌, ◌<◌, ◌≤◌, min, List, length, drop, get_or, refl, ap, ◌∙◌, arith, add-mul, mul-le-mul_left}
use Rattle.std.proofs.lemmas.List.{drop_more}
use Rattle.std.proofs.lemmas.Nat.{mul-le}
use Rattle.std.specs.List.{range_with_len}
use Rattle.tetri_base.specs.Lists.{sum_of}
use Rattle.tetri_prices.specs.Filling.{fill, pick}

module _ {X : Type 0} (cost capacity : X → ℕ) (ps : List X) (i : ℕ) (d : X) (short : i < length ps) (left taken total : ℕ) (is : taken ≡ min left (capacity (get_or ps i d))) where
  abbrev here : X
  here = get_or ps i d

  rest_left : left - taken ≡ left - capacity here
  rest_left = omega (arith, is)

  pub fill_next : (spent : ℕ) → spent + fill cost capacity left (drop i ps) ≡ total → spent + taken * cost here + fill cost capacity (left - taken) (drop (i + 1) ps) ≡ total
  fill_next spent so_far =
      let next : fill cost capacity left (drop i ps) ≡ min left (capacity here) * cost here + fill cost capacity (left - capacity here) (drop (i + 1) ps) = ap (fill cost capacity left) (drop_more ps i d short) in
      omega (arith, so_far, next, ap (λ n. n * cost here) is, ap (λ n. fill cost capacity n (drop (i + 1) ps)) rest_left)

  pub pick_next : (each brings gained : ℕ) → brings ≡ each - cost here → gained + pick cost capacity each left (drop i ps) ≡ total →
      gained + taken * brings + pick cost capacity each (left - taken) (drop (i + 1) ps) ≡ total
  pick_next each brings gained by so_far =
      let next : pick cost capacity each left (drop i ps) ≡ min left (capacity here) * (each - cost here) + pick cost capacity each (left - capacity here) (drop (i + 1) ps) = ap (pick cost capacity each left) (drop_more ps i d short) in
      omega (arith, so_far, next, ap (λ n. n * (each - cost here)) is, ap (λ n. taken * n) by, ap (λ n. pick cost capacity each n (drop (i + 1) ps)) rest_left)

-- what is added stays small
pub part_small : (taken c most limit : ℕ) → taken ≤ most → c ≤ limit → taken * c ≤ most * limit
part_small taken c most limit p q = mul-le taken c most limit p q

pub more_small : (count left taken c old limit : ℕ) → left ≤ count → taken ≤ left → c ≤ limit → old ≤ (count - left) * limit →
    old + taken * c ≤ (count - (left - taken)) * limit
more_small count left taken c old limit few fits small so_far =
    let e : count - (left - taken) ≡ (count - left) + taken = omega (arith, few, fits) in
    let more : taken * c ≤ taken * limit = mul-le-mul_left taken small in
    omega (arith, so_far, more, ap (λ n. n * limit) e, add-mul (count - left) taken limit)

-- the sum over a range, one place further
pub range_sum_next : (f : ℕ → ℕ) (from n i sum here total : ℕ) → i < n → here ≡ f (from + i) → sum + sum_of f (range_with_len (from + i) (n - i)) ≡ total →
    sum + here + sum_of f (range_with_len (from + (i + 1)) (n - (i + 1))) ≡ total
range_sum_next f from n i sum here total lt is so_far =
    let fewer : n - i ≡ suc (n - (i + 1)) = omega (arith, lt) in
    let on : from + i + 1 ≡ from + (i + 1) = omega arith in
    omega (arith, so_far, is, ap (λ k. sum_of f (range_with_len (from + i) k)) fewer, ap (λ k. sum_of f (range_with_len k (n - (i + 1)))) on)

-- ---- sums over ranges
pub range_split : (f : ℕ → ℕ) (a m n : ℕ) → sum_of f (range_with_len a (m + n)) ≡ sum_of f (range_with_len a m) + sum_of f (range_with_len (a + m) n)
range_split f a zero n =
    let none : 0 + n ≡ n = omega arith in
    let same : a + 0 ≡ a = omega arith in
    omega (arith, ap (λ k. sum_of f (range_with_len a k)) none, ap (λ k. sum_of f (range_with_len k n)) same)
range_split f a (suc m) n =
    let first : suc m + n ≡ suc (m + n) = omega arith in
    let on : a + 1 + m ≡ a + suc m = omega arith in
    omega (arith, ap (λ k. sum_of f (range_with_len a k)) first, range_split f (a + 1) m n, ap (λ k. sum_of f (range_with_len k n)) on)

pub range_same : (f g : ℕ → ℕ) (a n : ℕ) → ((t : ℕ) → a ≤ t → t < a + n → f t ≡ g t) → sum_of f (range_with_len a n) ≡ sum_of g (range_with_len a n)
range_same f g a zero same = refl
range_same f g a (suc n) same =
    omega (arith, same a (omega arith) (omega arith), range_same f g (a + 1) n (λ t low high. same t (omega (arith, low)) (omega (arith, high))))

pub range_shift : (f : ℕ → ℕ) (now a n : ℕ) → sum_of (λ t. f (t - now)) (range_with_len (now + a) n) ≡ sum_of f (range_with_len a n)
range_shift f now a zero = refl
range_shift f now a (suc n) =
    let back : now + a - now ≡ a = omega arith in
    let on : now + a + 1 ≡ now + (a + 1) = omega arith in
    omega (arith, ap f back, ap (λ k. sum_of (λ t. f (t - now)) (range_with_len k n)) on, range_shift f now (a + 1) n)

-- the sum of the first of a list, and of one more
pub prefix_next : (f : ℕ → ℕ) (i : ℕ) → sum_of f (range_with_len 0 (i + 1)) ≡ sum_of f (range_with_len 0 i) + f i
prefix_next f i =
    let same : 0 + i ≡ i = omega arith in
    omega (arith, range_split f 0 i 1, ap f same)

-- ---- a list that grows by one item
last_item : (xs : List ℕ) (x : ℕ) → get_or (xs ++ x ∷ []) (length xs) 0 ≡ x
last_item [] x = refl
last_item (y ∷ xs) x = last_item xs x

before_item : (xs : List ℕ) (x i : ℕ) → i < length xs → get_or (xs ++ x ∷ []) i 0 ≡ get_or xs i 0
before_item [] x i lt = absurd (omega (arith, lt))
before_item (y ∷ xs) x zero lt = refl
before_item (y ∷ xs) x (suc i) lt = before_item xs x i (omega (arith, lt))

-- what holds of each item, and of one more
pub each_item : (P : ℕ → ℕ → Type 0) (xs new : List ℕ) (x n : ℕ) → length xs ≡ n → new ≡ xs ++ x ∷ [] → ((i : ℕ) → i < n → P i (get_or xs i 0)) → P n x →
    (i : ℕ) → i < n + 1 → P i (get_or new i 0)
each_item P xs new x n many grown before last =
    below_more (λ i. P i (get_or new i 0)) n
    (λ i lt. subst (P i) (sym (before_item xs x i (omega (arith, lt, many))) ∙ ap (λ ys. get_or ys i 0) (sym grown)) (before i lt))
    (subst (P n) (sym (last_item xs x) ∙ ap (λ k. get_or (xs ++ x ∷ []) k 0) many ∙ ap (λ ys. get_or ys n 0) (sym grown)) last)

-- Lists in order, and orders by one number after the other.
use Rattle.std.proofs.Common.{◌≡◌, ℕ, zero, suc, ◌+◌, ◌<◌, ◌≤◌, ◌||◌, Bool, true, false, cond, List, [], ◌∷◌, length, get_or, refl, sym, ap, ◌∙◌, subst, arith, ◌==◌, ◌&&◌, nat_lt, Ordering, Less, Equal, Greater, true≢false}
use Rattle.std.specs.List.{sum_by}
use Rattle.std.specs.List.Sorted.{IsPermutation}
use Rattle.std.proofs.lemmas.Bool.{cond_both}
use Rattle.std.proofs.lemmas.List.Sorted.{sum_by-IsPermutation}
use Rattle.std.proofs.lemmas.List.Sums.{sum_by-cons}
use native.Mathlib.Numerals.{unary_clauses}
use Rattle.tetri_base.specs.Lists.{sum_of, Each, EachPair}
use Rattle.tetri_base.proofs.ListLaws.{Each-map}
use Rattle.tetri_base.specs.Order.{by_then, put, in_order}
use Rattle.std.specs.Ordering.{is_lt, nat_cmp, ordering_then}
use Rattle.std.proofs.lemmas.Bool.Decides.{nat_tests}

pub sum_of-sum_by : {X : Type 0} (f : X → ℕ) (xs : List X) → sum_of f xs ≡ sum_by f xs
sum_of-sum_by f [] = refl
sum_of-sum_by f (x ∷ xs) = omega (arith, sum_of-sum_by f xs, sum_by-cons f x xs)

pub sum_of-permutation : {X : Type 0} (f : X → ℕ) (xs ys : List X) → IsPermutation xs ys → sum_of f ys ≡ sum_of f xs
sum_of-permutation f xs ys h = sum_of-sum_by f ys ∙ sum_by-IsPermutation f xs ys h ∙ sym (sum_of-sum_by f xs)

module _ {X : Type 0} (before : X → X → Bool) where
  -- the first does not come after the second
  abbrev pub NotAfter : X → X → Type 0
  NotAfter a b = before b a ≡ false

  sum_of-put : (f : X → ℕ) (x : X) (ys : List X) → sum_of f (put before x ys) ≡ f x + sum_of f ys
  sum_of-put f x [] = refl
  sum_of-put f x (y ∷ ys) =
      cond_both (before y x) (y ∷ put before x ys) (x ∷ y ∷ ys) (λ zs. sum_of f zs ≡ f x + (f y + sum_of f ys)) (λ e. omega (arith, sum_of-put f x ys)) (λ e. refl)

  pub sum_of-in_order : (f : X → ℕ) (xs : List X) → sum_of f (in_order before xs) ≡ sum_of f xs
  sum_of-in_order f [] = refl
  sum_of-in_order f (x ∷ xs) = omega (arith, sum_of-put f x (in_order before xs), sum_of-in_order f xs)

  Each-put : (P : X → Type 0) (x : X) (ys : List X) → P x → Each P ys → Each P (put before x ys)
  Each-put P x [] h k = (h, tt)
  Each-put P x (y ∷ ys) h k =
      cond_both (before y x) (y ∷ put before x ys) (x ∷ y ∷ ys) (λ zs. Each P zs) (λ e. (k.0, Each-put P x ys h k.1)) (λ e. (h, k))

  pub Each-in_order : (P : X → Type 0) (xs : List X) → Each P xs → Each P (in_order before xs)
  Each-in_order P [] h = tt
  Each-in_order P (x ∷ xs) h = Each-put P x (in_order before xs) h.0 (Each-in_order P xs h.1)

  -- a fact of each two, whichever comes first
  EachPair-put : (R : X → X → Type 0) → ((a b : X) → R a b → R b a) → (x : X) (ys : List X) → Each (R x) ys → EachPair R ys → EachPair R (put before x ys)
  EachPair-put R turned x [] h k = (tt, tt)
  EachPair-put R turned x (y ∷ ys) h k =
      cond_both (before y x) (y ∷ put before x ys) (x ∷ y ∷ ys) (λ zs. EachPair R zs)
      (λ e. (Each-put (R y) x ys (turned x y h.0) k.0, EachPair-put R turned x ys h.1 k.1)) (λ e. (h, k))

  pub EachPair-in_order : (R : X → X → Type 0) → ((a b : X) → R a b → R b a) → (xs : List X) → EachPair R xs → EachPair R (in_order before xs)
  EachPair-in_order R turned [] h = tt
  EachPair-in_order R turned (x ∷ xs) h =
      EachPair-put R turned x (in_order before xs) (Each-in_order (R x) xs h.0) (EachPair-in_order R turned xs h.1)

  -- the test is an order
  pub record IsOrder : Type 0 where
    pub asymmetric : (a b : X) → before a b ≡ true → before b a ≡ false
    pub transitive : (a b c : X) → NotAfter a b → NotAfter b c → NotAfter a c

  module _ (order : IsOrder) where
    put-rises : (x : X) (ys : List X) → EachPair NotAfter ys → EachPair NotAfter (put before x ys)
    put-rises x [] h = (tt, tt)
    put-rises x (y ∷ ys) h =
        cond_both (before y x) (y ∷ put before x ys) (x ∷ y ∷ ys) (λ zs. EachPair NotAfter zs)
        (λ e. (Each-put (NotAfter y) x ys (order.asymmetric y x e) h.0, put-rises x ys h.1))
        (λ e. ((e, Each-map (NotAfter y) (NotAfter x) (λ z later. order.transitive x y z e later) ys h.0), h))

    pub in_order-rises : (xs : List X) → EachPair NotAfter (in_order before xs)
    in_order-rises [] = tt
    in_order-rises (x ∷ xs) = put-rises x (in_order before xs) (in_order-rises xs)

    -- what a sort by the test leaves
    pub rises_along : (xs : List X) → ((k : ℕ) (d : X) → 0 ≤ k → k + 1 < length xs → before (get_or xs (k + 1) d) (get_or xs k d) ≡ false) → EachPair NotAfter xs
    rises_along [] sorts = tt
    rises_along (x ∷ []) sorts = (tt, tt)
    rises_along (x ∷ y ∷ ys) sorts =
        let next : NotAfter x y = sorts 0 x (omega arith) (omega arith) in
        let rest : EachPair NotAfter (y ∷ ys) =
        rises_along (y ∷ ys) (λ k d low lt. simp unary_clauses (simp unary_clauses at (sorts (suc k) d (omega arith) (omega arith)))) in
        ((next, Each-map (NotAfter y) (NotAfter x) (λ z later. order.transitive x y z next later) ys rest.0), rest)

    module _ (same : (a b : X) → NotAfter a b → NotAfter b a → a ≡ b) where
      -- 1 where neither comes before the other
      abbrev tie : X → X → ℕ
      tie a b = cond (before a b || before b a) 0 1

      not_self : (a : X) → before a a ≡ false
      not_self a = by_test (before a a) refl
        where
          by_test : (t : Bool) → before a a ≡ t → before a a ≡ false
          by_test true e = order.asymmetric a a e
          by_test false e = e

      tie_self : (a : X) → tie a a ≡ 1
      tie_self a = rw (not_self a) refl

      tie_same : (a b : X) → 1 ≤ tie a b → a ≡ b
      tie_same a b once = by_tests (before a b) (before b a) refl refl once
        where
          by_tests : (t u : Bool) → before a b ≡ t → before b a ≡ u → 1 ≤ cond (t || u) 0 1 → a ≡ b
          by_tests true u p q h = absurd (omega arith)
          by_tests false true p q h = absurd (omega arith)
          by_tests false false p q h = same a b q p

      held_there : (P : X → Type 0) (a : X) (xs : List X) → Each P xs → 1 ≤ sum_of (tie a) xs → P a
      held_there P a [] each some = absurd (omega arith)
      held_there P a (x ∷ xs) each some = by_count (tie a x) refl (held_there P a xs each.1)
        where
          by_count : (n : ℕ) → tie a x ≡ n → (1 ≤ sum_of (tie a) xs → P a) → P a
          by_count zero none rest = rest (omega (arith, none, some))
          by_count (suc n) one rest = subst P (sym (tie_same a x (omega (arith, one)))) each.0

      least_first : (a x : X) (xs : List X) → EachPair NotAfter (x ∷ xs) → 1 ≤ sum_of (tie a) (x ∷ xs) → NotAfter x a
      least_first a x xs rises some = held_there (NotAfter x) a (x ∷ xs) (not_self x, rises.0) some

      -- two lists in order that hold the same are the same
      pub same_in_order : (xs ys : List X) → EachPair NotAfter xs → EachPair NotAfter ys → ((f : X → ℕ) → sum_of f xs ≡ sum_of f ys) → xs ≡ ys
      same_in_order [] [] p q sums = refl
      same_in_order [] (y ∷ ys) p q sums = absurd (omega (arith, sums (λ _. 1)))
      same_in_order (x ∷ xs) [] p q sums = absurd (omega (arith, sums (λ _. 1)))
      same_in_order (x ∷ xs) (y ∷ ys) p q sums =
          let first : x ≡ y =
          same x y
          (least_first y x xs p (omega (arith, sums (tie y), tie_self y)))
          (least_first x y ys q (omega (arith, sums (tie x), tie_self x))) in
          let rest : xs ≡ ys = same_in_order xs ys p.1 q.1 (λ f. omega (arith, sums f, ap f first)) in
          cc

      -- a sort by the test gives the list in order
      pub sorted_is : (xs ys zs : List X) → IsPermutation xs ys → ((k : ℕ) (d : X) → 0 ≤ k → k + 1 < length ys → before (get_or ys (k + 1) d) (get_or ys k d) ≡ false) →
          EachPair NotAfter zs → ((f : X → ℕ) → sum_of f xs ≡ sum_of f zs) → ys ≡ zs
      sorted_is xs ys zs moved sorts rises sums =
          same_in_order ys zs (rises_along ys sorts) rises (λ f. sum_of-permutation f xs ys moved ∙ sums f)

module _ {X : Type 0} (f : X → ℕ) where
  asymmetric_then : (m n : ℕ) (p q : Bool) → (p ≡ true → q ≡ false) → (nat_lt m n || (m == n && p)) ≡ true → (nat_lt n m || (n == m && q)) ≡ false
  asymmetric_then m n true true h e = absurd (true≢false (h refl))
  asymmetric_then m n true false h e = grind (arith, nat_tests)
  asymmetric_then m n false q h e = grind (arith, nat_tests)

  -- p is that the second comes before the first, q the third before the second, and r the third before the first
  transitive_then : (k m n : ℕ) (p q r : Bool) → (p ≡ false → q ≡ false → r ≡ false) → (nat_lt m k || (m == k && p)) ≡ false → (nat_lt n m || (n == m && q)) ≡ false →
      (nat_lt n k || (n == k && r)) ≡ false
  transitive_then k m n false false true h e g = absurd (true≢false (h refl refl))
  transitive_then k m n p q false h e g = grind (arith, nat_tests)
  transitive_then k m n true q true h e g = grind (arith, nat_tests)
  transitive_then k m n false true true h e g = grind (arith, nat_tests)

  pub order_then : (rest : X → X → Bool) → IsOrder rest → IsOrder (by_then f rest)
  order_then rest order = record {
    asymmetric = λ a b. asymmetric_then (f a) (f b) (rest a b) (rest b a) (order.asymmetric a b);
    transitive = λ a b c. transitive_then (f a) (f b) (f c) (rest b a) (rest c b) (rest c a) (order.transitive a b c);
  }

  pub order_by : IsOrder (λ a b. nat_lt (f a) (f b))
  order_by = record { asymmetric = λ a b. one_way (f a) (f b); transitive = λ a b c. on (f a) (f b) (f c) }
    where
      one_way : (m n : ℕ) → nat_lt m n ≡ true → nat_lt n m ≡ false
      one_way m n e = grind (arith, nat_tests)

      on : (k m n : ℕ) → nat_lt m k ≡ false → nat_lt n m ≡ false → nat_lt n k ≡ false
      on k m n e g = grind (arith, nat_tests)

-- neither before the other by the first number: the same number
pub tied_first : (m n : ℕ) (p q : Bool) → (nat_lt n m || (n == m && q)) ≡ false → (nat_lt m n || (m == n && p)) ≡ false → m ≡ n
tied_first m n p q e g = grind (arith, nat_tests)

pub tied_last : (m n : ℕ) → nat_lt n m ≡ false → nat_lt m n ≡ false → m ≡ n
tied_last m n e g = grind (arith, nat_tests)

pub tied_rest : (m n : ℕ) (p : Bool) → m ≡ n → (nat_lt m n || (m == n && p)) ≡ false → p ≡ false
tied_rest m n true e g = grind (arith, nat_tests)
tied_rest m n false e g = refl

-- a comparison as a test
pub test_then : (m n : ℕ) (o : Ordering) (p : Bool) → is_lt o ≡ p → is_lt (ordering_then (nat_cmp m n) o) ≡ (nat_lt m n || (m == n && p))
test_then m n Less p e = grind (arith, nat_tests)
test_then m n Equal p e = grind (arith, nat_tests)
test_then m n Greater p e = grind (arith, nat_tests)

pub test_last : (m n : ℕ) → is_lt (nat_cmp m n) ≡ nat_lt m n
test_last m n = grind (arith, nat_tests)

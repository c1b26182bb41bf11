-- Sums, counts and facts of lists.
use Rattle.std.proofs.Common.{◌≡◌, ◌⊎◌, ℕ, zero, suc, ◌+◌, ◌<◌, ◌≤◌, ◌==◌, ◌&&◌, ◌||◌, Bool, true, false, cond, List, [], ◌∷◌, ◌++◌, length, get_or, map, AllPairs, Contains, refl, sym, ap, ◌∙◌, subst, arith, inl, inr, ⊎_elim, le_trans}
use Rattle.std.specs.Prelude.{flat_map}
use Rattle.std.specs.List.{list_any, list_all, filter, range_with_len}
use Rattle.std.proofs.lemmas.Bool.{cond_both, and_from, and_parts, or_right, cases_order}
use Rattle.std.proofs.lemmas.Bool.Decides.{nat_tests}
use Rattle.std.proofs.lemmas.Grind.{flat_map-append}
use Rattle.std.proofs.lemmas.List.{append-nil}
use Rattle.std.proofs.lemmas.List.Folds.{flat_map-map}
use Rattle.std.proofs.lemmas.List.FromFn.{map-range_with_len_more}
use Rattle.tetri_base.specs.Lists.{sum_of, bit, count, has, Each, EachPair, Ascends}

pub eq_from_test : (m n : ℕ) → (m == n) ≡ true → m ≡ n
eq_from_test m n e = grind (arith, nat_tests)

pub test_from_eq : (m n : ℕ) → m ≡ n → (m == n) ≡ true
test_from_eq m n e = grind (arith, nat_tests)

pub test_from_ne : (m n : ℕ) → (m ≡ n → ⊥) → (m == n) ≡ false
test_from_ne m n e = grind (arith, nat_tests)

pub bit-le : (b : Bool) → bit b ≤ 1
bit-le true = omega arith
bit-le false = omega arith

-- ---- facts of each item
module _ {X : Type 0} (P Q : X → Type 0) where
  pub Each-map : ((x : X) → P x → Q x) → (xs : List X) → Each P xs → Each Q xs
  Each-map f [] h = tt
  Each-map f (x ∷ xs) h = (f x h.0, Each-map f xs h.1)

module _ {X : Type 0} (P : X → Type 0) where
  pub Each-all : ((x : X) → P x) → (xs : List X) → Each P xs
  Each-all f [] = tt
  Each-all f (x ∷ xs) = (f x, Each-all f xs)

  pub Each-append : (xs ys : List X) → Each P xs → Each P ys → Each P (xs ++ ys)
  Each-append [] ys h k = k
  Each-append (x ∷ xs) ys h k = (h.0, Each-append xs ys h.1 k)

  pub Each-filter : (p : X → Bool) (xs : List X) → Each P xs → Each P (filter p xs)
  Each-filter p [] h = tt
  Each-filter p (x ∷ xs) h =
      cond_both (p x) (x ∷ filter p xs) (filter p xs) (λ zs. Each P zs) (λ e. (h.0, Each-filter p xs h.1)) (λ e. Each-filter p xs h.1)

  pub Each-passed : (p : X → Bool) → ((x : X) → p x ≡ true → P x) → (xs : List X) → Each P (filter p xs)
  Each-passed p f [] = tt
  Each-passed p f (x ∷ xs) =
      cond_both (p x) (x ∷ filter p xs) (filter p xs) (λ zs. Each P zs) (λ e. (f x e, Each-passed p f xs)) (λ e. Each-passed p f xs)

-- ---- sums
module _ {X : Type 0} (f g : X → ℕ) where
  pub sum_of-le : (xs : List X) → Each (λ x. f x ≤ g x) xs → sum_of f xs ≤ sum_of g xs
  sum_of-le [] h = omega arith
  sum_of-le (x ∷ xs) h = omega (arith, h.0, sum_of-le xs h.1)

  pub sum_of-eq : (xs : List X) → Each (λ x. f x ≡ g x) xs → sum_of f xs ≡ sum_of g xs
  sum_of-eq [] h = refl
  sum_of-eq (x ∷ xs) h = omega (arith, h.0, sum_of-eq xs h.1)

  pub sum_of-plus : (xs : List X) → sum_of (λ x. f x + g x) xs ≡ sum_of f xs + sum_of g xs
  sum_of-plus [] = omega arith
  sum_of-plus (x ∷ xs) = omega (arith, sum_of-plus xs)

pub sum_of-zero : {X : Type 0} (xs : List X) → sum_of (λ x. 0) xs ≡ 0
sum_of-zero [] = refl
sum_of-zero (x ∷ xs) = omega (arith, sum_of-zero xs)

pub sum_of-one : {X : Type 0} (xs : List X) → sum_of (λ x. 1) xs ≡ length xs
sum_of-one [] = refl
sum_of-one (x ∷ xs) = omega (arith, sum_of-one xs)

-- the order of two sums
pub sum_of-swap : {X Y : Type 0} (f : X → Y → ℕ) (xs : List X) (ys : List Y) →
    sum_of (λ x. sum_of (λ y. f x y) ys) xs ≡ sum_of (λ y. sum_of (λ x. f x y) xs) ys
sum_of-swap f [] ys = sym (sum_of-zero ys)
sum_of-swap f (x ∷ xs) ys = ap (λ n. sum_of (f x) ys + n) (sum_of-swap f xs ys) ∙ sym (sum_of-plus (f x) (λ y. sum_of (λ z. f z y) xs) ys)

pub sum_of-filter : {X : Type 0} (f : X → ℕ) (p : X → Bool) (xs : List X) → sum_of f (filter p xs) ≡ sum_of (λ x. cond (p x) (f x) 0) xs
sum_of-filter f p [] = refl
sum_of-filter f p (x ∷ xs) = by_test (p x) (sum_of-filter f p xs)
  where
    by_test : (b : Bool) → sum_of f (filter p xs) ≡ sum_of (λ y. cond (p y) (f y) 0) xs →
        sum_of f (cond b (x ∷ filter p xs) (filter p xs)) ≡ cond b (f x) 0 + sum_of (λ y. cond (p y) (f y) 0) xs
    by_test true e = omega arith
    by_test false e = omega arith

pub sum_of-map : {X Y : Type 0} (f : Y → ℕ) (g : X → Y) (xs : List X) → sum_of f (map g xs) ≡ sum_of (λ x. f (g x)) xs
sum_of-map f g [] = refl
sum_of-map f g (x ∷ xs) = omega (arith, sum_of-map f g xs)

-- ---- numbers in a list
pub bit_or-le : (b c : Bool) → bit (b || c) ≤ bit b + bit c
bit_or-le true c = omega arith
bit_or-le false c = omega arith

-- a number in the list is equal to some item
pub has-le : (ns : List ℕ) (n : ℕ) → bit (has ns n) ≤ count (λ m. m == n) ns
has-le [] n = omega arith
has-le (m ∷ ns) n = omega (arith, bit_or-le (m == n) (has ns n), has-le ns n)

later_not : (m n : ℕ) (ns : List ℕ) → m ≡ n → Each (λ k. m < k) ns → count (λ k. k == n) ns ≡ 0
later_not m n [] e h = refl
later_not m n (k ∷ ns) e h =
    let ne : (k == n) ≡ false = test_from_ne k n (λ (f : k ≡ n). omega (arith, h.0)) in
    omega (arith, ap bit ne, later_not m n ns e h.1)

-- and of ascending ones to one item at most
pub count-one : (ns : List ℕ) (n : ℕ) → Ascends ns → count (λ m. m == n) ns ≤ bit (has ns n)
count-one [] n h = omega arith
count-one (m ∷ ns) n h = by_test (m == n) (λ e. later_not m n ns (eq_from_test m n e) h.0) (count-one ns n h.1)
  where
    by_test : (b : Bool) → (b ≡ true → count (λ k. k == n) ns ≡ 0) → count (λ k. k == n) ns ≤ bit (has ns n) →
        bit b + count (λ k. k == n) ns ≤ bit (b || has ns n)
    by_test true p le = omega (arith, p refl)
    by_test false p le = omega arith

same_test : (m n : ℕ) → (m == n) ≡ (n == m)
same_test m n = grind (arith, nat_tests)

-- op many of the one list are in the other, where the one has no number twice
pub common-le : (ms ns : List ℕ) → Ascends ms → count (has ns) ms ≤ count (has ms) ns
common-le ms ns up =
    le_trans (sum_of-le (λ m. bit (has ns m)) (λ m. count (λ n. n == m) ns) ms (Each-all (λ m. bit (has ns m) ≤ count (λ n. n == m) ns) (has-le ns) ms))
    (subst (λ k. k ≤ count (has ms) ns) (sym (sum_of-swap (λ m n. bit (n == m)) ms ns))
    (sum_of-le (λ n. sum_of (λ m. bit (n == m)) ms) (λ n. bit (has ms n)) ns (Each-all (λ n. sum_of (λ m. bit (n == m)) ms ≤ bit (has ms n)) one ns)))
  where
    one : (n : ℕ) → sum_of (λ m. bit (n == m)) ms ≤ bit (has ms n)
    one n = subst (λ k. k ≤ bit (has ms n)) (sum_of-eq (λ m. bit (m == n)) (λ m. bit (n == m)) ms (Each-all (λ m. bit (m == n) ≡ bit (n == m)) (λ m. ap bit (same_test m n)) ms)) (count-one ms n up)

-- ---- ranges
pub sum_of-range : {X : Type 0} (f : X → ℕ) (xs : List X) (d : X) → sum_of (λ k. f (get_or xs k d)) (range_with_len 0 (length xs)) ≡ sum_of f xs
sum_of-range f xs d = from_zero xs 0 (λ k. f (get_or xs k d)) (λ k. ap (λ j. f (get_or xs j d)) (omega arith))
  where
    from_zero : (ys : List _) (a : ℕ) (h : ℕ → ℕ) → ((k : ℕ) → h (a + k) ≡ f (get_or ys k d)) → sum_of h (range_with_len a (length ys)) ≡ sum_of f ys
    from_zero [] a h e = refl
    from_zero (y ∷ ys) a h e =
        let first : h a ≡ f y = ap h (omega arith) ∙ e 0 in
        omega (arith, first, from_zero ys (a + 1) h (λ k. ap h (omega arith) ∙ e (suc k)))

pub range_from : (P : ℕ → Type 0) (a n : ℕ) → ((k : ℕ) → a ≤ k → k < a + n → P k) → Each P (range_with_len a n)
range_from P a zero h = tt
range_from P a (suc n) h = (h a (omega arith) (omega arith), range_from P (a + 1) n (λ k low high. h k (omega arith) (omega arith)))

pub range-ascends : (a n : ℕ) → Ascends (range_with_len a n)
range-ascends a zero = tt
range-ascends a (suc n) = (range_from (λ k. a < k) (a + 1) n (λ k low high. omega arith), range-ascends (a + 1) n)

pub filter-ascends : (p : ℕ → Bool) (ns : List ℕ) → Ascends ns → Ascends (filter p ns)
filter-ascends p [] h = tt
filter-ascends p (n ∷ ns) h =
    cond_both (p n) (n ∷ filter p ns) (filter p ns) (λ zs. Ascends zs)
    (λ e. (Each-filter (λ k. n < k) p ns h.0, filter-ascends p ns h.1)) (λ e. filter-ascends p ns h.1)

-- ---- facts of pairs
module _ {X : Type 0} (R : X → X → Type 0) where
  pub EachPair-append : (xs ys : List X) → EachPair R xs → EachPair R ys → Each (λ x. Each (R x) ys) xs → EachPair R (xs ++ ys)
  EachPair-append [] ys h k c = k
  EachPair-append (x ∷ xs) ys h k c = (Each-append (R x) xs ys h.0 c.0, EachPair-append xs ys h.1 k c.1)

  pub EachPair-filter : (p : X → Bool) (xs : List X) → EachPair R xs → EachPair R (filter p xs)
  EachPair-filter p [] h = tt
  EachPair-filter p (x ∷ xs) h =
      cond_both (p x) (x ∷ filter p xs) (filter p xs) (λ zs. EachPair R zs)
      (λ e. (Each-filter (R x) p xs h.0, EachPair-filter p xs h.1)) (λ e. EachPair-filter p xs h.1)

module _ {X : Type 0} (P : X → Type 0) (R S : X → X → Type 0) (f : (x y : X) → P x → P y → R x y → S x y) where
  one_with : (x : X) (xs : List X) → P x → Each P xs → Each (R x) xs → Each (S x) xs
  one_with x [] p ps rs = tt
  one_with x (y ∷ ys) p ps rs = (f x y p ps.0 rs.0, one_with x ys p ps.1 rs.1)

  pub EachPair-with : (xs : List X) → Each P xs → EachPair R xs → EachPair S xs
  EachPair-with [] ps rs = tt
  EachPair-with (x ∷ xs) ps rs = (one_with x xs ps.0 ps.1 rs.0, EachPair-with xs ps.1 rs.1)

-- each of the one list with each of the other
pub Each-across : {X Y : Type 0} (P : X → Type 0) (Q : Y → Type 0) (R : X → Y → Type 0) → ((x : X) (y : Y) → P x → Q y → R x y) →
    (xs : List X) (ys : List Y) → Each P xs → Each Q ys → Each (λ x. Each (R x) ys) xs
Each-across P Q R f [] ys ps qs = tt
Each-across P Q R f (x ∷ xs) ys ps qs = (Each-map Q (R x) (λ y q. f x y ps.0 q) ys qs, Each-across P Q R f xs ys ps.1 qs)

module _ {X : Type 0} (P Q R : X → Type 0) (f : (x : X) → P x → Q x → R x) where
  pub Each-both : (xs : List X) → Each P xs → Each Q xs → Each R xs
  Each-both [] p q = tt
  Each-both (x ∷ xs) p q = (f x p.0 q.0, Each-both xs p.1 q.1)

module _ {X : Type 0} (P : X → Type 0) where
  pub Each-get : (xs : List X) (k : ℕ) (d : X) → Each P xs → k < length xs → P (get_or xs k d)
  Each-get [] k d h lt = absurd (omega arith)
  Each-get (x ∷ xs) zero d h lt = h.0
  Each-get (x ∷ xs) (suc k) d h lt = Each-get xs k d h.1 (omega arith)

  pub Each-at : (xs : List X) (x : X) → Each P xs → Contains xs x → P x
  Each-at xs x h at = subst P at.2 (Each-get xs at.0 x h at.1)

  pub Each-from : (xs : List X) → ((x : X) → Contains xs x → P x) → Each P xs
  Each-from [] f = tt
  Each-from (x ∷ xs) f = (f x (0, omega arith, refl), Each-from xs (λ y at. f y (suc at.0, omega (arith, at.1), at.2)))

-- ---- tests of lists
pub all_from : {X : Type 0} (p : X → Bool) (xs : List X) → Each (λ x. p x ≡ true) xs → list_all p xs ≡ true
all_from p [] h = refl
all_from p (x ∷ xs) h = and_from (p x) (list_all p xs) h.0 (all_from p xs h.1)

pub from_all : {X : Type 0} (p : X → Bool) (xs : List X) → list_all p xs ≡ true → Each (λ x. p x ≡ true) xs
from_all p [] h = tt
from_all p (x ∷ xs) h = let both = and_parts (p x) (list_all p xs) h in (both.0, from_all p xs both.1)

pub any_from : {X : Type 0} (p : X → Bool) (xs : List X) (x : X) → Contains xs x → p x ≡ true → list_any p xs ≡ true
any_from p xs x at e = from_place xs at.0 at.1 (ap p at.2 ∙ e)
  where
    from_place : (ys : List _) (k : ℕ) → k < length ys → p (get_or ys k x) ≡ true → list_any p ys ≡ true
    from_place [] k lt e = absurd (omega arith)
    from_place (y ∷ ys) zero lt e = ap (λ b. b || list_any p ys) e
    from_place (y ∷ ys) (suc k) lt e = or_right (p y) (list_any p ys) (from_place ys k (omega arith) e)

pub none_from : {X : Type 0} (p : X → Bool) (xs : List X) → Each (λ x. p x ≡ false) xs → list_any p xs ≡ false
none_from p [] h = refl
none_from p (x ∷ xs) h = ap (λ b. b || list_any p xs) h.0 ∙ none_from p xs h.1

pub has-filter : (p : ℕ → Bool) (ns : List ℕ) (m : ℕ) → has (filter p ns) m ≡ (has ns m && p m)
has-filter p [] m = refl
has-filter p (n ∷ ns) m =
    let rest = has-filter p ns m in
    cond_both (p n) (n ∷ filter p ns) (filter p ns) (λ zs. has zs m ≡ ((n == m || has ns m) && p m))
    (λ e. here (n == m) (has ns m) (p m) (has (filter p ns) m) (λ t. ap p (sym (eq_from_test n m t)) ∙ e) rest)
    (λ e. away (n == m) (has ns m) (p m) (has (filter p ns) m) (λ t. ap p (sym (eq_from_test n m t)) ∙ e) rest)
  where
    here : (b d c f : Bool) → (b ≡ true → c ≡ true) → f ≡ (d && c) → (b || f) ≡ ((b || d) && c)
    here true d c f t e = sym (t refl)
    here false d c f t e = e

    away : (b d c f : Bool) → (b ≡ true → c ≡ false) → f ≡ (d && c) → f ≡ ((b || d) && c)
    away true true c f t e = e
    away true false c f t e = e ∙ sym (t refl)
    away false d c f t e = e

pub has-range : (a n m : ℕ) → a ≤ m → m < a + n → has (range_with_len a n) m ≡ true
has-range a zero m low high = absurd (omega arith)
has-range a (suc n) m low high =
    ⊎_elim (λ (e : a ≡ m). ap (λ b. b || has (range_with_len (a + 1) n) m) (test_from_eq a m e))
    (λ (lt : a < m). or_right (a == m) _ (has-range (a + 1) n m (omega arith) (omega arith)))
    (split a m low)
  where
    split : (j k : ℕ) → j ≤ k → (j ≡ k) ⊎ (j < k)
    split j k le = elim (cases_order j k) [ inl e ↦ inl e | inr (inl lt) ↦ inr lt | inr (inr gt) ↦ absurd (omega arith) ]

pub range_contains : (a n j : ℕ) → a ≤ j → j < a + n → Contains (range_with_len a n) j
range_contains a zero j low high = absurd (omega arith)
range_contains a (suc n) j low high =
    elim (cases_order a j) [
      | inl e ↦ (0, omega arith, e)
      | inr (inl lt) ↦ let rest = range_contains (a + 1) n j (omega arith) (omega arith) in (suc rest.0, omega (arith, rest.1), rest.2)
      | inr (inr gt) ↦ absurd (omega arith)
    ]

-- all pairs of a list, one item after another
pub EachPair-from : {X : Type 0} (R : X → X → Type 0) (xs : List X) → AllPairs R xs → EachPair R xs
EachPair-from R [] h = tt
EachPair-from R (x ∷ xs) h = (
  Each-from (R x) xs (λ y at. subst (R x) at.2 (h 0 (suc at.0) y (omega arith) (omega (arith, at.1)))),
  EachPair-from R xs (λ i j d lt short. h (suc i) (suc j) d (omega arith) (omega arith)),
)

pub sum_of-append : {X : Type 0} (f : X → ℕ) (xs ys : List X) → sum_of f (xs ++ ys) ≡ sum_of f xs + sum_of f ys
sum_of-append f [] ys = omega arith
sum_of-append f (x ∷ xs) ys = omega (arith, sum_of-append f xs ys)

pub sum_of-filter-le : {X : Type 0} (f : X → ℕ) (p : X → Bool) (xs : List X) → sum_of f (filter p xs) ≤ sum_of f xs
sum_of-filter-le f p xs =
    subst (λ n. n ≤ sum_of f xs) (sym (sum_of-filter f p xs)) (sum_of-le (λ x. cond (p x) (f x) 0) f xs (Each-all _ (λ x. by_test (p x) (f x)) xs))
  where
    by_test : (b : Bool) (n : ℕ) → cond b n 0 ≤ n
    by_test true n = omega arith
    by_test false n = omega arith

-- ---- what the numbers from 0 on give
-- the first numbers, and the next
pub flat_map-next : {X : Type 0} (f : ℕ → List X) (n : ℕ) → flat_map f (range_with_len 0 (n + 1)) ≡ flat_map f (range_with_len 0 n) ++ f n
flat_map-next f n =
    sym (flat_map-map f (λ k. k) (range_with_len 0 (n + 1)))
    ∙ ap (flat_map f) (map-range_with_len_more (λ k. k) 0 n n (omega arith))
    ∙ flat_map-append f (map (λ k. k) (range_with_len 0 n)) (n ∷ [])
    ∙ ap (λ xs. xs ++ flat_map f (n ∷ [])) (flat_map-map f (λ k. k) (range_with_len 0 n))
    ∙ ap (λ xs. flat_map f (range_with_len 0 n) ++ xs) (append-nil (f n))

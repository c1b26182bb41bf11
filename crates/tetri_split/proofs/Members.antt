-- Members of lists, and what filters leave.
use Rattle.std.proofs.Common.{◌≡◌, ◌⊎◌, ℕ, zero, suc, ◌==◌, ◌||◌, Bool, true, false, cond, List, [], ◌∷◌, ◌++◌, map, All, Contains, refl, sym, ap, ◌∙◌, subst, arith, true≢false, inl, inr}
use Rattle.std.specs.List.{filter, flat_map}
use Rattle.std.proofs.lemmas.List.Elements.{All-head, All-tail, Contains-append_cases, Contains-append_left, Contains-append_right}
use Rattle.tetri_base.specs.Lists.{has}
use Rattle.tetri_base.proofs.ListLaws.{any_from, eq_from_test, test_from_eq}

pub first_of : {X : Type 0} (x : X) (xs : List X) → Contains (x ∷ xs) x
first_of x xs = (0, omega arith, refl)

pub later_of : {X : Type 0} (y : X) (xs : List X) (x : X) → Contains xs x → Contains (y ∷ xs) x
later_of y xs x at = (suc at.0, omega (arith, at.1), at.2)

pub cases_of : {X : Type 0} (y : X) (xs : List X) (x : X) → Contains (y ∷ xs) x → (y ≡ x) ⊎ Contains xs x
cases_of y xs x (zero, lt, is) = inl is
cases_of y xs x (suc k, lt, is) = inr (k, omega (arith, lt), is)

pub contains_from : (ns : List ℕ) (n : ℕ) → has ns n ≡ true → Contains ns n
contains_from [] n e = absurd (true≢false (sym e))
contains_from (m ∷ ns) n e = by_test (m == n) (eq_from_test m n) (contains_from ns n) e
  where
    by_test : (b : Bool) → (b ≡ true → m ≡ n) → (has ns n ≡ true → Contains ns n) → (b || has ns n) ≡ true → Contains (m ∷ ns) n
    by_test true is rest t = (0, omega arith, is refl)
    by_test false is rest t = later_of m ns n (rest t)

pub has_from : (ns : List ℕ) (n : ℕ) → Contains ns n → has ns n ≡ true
has_from ns n at = any_from (λ m. m == n) ns n at (test_from_eq n n refl)

module _ {X : Type 0} (p : X → Bool) where
  pub all_pass : (xs : List X) → All (λ x. p x ≡ true) xs → filter p xs ≡ xs
  all_pass [] h = refl
  all_pass (x ∷ xs) h =
      ap (λ b. cond b (x ∷ filter p xs) (filter p xs)) (All-head (λ y. p y ≡ true) x xs h) ∙ ap (λ ys. x ∷ ys) (all_pass xs (All-tail (λ y. p y ≡ true) x xs h))

  pub none_passes : (xs : List X) → All (λ x. p x ≡ false) xs → filter p xs ≡ []
  none_passes [] h = refl
  none_passes (x ∷ xs) h =
      ap (λ b. cond b (x ∷ filter p xs) (filter p xs)) (All-head (λ y. p y ≡ false) x xs h) ∙ none_passes xs (All-tail (λ y. p y ≡ false) x xs h)

  pub contains_filter : (xs : List X) (x : X) → p x ≡ true → Contains xs x → Contains (filter p xs) x
  contains_filter [] x e at = absurd (omega (arith, at.1))
  contains_filter (y ∷ ys) x e at = by_test (p y) refl (contains_filter ys x e) (cases_of y ys x at)
    where
      by_test : (b : Bool) → p y ≡ b → (Contains ys x → Contains (filter p ys) x) → (y ≡ x) ⊎ Contains ys x → Contains (cond b (y ∷ filter p ys) (filter p ys)) x
      by_test true t rest (inl same) = (0, omega arith, same)
      by_test true t rest (inr later) = later_of y (filter p ys) x (rest later)
      by_test false t rest (inl same) = absurd (true≢false (sym e ∙ ap p (sym same) ∙ t))
      by_test false t rest (inr later) = rest later

  pub filter_contains : (xs : List X) (x : X) → Contains (filter p xs) x → Contains xs x × (p x ≡ true)
  filter_contains [] x at = absurd (omega (arith, at.1))
  filter_contains (y ∷ ys) x at = by_test (p y) refl (filter_contains ys x) at
    where
      by_cases : p y ≡ true → (Contains (filter p ys) x → Contains ys x × (p x ≡ true)) → (y ≡ x) ⊎ Contains (filter p ys) x → Contains (y ∷ ys) x × (p x ≡ true)
      by_cases t rest (inl same) = ((0, omega arith, same), ap p (sym same) ∙ t)
      by_cases t rest (inr later) = let both = rest later in (later_of y ys x both.0, both.1)

      by_test : (b : Bool) → p y ≡ b → (Contains (filter p ys) x → Contains ys x × (p x ≡ true)) → Contains (cond b (y ∷ filter p ys) (filter p ys)) x →
          Contains (y ∷ ys) x × (p x ≡ true)
      by_test true t rest there = by_cases t rest (cases_of y (filter p ys) x there)
      by_test false t rest there = let both = rest there in (later_of y ys x both.0, both.1)

module _ {X Y : Type 0} (f : X → Y) where
  pub contains_map : (xs : List X) (x : X) → Contains xs x → Contains (map f xs) (f x)
  contains_map [] x at = absurd (omega (arith, at.1))
  contains_map (y ∷ ys) x at = by_cases (contains_map ys x) (cases_of y ys x at)
    where
      by_cases : (Contains ys x → Contains (map f ys) (f x)) → (y ≡ x) ⊎ Contains ys x → Contains (f y ∷ map f ys) (f x)
      by_cases rest (inl same) = (0, omega arith, ap f same)
      by_cases rest (inr later) = later_of (f y) (map f ys) (f x) (rest later)

  pub map_contains : (xs : List X) (y : Y) → Contains (map f xs) y → (x : X) × Contains xs x × (f x ≡ y)
  map_contains [] y at = absurd (omega (arith, at.1))
  map_contains (x ∷ xs) y at = by_cases (map_contains xs y) (cases_of (f x) (map f xs) y at)
    where
      by_cases : (Contains (map f xs) y → (z : X) × Contains xs z × (f z ≡ y)) → (f x ≡ y) ⊎ Contains (map f xs) y → (z : X) × Contains (x ∷ xs) z × (f z ≡ y)
      by_cases rest (inl same) = (x, first_of x xs, same)
      by_cases rest (inr later) = let found = rest later in (found.0, later_of x xs found.0 found.1, found.2)

module _ {X Y : Type 0} (f : X → List Y) where
  pub contains_flat : (xs : List X) (x : X) (y : Y) → Contains xs x → Contains (f x) y → Contains (flat_map f xs) y
  contains_flat [] x y at there = absurd (omega (arith, at.1))
  contains_flat (z ∷ zs) x y at there = by_cases (λ later. contains_flat zs x y later there) (cases_of z zs x at)
    where
      by_cases : (Contains zs x → Contains (flat_map f zs) y) → (z ≡ x) ⊎ Contains zs x → Contains (f z ++ flat_map f zs) y
      by_cases rest (inl same) = Contains-append_left (f z) (flat_map f zs) y (subst (λ w. Contains (f w) y) (sym same) there)
      by_cases rest (inr later) = Contains-append_right (f z) (flat_map f zs) y (rest later)

  pub flat_contains : (xs : List X) (y : Y) → Contains (flat_map f xs) y → (x : X) × Contains xs x × Contains (f x) y
  flat_contains [] y at = absurd (omega (arith, at.1))
  flat_contains (z ∷ zs) y at = by_cases (flat_contains zs y) (Contains-append_cases (f z) (flat_map f zs) y at)
    where
      by_cases : (Contains (flat_map f zs) y → (x : X) × Contains zs x × Contains (f x) y) → Contains (f z) y ⊎ Contains (flat_map f zs) y →
          (x : X) × Contains (z ∷ zs) x × Contains (f x) y
      by_cases rest (inl here) = (z, first_of z zs, here)
      by_cases rest (inr later) = let found = rest later in (found.0, later_of z zs found.0 found.1, found.2)

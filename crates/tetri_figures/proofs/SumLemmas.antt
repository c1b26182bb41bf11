-- Sums over lists, item by item.
use Rattle.std.proofs.Common.{◌≡◌, ℕ, zero, suc, ◌+◌, ◌<◌, ◌≤◌, Bool, true, false, cond, List, [], ◌∷◌, drop, get_or, length, refl, sym, ap, ◌∙◌, arith}
use Rattle.std.specs.Prelude.{max, min}
use Rattle.std.proofs.lemmas.Bool.Decides.{nat_tests}
use Rattle.std.proofs.lemmas.List.{drop_all, drop_more, get_or_default}
use Rattle.tetri_base.specs.Lists.{sum_of}
use Rattle.tetri_figures.specs.Figures.{greatest_of, picked}

none_picked : {X : Type 0} (xs : List X) → picked [] xs ≡ []
none_picked [] = refl
none_picked (x ∷ xs) = refl

-- what is picked from a place on: what stands there, if it is picked, and what is picked behind it
picked_at : {X : Type 0} (marks : List Bool) (xs : List X) (i : ℕ) (d : X) → i < length xs →
    picked (drop i marks) (drop i xs) ≡ cond (get_or marks i false) (get_or xs i d ∷ picked (drop (suc i) marks) (drop (suc i) xs)) (picked (drop (suc i) marks) (drop (suc i) xs))
picked_at marks [] i d lt = absurd (omega (arith, lt))
picked_at [] (x ∷ xs) zero d lt = sym (none_picked xs)
picked_at [] (x ∷ xs) (suc i) d lt = none_picked (drop i xs) ∙ sym (none_picked (drop (suc i) xs))
picked_at (true ∷ marks) (x ∷ xs) zero d lt = refl
picked_at (false ∷ marks) (x ∷ xs) zero d lt = refl
picked_at (m ∷ marks) (x ∷ xs) (suc i) d lt = picked_at marks xs i d (omega (arith, lt))

picked_next : {X : Type 0} (marks : List Bool) (xs : List X) (i : ℕ) (d : X) → i < length xs →
    picked (drop i marks) (drop i xs) ≡ cond (get_or marks i false) (get_or xs i d ∷ picked (drop (i + 1) marks) (drop (i + 1) xs)) (picked (drop (i + 1) marks) (drop (i + 1) xs))
picked_next marks xs i d lt =
    let next : suc i ≡ i + 1 = omega arith in
    picked_at marks xs i d lt
    ∙ ap (λ n. cond (get_or marks i false) (get_or xs i d ∷ picked (drop n marks) (drop n xs)) (picked (drop n marks) (drop n xs))) next

none_behind : {X : Type 0} (marks : List Bool) (xs : List X) (i : ℕ) → length xs ≤ i → picked (drop i marks) (drop i xs) ≡ []
none_behind marks xs i over = ap (picked (drop i marks)) (drop_all i xs over)

sum_first : {X : Type 0} (f : X → ℕ) (b : Bool) (x : X) (xs : List X) → sum_of f (cond b (x ∷ xs) xs) ≡ cond b (f x) 0 + sum_of f xs
sum_first f true x xs = refl
sum_first f false x xs = omega arith

greatest_first : {X : Type 0} (f : X → ℕ) (b : Bool) (x : X) (xs : List X) → greatest_of f (cond b (x ∷ xs) xs) ≡ max (cond b (f x) 0) (greatest_of f xs)
greatest_first f true x xs = refl
greatest_first f false x xs = grind (arith, nat_tests)

module _ {X : Type 0} (f : X → ℕ) (marks : List Bool) (xs : List X) (i sum total : ℕ) where
  pub picked_sum_next : sum + sum_of f (picked (drop i marks) (drop i xs)) ≡ total → (x : X) → i < length xs → x ≡ get_or xs i x →
      sum + cond (get_or marks i false) (f x) 0 + sum_of f (picked (drop (i + 1) marks) (drop (i + 1) xs)) ≡ total
  picked_sum_next so_far x lt is =
      omega (
        arith,
        so_far,
        ap (sum_of f) (picked_next marks xs i x lt),
        sum_first f (get_or marks i false) (get_or xs i x) (picked (drop (i + 1) marks) (drop (i + 1) xs)),
        ap (λ y. cond (get_or marks i false) (f y) 0) is,
      )

  pub picked_sum_all : sum + sum_of f (picked (drop i marks) (drop i xs)) ≡ total → length xs ≤ i → sum ≡ total
  picked_sum_all so_far over = omega (arith, so_far, ap (sum_of f) (none_behind marks xs i over))

  pub picked_max_next : max sum (greatest_of f (picked (drop i marks) (drop i xs))) ≡ total → (x : X) → i < length xs → x ≡ get_or xs i x → (more : ℕ) →
      more ≡ cond (get_or marks i false) (f x) 0 → max (max sum more) (greatest_of f (picked (drop (i + 1) marks) (drop (i + 1) xs))) ≡ total
  picked_max_next so_far x lt at more is =
      three sum more (greatest_of f (picked (drop (i + 1) marks) (drop (i + 1) xs)))
      ∙ ap (λ m. max sum (max m (greatest_of f (picked (drop (i + 1) marks) (drop (i + 1) xs))))) (is ∙ ap (λ y. cond (get_or marks i false) (f y) 0) at)
      ∙ ap (max sum) (sym (greatest_first f (get_or marks i false) (get_or xs i x) (picked (drop (i + 1) marks) (drop (i + 1) xs))))
      ∙ ap (λ ys. max sum (greatest_of f ys)) (sym (picked_next marks xs i x lt)) ∙ so_far
    where
      three : (a b c : ℕ) → max (max a b) c ≡ max a (max b c)
      three a b c = grind (arith, nat_tests)

  pub picked_max_all : max sum (greatest_of f (picked (drop i marks) (drop i xs))) ≡ total → length xs ≤ i → sum ≡ total
  picked_max_all so_far over = sym (most_zero sum) ∙ ap (λ ys. max sum (greatest_of f ys)) (sym (none_behind marks xs i over)) ∙ so_far
    where
      most_zero : (a : ℕ) → max a 0 ≡ a
      most_zero a = grind (arith, nat_tests)

-- sums up to a most
capped_plus : (m s x r : ℕ) → min (min (s + min x m) m + r) m ≡ min (s + (x + r)) m
capped_plus m s x r = grind (arith, nat_tests)

capped_twice : (m x : ℕ) → min (min x m) m ≡ min x m
capped_twice m x = grind (arith, nat_tests)

module _ {X : Type 0} (f : X → ℕ) (m : ℕ) (marks : List Bool) (xs : List X) (i sum total : ℕ) where
  pub capped_next : min (sum + sum_of f (picked (drop i marks) (drop i xs))) m ≡ min total m → (x : X) → i < length xs → x ≡ get_or xs i x → (more : ℕ) →
      more ≡ cond (get_or marks i false) (min (f x) m) 0 →
      min (min (sum + more) m + sum_of f (picked (drop (i + 1) marks) (drop (i + 1) xs))) m ≡ min total m
  capped_next so_far x lt at more is =
      let rest : List X = picked (drop (i + 1) marks) (drop (i + 1) xs) in
      ap (λ n. min (min (sum + n) m + sum_of f rest) m) (is ∙ ap (λ y. cond (get_or marks i false) (min (f y) m) 0) at ∙ inside (get_or marks i false))
      ∙ capped_plus m sum (cond (get_or marks i false) (f (get_or xs i x)) 0) (sum_of f rest)
      ∙ ap (λ n. min (sum + n) m) (sym (ap (sum_of f) (picked_next marks xs i x lt) ∙ sum_first f (get_or marks i false) (get_or xs i x) rest)) ∙ so_far
    where
      least_zero : (n : ℕ) → min 0 n ≡ 0
      least_zero n = grind (arith, nat_tests)

      inside : (b : Bool) → cond b (min (f (get_or xs i x)) m) 0 ≡ min (cond b (f (get_or xs i x)) 0) m
      inside true = refl
      inside false = sym (least_zero m)

  pub capped_all : min (sum + sum_of f (picked (drop i marks) (drop i xs))) m ≡ min total m → length xs ≤ i → sum ≤ m → sum ≡ min total m
  capped_all so_far over few =
      within sum m few ∙ ap (λ ys. min (sum + sum_of f ys) m) (sym (none_behind marks xs i over)) ∙ so_far
    where
      within : (a n : ℕ) → a ≤ n → a ≡ min (a + 0) n
      within a n le = grind (arith, nat_tests)

-- the same over all items of a list
module _ {X : Type 0} (f : X → ℕ) (xs : List X) (i sum total : ℕ) where
  pub sum_next : sum + sum_of f (drop i xs) ≡ total → (x : X) → i < length xs → x ≡ get_or xs i x → sum + f x + sum_of f (drop (i + 1) xs) ≡ total
  sum_next so_far x lt is =
      let next : drop i xs ≡ x ∷ drop (i + 1) xs = drop_more xs i x lt ∙ ap (λ y. y ∷ drop (i + 1) xs) (sym is) in
      omega (arith, so_far, ap (sum_of f) next)

  pub sum_next_at : sum + sum_of f (drop i xs) ≡ total → i < length xs → (d : X) → (n : ℕ) → n ≡ f (get_or xs i d) → sum + n + sum_of f (drop (i + 1) xs) ≡ total
  sum_next_at so_far lt d n is =
      let x : X = get_or xs i d in
      ap (λ m. sum + m + sum_of f (drop (i + 1) xs)) is ∙ sum_next so_far x lt (get_or_default xs i d x lt)

  pub sum_all : sum + sum_of f (drop i xs) ≡ total → length xs ≤ i → sum ≡ total
  sum_all so_far over = omega (arith, so_far, ap (sum_of f) (drop_all i xs over))

  pub capped_sum_next : (m : ℕ) → min (sum + sum_of f (drop i xs)) m ≡ min total m → (x : X) → i < length xs → x ≡ get_or xs i x →
      min (min (sum + f x) m + sum_of f (drop (i + 1) xs)) m ≡ min total m
  capped_sum_next m so_far x lt is =
      let next : drop i xs ≡ x ∷ drop (i + 1) xs = drop_more xs i x lt ∙ ap (λ y. y ∷ drop (i + 1) xs) (sym is) in
      plain m sum (f x) (sum_of f (drop (i + 1) xs)) ∙ ap (λ ys. min (sum + sum_of f ys) m) (sym next) ∙ so_far
    where
      plain : (n s y r : ℕ) → min (min (s + y) n + r) n ≡ min (s + (y + r)) n
      plain n s y r = grind (arith, nat_tests)

  pub capped_sum_all : (m : ℕ) → min (sum + sum_of f (drop i xs)) m ≡ min total m → length xs ≤ i → sum ≤ m → sum ≡ min total m
  capped_sum_all m so_far over few =
      within sum m few ∙ ap (λ ys. min (sum + sum_of f ys) m) (sym (drop_all i xs over)) ∙ so_far
    where
      within : (a n : ℕ) → a ≤ n → a ≡ min (a + 0) n
      within a n le = grind (arith, nat_tests)

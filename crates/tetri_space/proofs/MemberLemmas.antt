-- The test of a list for a number, and its members.
use Rattle.std.proofs.Common.{◌≡◌, ℕ, zero, suc, ◌==◌, ◌||◌, Bool, true, false, List, [], ◌∷◌, map, Contains, refl, sym, ap, ◌∙◌, arith, true≢false}
use Rattle.std.specs.List.{list_any}
use Rattle.tetri_base.specs.Lists.{has, Each}
use Rattle.tetri_base.proofs.ListLaws.{any_from, eq_from_test, test_from_eq}

pub contains_from : (ns : List ℕ) (n : ℕ) → has ns n ≡ true → Contains ns n
contains_from [] n e = absurd (true≢false (sym e))
contains_from (m ∷ ns) n e = by_test (m == n) (λ t. eq_from_test m n t) (λ t. contains_from ns n t) e
  where
    by_test : (b : Bool) → (b ≡ true → m ≡ n) → (has ns n ≡ true → Contains ns n) → (b || has ns n) ≡ true → Contains (m ∷ ns) n
    by_test true is rest t = (0, omega arith, is refl)
    by_test false is rest t = let later = rest t in (suc later.0, omega (arith, later.1), later.2)

pub has_from : (ns : List ℕ) (n : ℕ) → Contains ns n → has ns n ≡ true
has_from ns n at = any_from (λ m. m == n) ns n at (test_from_eq n n refl)

pub of_map : {X Y : Type 0} (f : X → Y) (xs : List X) (y : Y) → Contains (map f xs) y → (x : X) × Contains xs x × (f x ≡ y)
of_map f [] y at = absurd (omega (arith, at.1))
of_map f (x ∷ xs) y (zero, lt, e) = (x, (0, omega arith, refl), e)
of_map f (x ∷ xs) y (suc k, lt, e) = let rest = of_map f xs y (k, omega (arith, lt), e) in (rest.0, (suc rest.1.0, omega (arith, rest.1.1), rest.1.2), rest.2)

-- tests that agree on each item
pub any_same : {X : Type 0} (p q : X → Bool) (xs : List X) → Each (λ x. p x ≡ q x) xs → list_any p xs ≡ list_any q xs
any_same p q [] h = refl
any_same p q (x ∷ xs) h = ap (λ b. b || list_any p xs) h.0 ∙ ap (λ b. q x || b) (any_same p q xs h.1)

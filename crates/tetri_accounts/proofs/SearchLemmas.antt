-- What a binary search among jobs says.
use Rattle.std.proofs.Common.{◌≡◌, ℕ, ◌<◌, ◌≤◌, ◌==◌, true, false, List, [], ◌∷◌, length, get_or, All, Result, Ok, Err, is_ok, sym, inl, inr, arith}
use Rattle.std.specs.List.{list_any}
use Rattle.tetri_base.specs.Lists.{has}
use Rattle.std.specs.List.Sorted.{IsNonDecreasingBy, IsBinarySearchResult, IsSearchInRange}
use Rattle.std.specs.declared.cmp.Ordering.TheVariants.{Equal}
use Rattle.std.specs.Ordering.{nat_cmp, ordering_index}
use Rattle.std.proofs.lemmas.Bool.{cases_lt}
use Rattle.std.proofs.lemmas.Bool.Decides.{nat_tests}
use Rattle.std.proofs.lemmas.Cmp.{ranked}
use Rattle.std.proofs.lemmas.List.Folds.{list_any_at, list_any_none}

order_rises : (x y k : ℕ) → x ≤ y → ordering_index (nat_cmp x k) ≤ ordering_index (nat_cmp y k)
order_rises x y k le = grind (arith, nat_tests)

test_true : (x k : ℕ) → x ≡ k → (x == k) ≡ true
test_true x k e = grind (arith, nat_tests)

test_false : (x k : ℕ) → (x ≡ k → ⊥) → (x == k) ≡ false
test_false x k e = grind (arith, nat_tests)

-- a binary search finds a number exactly where it is there
pub search_has : (xs : List ℕ) (k : ℕ) (r : Result ℕ ℕ) → IsNonDecreasingBy (λ n. n) xs → IsSearchInRange r (length xs) →
    IsBinarySearchResult (λ x. nat_cmp x k) xs r → is_ok r ≡ has xs k
search_has xs k (Ok at) rises within found =
    sym (elim (cases_lt at (length xs)) [
      | inl lt ↦ by_item xs lt found
      | inr ge ↦ absurd (omega arith)
    ])
  where
    by_item : (ys : List ℕ) → at < length ys → ((d : ℕ) → nat_cmp (get_or ys at d) k ≡ Equal) → list_any (λ x. x == k) ys ≡ true
    by_item [] lt equal = absurd (omega arith)
    by_item (y ∷ ys) lt equal =
        list_any_at (λ x. x == k) (y ∷ ys) at y lt (test_true _ k (ranked _ k _ (sym (equal y))))
search_has xs k (Err at) rises within parted = sym (list_any_none (λ x. x == k) xs other)
  where
    order : IsNonDecreasingBy (λ x. ordering_index (nat_cmp x k)) xs
    order i j d le lt = order_rises _ _ k (rises i j d le lt)

    differ : (i : ℕ) (d : ℕ) → i < length xs → get_or xs i d ≡ k → ⊥
    differ i d lt same = elim (cases_lt i at) [
      | inl less ↦ let before : get_or xs i d < k = ranked _ k _ (sym ((parted order).0 i d (omega arith) less)) in omega arith
      | inr past ↦ let behind : k < get_or xs i d = ranked _ k _ (sym ((parted order).1 i d past lt)) in omega arith
    ]

    other : All (λ x. (x == k) ≡ false) xs
    other i d lt = test_false (get_or xs i d) k (differ i d lt)

-- What a binary search says of the tests of definitions.
use Rattle.std.proofs.Common.{◌≡◌, ℕ, ◌<◌, ◌≤◌, ◌==◌, true, false, List, [], ◌∷◌, length, get_or, All, Result, Ok, Err, is_ok, sym, ap, inl, inr, arith}
use Rattle.std.specs.List.{list_any}
use Rattle.std.specs.List.Sorted.{IsNonDecreasingBy, IsStrictlyIncreasing, IsBinarySearchResult, IsSearchInRange}
use Rattle.std.specs.declared.cmp.Ordering.TheVariants.{Equal}
use Rattle.std.specs.Ordering.{nat_cmp, ordering_index}
use Rattle.std.proofs.lemmas.Bool.{cases_lt}
use Rattle.std.proofs.lemmas.Bool.Decides.{nat_tests}
use Rattle.std.proofs.lemmas.Cmp.{ranked}
use Rattle.std.proofs.lemmas.List.Folds.{list_any_at, list_any_none}
use Rattle.std.proofs.lemmas.List.Kept.{AllPairs-from_increasing}

order_rises : (x y k : ℕ) → x ≤ y → ordering_index (nat_cmp x k) ≤ ordering_index (nat_cmp y k)
order_rises x y k le = grind (arith, nat_tests)

test_true : (x k : ℕ) → x ≡ k → (x == k) ≡ true
test_true x k e = grind (arith, nat_tests)

test_false : (x k : ℕ) → (x ≡ k → ⊥) → (x == k) ≡ false
test_false x k e = grind (arith, nat_tests)

-- a binary search by a key finds an element exactly where one has the key
pub search_by_key : {X : Type 0} (key : X → ℕ) (xs : List X) (k : ℕ) (r : Result ℕ ℕ) → IsNonDecreasingBy key xs → IsSearchInRange r (length xs) →
    IsBinarySearchResult (λ x. nat_cmp (key x) k) xs r → is_ok r ≡ list_any (λ x. key x == k) xs
search_by_key {X} key xs k (Ok at) rises within found =
    sym (elim (cases_lt at (length xs)) [
      | inl lt ↦ by_item xs lt found
      | inr ge ↦ absurd (omega arith)
    ])
  where
    by_item : (ys : List X) → at < length ys → ((d : X) → nat_cmp (key (get_or ys at d)) k ≡ Equal) → list_any (λ x. key x == k) ys ≡ true
    by_item [] lt equal = absurd (omega arith)
    by_item (y ∷ ys) lt equal =
        list_any_at (λ x. key x == k) (y ∷ ys) at y lt (test_true _ k (ranked _ k _ (sym (equal y))))
search_by_key {X} key xs k (Err at) rises within parted = sym (list_any_none (λ x. key x == k) xs other)
  where
    order : IsNonDecreasingBy (λ x. ordering_index (nat_cmp (key x) k)) xs
    order i j d le lt = order_rises _ _ k (rises i j d le lt)

    differ : (i : ℕ) (d : X) → i < length xs → key (get_or xs i d) ≡ k → ⊥
    differ i d lt same = elim (cases_lt i at) [
      | inl less ↦ let before : key (get_or xs i d) < k = ranked _ k _ (sym ((parted order).0 i d (omega arith) less)) in omega arith
      | inr past ↦ let behind : k < key (get_or xs i d) = ranked _ k _ (sym ((parted order).1 i d past lt)) in omega arith
    ]

    other : All (λ x. (key x == k) ≡ false) xs
    other i d lt = test_false (key (get_or xs i d)) k (differ i d lt)

-- numbers that ascend do not fall
pub never_fall : (ns : List ℕ) → IsStrictlyIncreasing ns → IsNonDecreasingBy (λ n. n) ns
never_fall ns rises i j d le lt = elim (cases_lt i j) [
  | inl before ↦ let order : get_or ns i d < get_or ns j d = AllPairs-from_increasing ns rises i j d before lt in omega arith
  | inr same ↦ let at : i ≡ j = omega arith in let equal = ap (λ k. get_or ns k d) at in omega (arith, equal)
]

-- Numbers that ascend.
use Rattle.std.proofs.Common.{All, ◌≡◌, ℕ, ◌<◌, ◌≤◌, ◌==◌, ◌||◌, Bool, true, false, cond, List, [], ◌∷◌, length, get_or, refl, sym, ap, ◌∙◌, arith, not, nat_lt, filter, suc, zero, AllPairs, add-one}
use Rattle.std.specs.List.{insert, remove}
use Rattle.std.specs.List.Sorted.{IsStrictlyIncreasing}
use Rattle.std.proofs.lemmas.Bool.Decides.{nat_tests}
use Rattle.std.proofs.lemmas.List.Kept.{AllPairs-from_increasing}
use Rattle.tetri_base.specs.Lists.{Ascends, Each, has}
use Rattle.tetri_base.proofs.ListLaws.{Each-get, Each-map}
use Rattle.tetri_state.specs.Begin.{put_number, without}

-- a fact of each element, by its place
pub all_each : {X : Type 0} (P : X → Type 0) (xs : List X) → Each P xs → All P xs
all_each P xs each = λ k d lt. Each-get P xs k d each lt

pub each_from : {X : Type 0} (P : X → Type 0) (xs : List X) → ((k : ℕ) (d : X) → k < length xs → P (get_or xs k d)) → Each P xs
each_from P [] all = tt
each_from P (x ∷ xs) all = (all 0 x (omega arith), each_from P xs (λ k d lt. all (suc k) d (omega arith)))

ascend_pairs : (ns : List ℕ) → AllPairs (λ m n. m < n) ns → Ascends ns
ascend_pairs [] pairs = tt
ascend_pairs (n ∷ ns) pairs = (
  each_from (λ m. n < m) ns (λ k d lt. pairs 0 (suc k) d (omega arith) (omega arith)),
  ascend_pairs ns (λ i j d before lt. pairs (suc i) (suc j) d (omega arith) (omega arith)),
)

pub ascend_from : (ns : List ℕ) → IsStrictlyIncreasing ns → Ascends ns
ascend_from ns rises = ascend_pairs ns (AllPairs-from_increasing ns rises)

next_above : (ns : List ℕ) (k : ℕ) → Ascends ns → suc k < length ns → get_or ns k 0 < get_or ns (suc k) 0
next_above [] k up lt = absurd (omega arith)
next_above (n ∷ ns) zero up lt = Each-get (λ m. n < m) ns 0 0 up.0 (omega arith)
next_above (n ∷ ns) (suc k) up lt = next_above ns k up.1 (omega arith)

pub ascend_to : (ns : List ℕ) → Ascends ns → IsStrictlyIncreasing ns
ascend_to ns up k lt = rw add-one (next_above ns k up (omega arith))

other_kept : (m n : ℕ) (ms : List ℕ) → n < m → cond (not (m == n)) (m ∷ ms) ms ≡ m ∷ ms
other_kept m n ms lt = by_test (m == n) refl
  where
    by_test : (t : Bool) → (m == n) ≡ t → cond (not t) (m ∷ ms) ms ≡ m ∷ ms
    by_test true same = let no_way : ⊥ = grind (arith, nat_tests) in absurd no_way
    by_test false differ = refl

without_above : (n : ℕ) (ns : List ℕ) → Each (λ m. n < m) ns → without n ns ≡ ns
without_above n [] above = refl
without_above n (m ∷ ns) above = other_kept m n (without n ns) above.0 ∙ ap (λ ms. m ∷ ms) (without_above n ns above.1)

lesser_kept : (m n : ℕ) (ms : List ℕ) → m < n → cond (not (m == n)) (m ∷ ms) ms ≡ m ∷ ms
lesser_kept m n ms lt = by_test (m == n) refl
  where
    by_test : (t : Bool) → (m == n) ≡ t → cond (not t) (m ∷ ms) ms ≡ m ∷ ms
    by_test true same = let no_way : ⊥ = grind (arith, nat_tests) in absurd no_way
    by_test false differ = refl

itself_dropped : (n : ℕ) (ms : List ℕ) → cond (not (n == n)) (n ∷ ms) ms ≡ ms
itself_dropped n ms = by_test (n == n) refl
  where
    by_test : (t : Bool) → (n == n) ≡ t → cond (not t) (n ∷ ms) ms ≡ ms
    by_test true same = refl
    by_test false differ = let no_way : ⊥ = grind (arith, nat_tests) in absurd no_way

-- to remove the number at a place is to leave it out
pub remove_is : (ns : List ℕ) (i : ℕ) (d : ℕ) → Ascends ns → i < length ns → remove ns i ≡ without (get_or ns i d) ns
remove_is [] i d up lt = absurd (omega arith)
remove_is (n ∷ ns) zero d up lt = sym (itself_dropped n (without n ns) ∙ without_above n ns up.0)
remove_is (n ∷ ns) (suc i) d up lt =
    ap (λ ms. n ∷ ms) (remove_is ns i d up.1 (omega arith))
    ∙ sym (lesser_kept n (get_or ns i d) (without (get_or ns i d) ns) (Each-get (λ m. n < m) ns i d up.0 (omega arith)))

-- what is not there cannot be left out
pub without_absent : (n : ℕ) (ns : List ℕ) → has ns n ≡ false → without n ns ≡ ns
without_absent n [] absent = refl
without_absent n (m ∷ ns) absent = by_test (m == n) absent (without_absent n ns)
  where
    by_test : (t : Bool) → (t || has ns n) ≡ false → (has ns n ≡ false → without n ns ≡ ns) → cond (not t) (m ∷ without n ns) (without n ns) ≡ m ∷ ns
    by_test true none rest = absurd cc
    by_test false none rest = ap (λ ms. m ∷ ms) (rest none)

-- to put a number among those that ascend
module _ (n : ℕ) where
  behind_less : (m : ℕ) (front there new : List ℕ) → m < n → cond (nat_lt m n) front (cond (m == n) there new) ≡ front
  behind_less m front there new lt = grind (arith, nat_tests)

  at_same : (m : ℕ) (front there new : List ℕ) → m ≡ n → cond (nat_lt m n) front (cond (m == n) there new) ≡ there
  at_same m front there new same = grind (arith, nat_tests)

  before_more : (m : ℕ) (front there new : List ℕ) → n < m → cond (nat_lt m n) front (cond (m == n) there new) ≡ new
  before_more m front there new more = grind (arith, nat_tests)

  -- it goes between those below it and those above it
  pub put_at : (ns : List ℕ) (i : ℕ) → i ≤ length ns → ((k : ℕ) → k < i → get_or ns k 0 < n) → ((k : ℕ) → i ≤ k → k < length ns → n < get_or ns k 0) →
      insert ns i n ≡ put_number n ns
  put_at [] zero le below above = refl
  put_at [] (suc i) le below above = absurd (omega arith)
  put_at (m ∷ ms) zero le below above = sym (before_more m (m ∷ put_number n ms) (m ∷ ms) (n ∷ m ∷ ms) (above 0 (omega arith) (omega arith)))
  put_at (m ∷ ms) (suc i) le below above =
      ap (λ ks. m ∷ ks) (put_at ms i (omega arith) (λ k lt. below (suc k) (omega arith)) (λ k from lt. above (suc k) (omega arith) (omega arith)))
      ∙ sym (behind_less m (m ∷ put_number n ms) (m ∷ ms) (n ∷ m ∷ ms) (below 0 (omega arith)))

  -- where it is there, nothing changes
  pub put_there : (ns : List ℕ) (i : ℕ) → Ascends ns → i < length ns → get_or ns i 0 ≡ n → put_number n ns ≡ ns
  put_there [] i up lt same = absurd (omega arith)
  put_there (m ∷ ms) zero up lt same = at_same m (m ∷ put_number n ms) (m ∷ ms) (n ∷ m ∷ ms) same
  put_there (m ∷ ms) (suc i) up lt same =
      behind_less m (m ∷ put_number n ms) (m ∷ ms) (n ∷ m ∷ ms) (omega (arith, Each-get (λ k. m < k) ms i 0 up.0 (omega arith), same))
      ∙ ap (λ ks. m ∷ ks) (put_there ms i up.1 (omega arith) same)

  pub put_each : (P : ℕ → Type 0) (ns : List ℕ) → P n → Each P ns → Each P (put_number n ns)
  put_each P [] here each = (here, tt)
  put_each P (m ∷ ms) here each = by_tests (nat_lt m n) (m == n) (put_each P ms here each.1)
    where
      by_tests : (s t : Bool) → Each P (put_number n ms) → Each P (cond s (m ∷ put_number n ms) (cond t (m ∷ ms) (n ∷ m ∷ ms)))
      by_tests true t rest = (each.0, rest)
      by_tests false true rest = each
      by_tests false false rest = (here, each)

  pub put-ascend : (ns : List ℕ) → Ascends ns → Ascends (put_number n ns)
  put-ascend [] up = (tt, tt)
  put-ascend (m ∷ ms) up = by_tests (nat_lt m n) (m == n) refl refl (put-ascend ms up.1)
    where
      by_tests : (s t : Bool) → nat_lt m n ≡ s → (m == n) ≡ t → Ascends (put_number n ms) → Ascends (cond s (m ∷ put_number n ms) (cond t (m ∷ ms) (n ∷ m ∷ ms)))
      by_tests true t less same rest = let lt : m < n = grind (arith, nat_tests) in (put_each (λ k. m < k) ms lt up.0, rest)
      by_tests false true less same rest = up
      by_tests false false less same rest = let lt : n < m = grind (arith, nat_tests) in ((lt, Each-map (λ k. m < k) (λ k. n < k) (λ k more. omega arith) ms up.0), up)

-- of elements that pass a test
pub each_passing : {X : Type 0} (test : X → Bool) (P Q : X → Type 0) → ((x : X) → P x → test x ≡ true → Q x) → (xs : List X) → Each P xs → Each Q (filter test xs)
each_passing test P Q step [] each = tt
each_passing test P Q step (x ∷ xs) each = by_test (test x) refl (each_passing test P Q step xs each.1)
  where
    by_test : (b : Bool) → test x ≡ b → Each Q (filter test xs) → Each Q (cond b (x ∷ filter test xs) (filter test xs))
    by_test true passes rest = (step x each.0 passes, rest)
    by_test false fails rest = rest

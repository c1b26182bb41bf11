-- The leaf that a job offers under a number.
use Rattle.std.proofs.Common.{◌≡◌, ◌≢◌, ℕ, ◌<◌, List, [], ◌∷◌, length, get_or, All, AllPairs, Contains, Bool, true, false, cond, ◌==◌, Option, Some, refl, sym, ap, ◌∙◌, subst, arith, inl, inr, ◌⊎◌, zero, suc}
use Rattle.std.specs.List.{find}
use Rattle.std.specs.Option.{option_and_then}
use Rattle.std.proofs.lemmas.Bool.Decides.{nat_tests}
use Rattle.std.proofs.lemmas.Option.{option_and_then_some}
use Rattle.std.proofs.lemmas.List.Elements.{All-contains}
use Rattle.tetri_strl.specs.declared.expr.Leaf.{Leaf}
use Rattle.tetri_strl.specs.Tree.{leaves}
use Rattle.tetri_strl.proofs.ExprLaws.{eq_from_test}
use Rattle.tetri_space.specs.Space.{Bid, Space, leaf_in}
use Rattle.tetri_space.specs.Sound.{IsSoundBid, IsSound}

same_test : (x : ℕ) → (x == x) ≡ true
same_test x = grind (arith, nat_tests)

-- an element of a list is its first or stands further on
Contains-cases : {X : Type 0} (y : X) (ys : List X) (x : X) → Contains (y ∷ ys) x → (y ≡ x) ⊎ Contains ys x
Contains-cases y ys x p = by_place p.0 p.1 p.2
  where
    by_place : (k : ℕ) → k < suc (length ys) → get_or (y ∷ ys) k x ≡ x → (y ≡ x) ⊎ Contains ys x
    by_place zero lt is = inl is
    by_place (suc k) lt is = inr (k, omega arith, is)

Contains-head : {X : Type 0} (y : X) (ys : List X) → Contains (y ∷ ys) y
Contains-head y ys = (0, omega arith, refl)

Contains-tail : {X : Type 0} (y : X) (ys : List X) (x : X) → Contains ys x → Contains (y ∷ ys) x
Contains-tail y ys x p = (suc p.0, omega (arith, p.1), p.2)

module _ {X : Type 0} (key : X → ℕ) where
  abbrev DifferBy : X → X → Type 0
  DifferBy u v = key u ≢ key v

  AllPairs-tail : (x : X) (xs : List X) → AllPairs DifferBy (x ∷ xs) → AllPairs DifferBy xs
  AllPairs-tail x xs apart i j d lt within = apart (suc i) (suc j) d (omega arith) (omega arith)

  AllPairs-head : (x : X) (xs : List X) → AllPairs DifferBy (x ∷ xs) → All (DifferBy x) xs
  AllPairs-head x xs apart k d lt = apart 0 (suc k) d (omega arith) (omega arith)

  found_first : (y x : X) (o : Option X) → y ≡ x → cond (key y == key x) (Some y) o ≡ Some x
  found_first y x o e = ap (λ b. cond b (Some y) o) (ap (λ z. z == key x) (ap key e) ∙ same_test (key x)) ∙ ap Some e

  found_further : (y x : X) (o : Option X) → key y ≢ key x → o ≡ Some x → cond (key y == key x) (Some y) o ≡ Some x
  found_further y x o differ e =
      let test : (key y == key x) ≡ false = grind (arith, nat_tests) in
      ap (λ b. cond b (Some y) o) test ∙ e

  -- where no two elements have one key, an element is found by its own
  pub find-by_key : (xs : List X) (x : X) → AllPairs DifferBy xs → Contains xs x → find (λ y. key y == key x) xs ≡ Some x
  find-by_key [] x apart p = absurd (omega (arith, p.1))
  find-by_key (y ∷ ys) x apart p = elim (Contains-cases y ys x p) [
    | inl e ↦ found_first y x (find (λ z. key z == key x) ys) e
    | inr later ↦ found_further y x (find (λ z. key z == key x) ys) (All-contains (DifferBy y) ys x (AllPairs-head y ys apart) later)
        (find-by_key ys x (AllPairs-tail y ys apart) later)
  ]

-- what is found is in the list and passes the test
found_cases : {X : Type 0} (p : X → Bool) (y : X) (ys : List X) (x : X) → (find p ys ≡ Some x → Contains ys x × (p x ≡ true)) →
    (b : Bool) → p y ≡ b → cond b (Some y) (find p ys) ≡ Some x → Contains (y ∷ ys) x × (p x ≡ true)
found_cases p y ys x rest true test found =
    let same : y ≡ x = cc in (subst (Contains (y ∷ ys)) same (Contains-head y ys), ap p (sym same) ∙ test)
found_cases p y ys x rest false test found = (Contains-tail y ys x (rest found).0, (rest found).1)

pub find-within : {X : Type 0} (p : X → Bool) (xs : List X) (x : X) → find p xs ≡ Some x → Contains xs x × (p x ≡ true)
find-within p [] x found = absurd cc
find-within p (y ∷ ys) x found = found_cases p y ys x (find-within p ys x) (p y) refl found

-- a leaf of a pending job is found by the job's number and its own
pub leaf_in-found : (s : Space) (b : Bid) (l : Leaf) → IsSound s → Contains s.bids b → Contains (leaves b.expr) l →
    leaf_in s.bids b.job l.num ≡ Some l
leaf_in-found s b l sound pending below =
    let apart : AllPairs (DifferBy (λ (c : Bid). c.job)) s.bids = λ i j d lt within. λ same. absurd (omega (arith, sound.ascending i j d lt within)) in
    let good : IsSoundBid s b = All-contains (IsSoundBid s) s.bids b sound.sound_bids pending in
    ap (option_and_then (λ (c : Bid). find (λ m. m.num == l.num) (leaves c.expr))) (find-by_key (λ (c : Bid). c.job) s.bids b apart pending)
    ∙ find-by_key (λ (m : Leaf). m.num) (leaves b.expr) l good.well_made.distinct below

-- the leaf is one of the bid's, and both have these numbers
pub record IsOffered (bids : List Bid) (job num : ℕ) (b : Bid) (l : Leaf) : Type 0 where
  pub pending : Contains bids b
  pub of_job : b.job ≡ job
  pub below : Contains (leaves b.expr) l
  pub numbered : l.num ≡ num

pub leaf_in-within : (bids : List Bid) (job num : ℕ) (l : Leaf) → leaf_in bids job num ≡ Some l → (b : Bid) × IsOffered bids job num b l
leaf_in-within bids job num l found =
    option_and_then_some (λ (b : Bid). find (λ m. m.num == num) (leaves b.expr)) (find (λ b. b.job == job) bids) l found
    (λ b bid_found leaf_found.
    let at_bid = find-within (λ (c : Bid). c.job == job) bids b bid_found in
    let at_leaf = find-within (λ (m : Leaf). m.num == num) (leaves b.expr) l leaf_found in (
      b,
      record {
        pending = at_bid.0;
        of_job = eq_from_test b.job job at_bid.1;
        below = at_leaf.0;
        numbered = eq_from_test l.num num at_leaf.1;
      },
    ))

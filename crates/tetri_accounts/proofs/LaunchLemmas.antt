-- Which jobs of an instance are launched.
use Rattle.std.proofs.Common.{◌≡◌, ℕ, ◌==◌, ◌&&◌, ◌||◌, Bool, true, false, cond, List, [], ◌∷◌, ◌++◌, map, filter, refl, sym, ap, ◌∙◌}
use Rattle.std.proofs.lemmas.Bool.{false≢true, or_right}
use Rattle.tetri_base.specs.Lists.{has, Each}
use Rattle.tetri_base.proofs.ListLaws.{Each-map, eq_from_test, test_from_eq}
use Rattle.tetri_space.specs.Space.{Bid}
use Rattle.tetri_space.proofs.InstanceLaws.{filter-same}

abbrev jobs_of : List Bid → List ℕ
jobs_of bs = map (λ b. b.job) bs

module _ (q : ℕ → Bool) where
  abbrev passing : List Bid → List Bid
  passing bs = filter (λ b. q b.job) bs

  -- a job is among those that pass where it is there and passes
  has_passing : (bs : List Bid) (j : ℕ) → has (jobs_of (passing bs)) j ≡ q j && has (jobs_of bs) j
  has_passing [] j = by_test (q j)
    where
      by_test : (c : Bool) → false ≡ c && false
      by_test true = refl
      by_test false = refl
  has_passing (b ∷ bs) j = by_tests (b.job == j) (q j) (q b.job) refl (λ is. ap q (eq_from_test b.job j is)) (has_passing bs j)
    where
      rest : List Bid
      rest = filter (λ d. q d.job) bs

      by_tests : (is at own : Bool) → (b.job == j) ≡ is → (is ≡ true → own ≡ at) → has (jobs_of rest) j ≡ at && has (jobs_of bs) j →
          has (jobs_of (cond own (b ∷ rest) rest)) j ≡ at && (is || has (jobs_of bs) j)
      by_tests true true true e same others = ap (λ c. c || has (jobs_of rest) j) e
      by_tests true true false e same others = absurd (false≢true (same refl))
      by_tests true false true e same others = absurd (false≢true (sym (same refl)))
      by_tests true false false e same others = others
      by_tests false at true e same others = ap (λ c. c || has (jobs_of rest) j) e ∙ others
      by_tests false at false e same others = others

  and_true : (c : Bool) → (c && true) ≡ c
  and_true true = refl
  and_true false = refl

  abbrev IsThere : List Bid → Bid → Type 0
  IsThere bs b = has (jobs_of bs) b.job ≡ true

  each_there : (bs : List Bid) → Each (IsThere bs) bs
  each_there [] = tt
  each_there (b ∷ bs) = (
    ap (λ c. c || has (jobs_of bs) b.job) (test_from_eq b.job b.job refl),
    Each-map (IsThere bs) (IsThere (b ∷ bs)) (λ x there. or_right (b.job == x.job) (has (jobs_of bs) x.job) there) bs (each_there bs),
  )

  -- each job that is there is among those that pass where it passes
  pub passing_same : (bs : List Bid) → filter (λ b. has (jobs_of (passing bs)) b.job) bs ≡ passing bs
  passing_same bs =
      filter-same (λ b. has (jobs_of (passing bs)) b.job) (λ b. q b.job) bs
      (Each-map (IsThere bs) (λ b. has (jobs_of (passing bs)) b.job ≡ q b.job)
      (λ x there. has_passing bs x.job ∙ ap (λ c. q x.job && c) there ∙ and_true (q x.job)) bs (each_there bs))

-- what passes of a first element and of the others
pub filter_first : {X : Type 0} (p : X → Bool) (x : X) (xs : List X) → filter p (x ∷ []) ++ filter p xs ≡ filter p (x ∷ xs)
filter_first p x xs = by_test (p x)
  where
    by_test : (b : Bool) → cond b (x ∷ []) [] ++ filter p xs ≡ cond b (x ∷ filter p xs) (filter p xs)
    by_test true = refl
    by_test false = refl

-- the same of what is told of it
pub told_first : {X Y : Type 0} (p : X → Bool) (f : X → Y) (x : X) (xs : List X) → map f (filter p (x ∷ [])) ++ map f (filter p xs) ≡ map f (filter p (x ∷ xs))
told_first p f x xs = by_test (p x)
  where
    by_test : (b : Bool) → map f (cond b (x ∷ []) []) ++ map f (filter p xs) ≡ map f (cond b (x ∷ filter p xs) (filter p xs))
    by_test true = refl
    by_test false = refl

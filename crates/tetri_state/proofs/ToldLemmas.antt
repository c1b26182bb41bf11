-- Pieces in order of job and leaf.
use Rattle.std.proofs.Common.{◌≡◌, ℕ, ◌+◌, ◌<◌, ◌≤◌, ◌==◌, ◌||◌, Bool, true, false, cond, List, [], ◌∷◌, length, get_or, refl, sym, ap, ◌∙◌, inl, inr, arith, nat_lt, not, drop, suc, zero, ◌++◌, append_assoc, get_or-drop, length-drop, All}
use Rattle.std.specs.List.Sorted.{IsNonDecreasingBy, IsPermutation}
use Rattle.std.specs.Ordering.{is_lt, nat_cmp, ordering_then}
use Rattle.std.proofs.lemmas.Bool.{cases_lt}
use Rattle.std.proofs.lemmas.Bool.Decides.{nat_tests}
use Rattle.std.proofs.lemmas.List.{get_or_default, drop_more}
use Rattle.std.proofs.lemmas.List.Folds.{list_any_at, list_any_none}
use Rattle.tetri_base.specs.Lists.{EachPair}
use Rattle.tetri_base.specs.Order.{in_order}
use Rattle.tetri_base.proofs.OrderLaws.{Each-in_order, in_order-rises as rises, IsOrder, NotAfter, order_by, order_then, sorted_is, sum_of-in_order}
use Rattle.tetri_base.proofs.ListLaws.{Each-get}
use Rattle.tetri_state.specs.declared.happened.PieceId.{PieceId}
use Rattle.tetri_state.specs.Begin.{comes_before, finished, runs}
use Rattle.tetri_state.proofs.Ascending.{all_each, each_from}

-- what is true of pieces in some order is true of them in theirs
pub all_in_order : (P : PieceId → Type 0) (ids : List PieceId) → All P ids → All P (in_order comes_before ids)
all_in_order P ids all = all_each P (in_order comes_before ids) (Each-in_order comes_before P ids (each_from P ids all))

order : IsOrder comes_before
order = order_then (λ (a : PieceId). a.job) (λ a b. nat_lt a.leaf b.leaf) (order_by (λ (a : PieceId). a.leaf))

job_rises : (a b : PieceId) → NotAfter comes_before a b → a.job ≤ b.job
job_rises a b p = grind (arith, nat_tests)

same_job : (a b : PieceId) → NotAfter comes_before a b → NotAfter comes_before b a → a.job ≡ b.job
same_job a b p q = grind (arith, nat_tests)

same_leaf : (a b : PieceId) → NotAfter comes_before a b → NotAfter comes_before b a → a.leaf ≡ b.leaf
same_leaf a b p q = grind (arith, nat_tests)

same_id : (a b : PieceId) → NotAfter comes_before a b → NotAfter comes_before b a → a ≡ b
same_id a b p q =
    let made : ℕ → ℕ → PieceId = λ j l. record { job = j; leaf = l } in
    ap (λ j. made j a.leaf) (same_job a b p q) ∙ ap (λ l. made b.job l) (same_leaf a b p q)

-- what a sort leaves
abbrev sorted_test : PieceId → PieceId → Bool
sorted_test a b = is_lt (ordering_then (nat_cmp a.job b.job) (nat_cmp a.leaf b.leaf))

same_test : (a b : PieceId) → sorted_test a b ≡ comes_before a b
same_test a b = grind (arith, nat_tests)

pub sorted_in_order : (xs ys : List PieceId) → IsPermutation xs ys →
    ((k : ℕ) (d : PieceId) → 0 ≤ k → k + 1 < length ys → sorted_test (get_or ys (k + 1) d) (get_or ys k d) ≡ false) → ys ≡ in_order comes_before xs
sorted_in_order xs ys moved sorts =
    sorted_is comes_before order same_id xs ys (in_order comes_before xs) moved
    (λ k d low lt. sym (same_test (get_or ys (k + 1) d) (get_or ys k d)) ∙ sorts k d low lt) (rises comes_before order xs)
    (λ f. sym (sum_of-in_order comes_before f xs))

-- the jobs do not fall
jobs_rise : (xs : List PieceId) → EachPair (NotAfter comes_before) xs → IsNonDecreasingBy (λ a. a.job) xs
jobs_rise [] ordered i j d le lt = absurd (omega arith)
jobs_rise (x ∷ xs) ordered zero zero d le lt = omega arith
jobs_rise (x ∷ xs) ordered zero (suc j) d le lt = job_rises x (get_or xs j d) (Each-get (NotAfter comes_before x) xs j d ordered.0 (omega arith))
jobs_rise (x ∷ xs) ordered (suc i) zero d le lt = absurd (omega arith)
jobs_rise (x ∷ xs) ordered (suc i) (suc j) d le lt = jobs_rise xs ordered.1 i j d (omega arith) (omega arith)

pub in_order-rises : (ids : List PieceId) → IsNonDecreasingBy (λ a. a.job) (in_order comes_before ids)
in_order-rises ids = jobs_rise (in_order comes_before ids) (rises comes_before order ids)

-- where the jobs do not fall, no later piece is of the same job exactly where the next is of a greater one
module _ (ids : List PieceId) (i : ℕ) (d e : PieceId) (up : IsNonDecreasingBy (λ (a : PieceId). a.job) ids) (lt : i + 1 < length ids) where
  abbrev job : ℕ
  job = (get_or ids i d).job

  same_here : (get_or ids i e).job ≡ job
  same_here = ap (λ (a : PieceId). a.job) (get_or_default ids i e d (omega arith))

  less_tells : job < (get_or ids (i + 1) e).job → runs (drop (i + 1) ids) job ≡ false
  less_tells less = list_any_none (λ a. a.job == job) (drop (i + 1) ids) other
    where
      far : (x y z : ℕ) → x < y → y ≤ z → (z == x) ≡ false
      far x y z p q = grind (arith, nat_tests)

      other : All (λ a. (a.job == job) ≡ false) (drop (i + 1) ids)
      other k c within =
          let there : get_or (drop (i + 1) ids) k c ≡ get_or ids (i + 1 + k) c = get_or-drop (i + 1) ids k c in
          let inside : i + 1 + k < length ids = omega (arith, length-drop (i + 1) ids) in
          let next : (get_or ids (i + 1) e).job ≡ (get_or ids (i + 1) c).job = ap (λ (a : PieceId). a.job) (get_or_default ids (i + 1) e c lt) in
          far job (get_or ids (i + 1) e).job (get_or (drop (i + 1) ids) k c).job less
          (omega (arith, next, ap (λ (a : PieceId). a.job) there, up (i + 1) (i + 1 + k) c (omega arith) inside))

  same_tells : (get_or ids (i + 1) e).job ≡ job → runs (drop (i + 1) ids) job ≡ true
  same_tells same =
      list_any_at (λ a. a.job == job) (drop (i + 1) ids) 0 e (omega (arith, length-drop (i + 1) ids))
      (equal _ _ (ap (λ (a : PieceId). a.job) (get_or-drop (i + 1) ids 0 e ∙ ap (λ k. get_or ids k e) (omega arith)) ∙ same))
    where
      equal : (x y : ℕ) → x ≡ y → (x == y) ≡ true
      equal x y p = grind (arith, nat_tests)

  pub next_tells : nat_lt (get_or ids i e).job (get_or ids (i + 1) e).job ≡ not (runs (drop (i + 1) ids) job)
  next_tells = elim (cases_lt job (get_or ids (i + 1) e).job) [
    | inl less ↦ below _ _ (omega (arith, same_here)) ∙ ap not (sym (less_tells less))
    | inr past ↦
        let rise : (get_or ids i e).job ≤ (get_or ids (i + 1) e).job = up i (i + 1) e (omega arith) lt in
        not_below _ _ (omega (arith, same_here)) ∙ ap not (sym (same_tells (omega (arith, same_here))))
  ]
    where
      below : (x y : ℕ) → x < y → nat_lt x y ≡ true
      below x y p = grind (arith, nat_tests)

      not_below : (x y : ℕ) → y ≤ x → nat_lt x y ≡ false
      not_below x y p = grind (arith, nat_tests)

module _ (running ended : List PieceId) (i : ℕ) (d : PieceId) (lt : i < length ended) where
  abbrev a : PieceId
  a = get_or ended i d

  abbrev rest : List PieceId
  rest = drop (i + 1) ended

  next_finished : finished running (drop i ended) ≡ cond (runs rest a.job || runs running a.job) (finished running rest) (a.job ∷ finished running rest)
  next_finished = ap (finished running) (drop_more ended i d lt)

  -- a job that is finished is told
  pub finished_told : (jobs : List ℕ) → true ≡ not (runs rest a.job || runs running a.job) →
      (jobs ++ a.job ∷ []) ++ finished running rest ≡ jobs ++ finished running (drop i ended)
  finished_told jobs last =
      append_assoc jobs (a.job ∷ []) (finished running rest)
      ∙ ap (λ js. jobs ++ js) (by_test (runs rest a.job || runs running a.job) last ∙ sym next_finished)
    where
      by_test : (t : Bool) → true ≡ not t → a.job ∷ finished running rest ≡ cond t (finished running rest) (a.job ∷ finished running rest)
      by_test true more = absurd cc
      by_test false last = refl

  pub finished_passed : (jobs : List ℕ) → false ≡ not (runs rest a.job || runs running a.job) →
      jobs ++ finished running rest ≡ jobs ++ finished running (drop i ended)
  finished_passed jobs more = ap (λ js. jobs ++ js) (by_test (runs rest a.job || runs running a.job) more ∙ sym next_finished)
    where
      by_test : (t : Bool) → false ≡ not t → finished running rest ≡ cond t (finished running rest) (a.job ∷ finished running rest)
      by_test true more = refl
      by_test false last = absurd cc

-- A job's own items of a list that ascends by job, or that was put in this order.
use mathlib.Core.Path.{fun_ext}
use Rattle.std.proofs.Common.{◌≡◌, ℕ, zero, suc, ◌+◌, ◌<◌, ◌≤◌, ◌==◌, ◌&&◌, not, Bool, true, false, cond, List, [], ◌∷◌, length, get_or, take, drop, filter, refl, sym, ap, ◌∙◌, arith}
use Rattle.std.specs.Prelude.{nat_le, nat_lt}
use Rattle.std.specs.List.Sorted.{IsPartitionPoint, IsStableBy, ties}
use Rattle.std.specs.Ordering.{is_lt, nat_cmp}
use Rattle.std.proofs.lemmas.Bool.Decides.{nat_tests}
use Rattle.std.proofs.lemmas.List.{get_or-drop, length-drop}
use Rattle.tetri_space.specs.Space.{Bid}
use Rattle.tetri_state.specs.declared.pieces.Piece.{Piece}
use Rattle.tetri_strl.specs.Worth.{worth_of}
use Rattle.tetri_strl.specs.declared.grants.Grant.{Grant}
use Rattle.tetri_accounts.specs.Rows.{row_of}
use Rattle.tetri_accounts.proofs.WorthLemmas.{own_worth}

-- nothing passes before a place
none_before : {X : Type 0} (p : X → Bool) (xs : List X) (k : ℕ) → ((j : ℕ) (d : X) → j < k → p (get_or xs j d) ≡ false) → filter p xs ≡ filter p (drop k xs)
none_before p xs zero fails = refl
none_before p [] (suc k) fails = refl
none_before p (x ∷ xs) (suc k) fails =
    ap (λ b. cond b (x ∷ filter p xs) (filter p xs)) (fails 0 x (omega arith)) ∙ none_before p xs k (λ j d lt. fails (suc j) d (omega (arith, lt)))

-- all pass up to a place, and none from there on
all_before : {X : Type 0} (p : X → Bool) (xs : List X) (k : ℕ) → k ≤ length xs → ((j : ℕ) (d : X) → j < k → p (get_or xs j d) ≡ true) →
    ((j : ℕ) (d : X) → k ≤ j → j < length xs → p (get_or xs j d) ≡ false) → filter p xs ≡ take k xs
all_before p [] zero le passes fails = refl
all_before p [] (suc k) le passes fails = absurd (omega (arith, le))
all_before p (x ∷ xs) zero le passes fails =
    ap (λ b. cond b (x ∷ filter p xs) (filter p xs)) (fails 0 x (omega arith) (omega arith))
    ∙ all_before p xs zero (omega arith) (λ j d lt. absurd (omega (arith, lt))) (λ j d low lt. fails (suc j) d (omega arith) (omega (arith, lt)))
all_before p (x ∷ xs) (suc k) le passes fails =
    ap (λ b. cond b (x ∷ filter p xs) (filter p xs)) (passes 0 x (omega arith))
    ∙ ap (λ ys. x ∷ ys) (all_before p xs k (omega (arith, le)) (λ j d lt. passes (suc j) d (omega (arith, lt))) (λ j d low lt. fails (suc j) d (omega (arith, low)) (omega (arith, lt))))

less_unlike : (m n : ℕ) → nat_lt m n ≡ true → (m == n) ≡ false
less_unlike m n e = grind (arith, nat_tests)

same_between : (m n : ℕ) → nat_lt m n ≡ false → nat_le m n ≡ true → (m == n) ≡ true
same_between m n e f = grind (arith, nat_tests)

greater_unlike : (m n : ℕ) → nat_le m n ≡ false → (m == n) ≡ false
greater_unlike m n e = grind (arith, nat_tests)

module _ {X : Type 0} (n : X → ℕ) (job : ℕ) where
  -- what stands between the items of earlier jobs and those of later ones are the job's own
  pub own_between : (xs : List X) (before k : ℕ) → before ≤ length xs → k ≤ length (drop before xs) →
      IsPartitionPoint (λ y. nat_lt (n y) job ≡ true) (λ y. nat_lt (n y) job ≡ false) xs before →
      IsPartitionPoint (λ y. nat_le (n y) job ≡ true) (λ y. nat_le (n y) job ≡ false) (drop before xs) k →
      take k (drop before xs) ≡ filter (λ y. n y == job) xs
  own_between xs before k le few low high =
      sym (none_before (λ y. n y == job) xs before (λ j d lt. less_unlike (n (get_or xs j d)) job (low.0 j d (omega arith) lt))
      ∙ all_before (λ y. n y == job) (drop before xs) k few
      (λ j d lt. same_between (n (get_or (drop before xs) j d)) job (from_below j d (omega arith)) (high.0 j d (omega arith) lt))
      (λ j d from lt. greater_unlike (n (get_or (drop before xs) j d)) job (high.1 j d from lt)))
    where
      from_below : (j : ℕ) (d : X) → j < length (drop before xs) → nat_lt (n (get_or (drop before xs) j d)) job ≡ false
      from_below j d lt =
          ap (λ y. nat_lt (n y) job) (get_or-drop before xs j d)
          ∙ low.1 (before + j) d (omega arith) (omega (arith, length-drop before xs, lt))

-- the items of one job tie
tied : (m n : ℕ) → (not (is_lt (nat_cmp m n)) && not (is_lt (nat_cmp n m))) ≡ (n == m)
tied m n = grind (arith, nat_tests)

-- a stable sort by job keeps the order of each job's own
pub own_stably : {X : Type 0} (n : X → ℕ) (x : X) (xs ys : List X) → IsStableBy (λ y z. is_lt (nat_cmp (n y) (n z))) xs ys →
    filter (λ y. n y == n x) ys ≡ filter (λ y. n y == n x) xs
own_stably n x xs ys stable =
    let same : ties (λ y z. is_lt (nat_cmp (n y) (n z))) x ≡ (λ y. n y == n x) = fun_ext (λ y. tied (n x) (n y)) in
    ap (λ p. filter p ys) (sym same) ∙ stable x ∙ ap (λ p. filter p xs) same

-- grants and pieces give the same launch in whatever order they stand, as long as each job's own are the same
pub row_same : (gs hs : List Grant) (ps qs : List Piece) (now : ℕ) → ((job : ℕ) → filter (λ g. g.job == job) gs ≡ filter (λ g. g.job == job) hs) →
    ((job : ℕ) → filter (λ p. p.job == job) ps ≡ filter (λ p. p.job == job) qs) → row_of gs ps now ≡ row_of hs qs now
row_same gs hs ps qs now grants pieces = fun_ext (λ (b : Bid). one b)
  where
    worth : (b : Bid) → worth_of gs b.job b.expr ≡ worth_of hs b.job b.expr
    worth b = sym (own_worth gs b.job b.expr) ∙ ap (λ own. worth_of own b.job b.expr) (grants b.job) ∙ own_worth hs b.job b.expr

    one : (b : Bid) → row_of gs ps now b ≡ row_of hs qs now b
    one b =
        ap (λ w. record (row_of gs ps now b) { worth = w }) (worth b)
        ∙ ap (λ own. record (row_of hs qs now b) { pieces = own }) (pieces b.job)

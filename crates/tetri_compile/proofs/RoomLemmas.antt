-- Counts of the slots from which nodes are free.
use Rattle.std.proofs.Common.{◌≡◌, ℕ, zero, suc, ◌+◌, ◌<◌, ◌≤◌, Bool, true, false, List, [], ◌∷◌, ◌++◌, length, get_or, Vec, Global, refl, sym, ap, ◌∙◌, subst, arith, below_more}
use Rattle.tetri_base.specs.Lists.{bit, count, list_at}
use Rattle.tetri_base.proofs.ListLaws.{sum_of-append}

-- as many items pass as stand before the first that fails, where none passes after it
pub count_point : {X : Type 0} (p : X → Bool) (xs : List X) (k : ℕ) → k ≤ length xs →
    ((j : ℕ) (d : X) → j < k → p (get_or xs j d) ≡ true) → ((j : ℕ) (d : X) → k ≤ j → j < length xs → p (get_or xs j d) ≡ false) → count p xs ≡ k
count_point p [] zero le passes fails = refl
count_point p [] (suc k) le passes fails = absurd (omega (arith, le))
count_point p (x ∷ xs) zero le passes fails =
    let here : bit (p x) ≡ 0 = ap bit (fails 0 x (omega arith) (omega arith)) in
    omega (arith, here, count_point p xs zero (omega arith) (λ j d lt. absurd (omega (arith, lt))) (λ j d low high. fails (suc j) d (omega arith) (omega (arith, high))))
count_point p (x ∷ xs) (suc k) le passes fails =
    let here : bit (p x) ≡ 1 = ap bit (passes 0 x (omega arith)) in
    omega (arith, here, count_point p xs k (omega (arith, le)) (λ j d lt. passes (suc j) d (omega (arith, lt))) (λ j d low high. fails (suc j) d (omega (arith, low)) (omega (arith, high))))

-- a slot more
pub count_last : (p : ℕ → Bool) (xs : List ℕ) (x : ℕ) → count p (xs ++ x ∷ []) ≡ count p xs + bit (p x)
count_last p xs x = let e = sum_of-append (λ y. bit (p y)) xs (x ∷ []) in omega (arith, e)

-- a node more: as many slots are counted as nodes
pub count_step : (slots new nodes rest node slot all : ℕ) → slots + nodes ≡ all → nodes ≡ node + rest → node ≡ slot → new ≡ slots + slot → new + rest ≡ all
count_step slots new nodes rest node slot all h next same grown = omega arith

-- ---- the list of a partition more
pub last_list : (vs : List (Vec ℕ Global)) (v : Vec ℕ Global) → list_at (vs ++ v ∷ []) (length vs) ≡ v.items
last_list [] v = refl
last_list (w ∷ vs) v = last_list vs v

pub before_last : (vs : List (Vec ℕ Global)) (v : Vec ℕ Global) (k : ℕ) → k < length vs → list_at (vs ++ v ∷ []) k ≡ list_at vs k
before_last [] v k lt = absurd (omega (arith, lt))
before_last (w ∷ vs) v zero lt = refl
before_last (w ∷ vs) v (suc k) lt = before_last vs v k (omega (arith, lt))

-- what holds of each list, and of one more
pub each_list : (P : ℕ → List ℕ → Type 0) (vs new : List (Vec ℕ Global)) (v : Vec ℕ Global) (n : ℕ) → length vs ≡ n → new ≡ vs ++ v ∷ [] →
    ((p : ℕ) → p < n → P p (list_at vs p)) → P n v.items → (p : ℕ) → p < n + 1 → P p (list_at new p)
each_list P vs new v n many grown before last =
    below_more (λ p. P p (list_at new p)) n
    (λ p lt. subst (P p) (sym (before_last vs v p (omega (arith, lt, many))) ∙ ap (λ zs. list_at zs p) (sym grown)) (before p lt))
    (subst (P n) (sym (last_list vs v) ∙ ap (λ k. list_at (vs ++ v ∷ []) k) many ∙ ap (λ zs. list_at zs n) (sym grown)) last)

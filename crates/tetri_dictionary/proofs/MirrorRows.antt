-- The width less a row, and the rows of variables, under a pivot.
use Rattle.std.proofs.Common.{◌≡◌, ℕ, ◌+◌, ◌<◌, refl, sym, ap, ◌∙◌, arith, List, [], ◌∷◌, length, get_or, set, map, cond, eqb}
use Prim.Native.Nat.{zero, suc}
use Rattle.std.proofs.lemmas.Bool.{eq-eqb}
use Rattle.std.proofs.lemmas.List.{length-map, map-set, set-get_or}
use lib.IntN.{ℤ, pos, negsuc}
use Rattle.tetri_algebra.specs.Rational.{ℚ, whole_ℚ}
use Rattle.tetri_algebra.specs.RationalReciprocal.{recip_ℚ, *ℚ-recip}
use Rattle.tetri_algebra.specs.RationalRing.{ℚ_ring, ◌+ℚ◌, ◌*ℚ◌, neg_ℚ, zero_ℚ, one_ℚ}
use Rattle.tetri_algebra.specs.RingSolver.{var, num, nil, unit, minus, ring, ◌⊕◌, ◌⊗◌}
use Rattle.tetri_rows.specs.Rows.{plus_multiple, put_in, minus_quotients, solved_for}
use Rattle.tetri_dictionary.specs.Mirrors.{mirror, one_at, variable_row}
use Rattle.tetri_dictionary.proofs.PivotKeeps.{other}

-- ---- numbers
pub neg_zero : neg_ℚ zero_ℚ ≡ zero_ℚ
neg_zero = ring ℚ_ring [] (minus nil) nil refl

neg_neg : (x : ℚ) → neg_ℚ (neg_ℚ x) ≡ x
neg_neg x = ring ℚ_ring (x ∷ []) (minus (minus (var 0))) (var 0) refl

-- ---- a mirror of a mirror
each_neg_neg : (xs : List ℚ) → map neg_ℚ (map neg_ℚ xs) ≡ xs
each_neg_neg [] = refl
each_neg_neg (x ∷ xs) = ap (λ y. y ∷ map neg_ℚ (map neg_ℚ xs)) (neg_neg x) ∙ ap (λ ys. x ∷ ys) (each_neg_neg xs)

pub mirror-mirror : (w : ℤ) (xs : List ℚ) → mirror w (mirror w xs) ≡ xs
mirror-mirror w [] = refl
mirror-mirror w (c ∷ more) =
    ap (λ y. y ∷ map neg_ℚ (map neg_ℚ more)) (ring ℚ_ring (whole_ℚ w ∷ c ∷ []) (var 0 ⊕ minus (var 0 ⊕ minus (var 1))) (var 1) refl)
    ∙ ap (λ ys. c ∷ ys) (each_neg_neg more)

-- ---- its numbers
pub length-mirror : (w : ℤ) (xs : List ℚ) → length (mirror w xs) ≡ length xs
length-mirror w [] = refl
length-mirror w (c ∷ more) = ap suc (length-map more neg_ℚ)

get-neg : (xs : List ℚ) (k : ℕ) → get_or (map neg_ℚ xs) k zero_ℚ ≡ neg_ℚ (get_or xs k zero_ℚ)
get-neg [] k = sym neg_zero
get-neg (x ∷ xs) zero = refl
get-neg (x ∷ xs) (suc k) = get-neg xs k

pub coefficient-mirror : (w : ℤ) (xs : List ℚ) (k : ℕ) → get_or (mirror w xs) (suc k) zero_ℚ ≡ neg_ℚ (get_or xs (suc k) zero_ℚ)
coefficient-mirror w [] k = sym neg_zero
coefficient-mirror w (c ∷ more) k = get-neg more k

-- ---- a row put into a mirror
plus_multiple-neg : (a : ℚ) (xs ys : List ℚ) → plus_multiple (neg_ℚ a) (map neg_ℚ xs) ys ≡ map neg_ℚ (plus_multiple a xs ys)
plus_multiple-neg a [] ys = refl
plus_multiple-neg a (x ∷ xs) [] = refl
plus_multiple-neg a (x ∷ xs) (y ∷ ys) =
    ap (λ z. z ∷ plus_multiple (neg_ℚ a) (map neg_ℚ xs) ys) (ring ℚ_ring (x ∷ a ∷ y ∷ []) (minus (var 0) ⊕ minus (var 1) ⊗ var 2) (minus (var 0 ⊕ var 1 ⊗ var 2)) refl)
    ∙ ap (λ zs. neg_ℚ (x +ℚ a *ℚ y) ∷ zs) (plus_multiple-neg a xs ys)

plus_multiple-mirror : (w : ℤ) (a c : ℚ) (xs ys : List ℚ) → plus_multiple (neg_ℚ a) (mirror w (c ∷ xs)) ys ≡ mirror w (plus_multiple a (c ∷ xs) ys)
plus_multiple-mirror w a c xs [] = refl
plus_multiple-mirror w a c xs (y ∷ ys) =
    ap (λ z. z ∷ plus_multiple (neg_ℚ a) (map neg_ℚ xs) ys) (ring ℚ_ring (whole_ℚ w ∷ c ∷ a ∷ y ∷ []) ((var 0 ⊕ minus (var 1)) ⊕ minus (var 2) ⊗ var 3) (var 0 ⊕ minus (var 1 ⊕ var 2 ⊗ var 3)) refl)
    ∙ ap (λ zs. (whole_ℚ w +ℚ neg_ℚ (c +ℚ a *ℚ y)) ∷ zs) (plus_multiple-neg a xs ys)

set-mirror : (w : ℤ) (c : ℚ) (more : List ℚ) (j : ℕ) → set (mirror w (c ∷ more)) (suc j) zero_ℚ ≡ mirror w (c ∷ set more j zero_ℚ)
set-mirror w c more j = ap (λ z. (whole_ℚ w +ℚ neg_ℚ c) ∷ set (map neg_ℚ more) j z) (sym neg_zero) ∙ ap (λ zs. (whole_ℚ w +ℚ neg_ℚ c) ∷ zs) (sym (map-set neg_ℚ more j zero_ℚ))

pub put_in-mirror : (w : ℤ) (j : ℕ) (ys xs : List ℚ) → put_in (suc j) ys (mirror w xs) ≡ mirror w (put_in (suc j) ys xs)
put_in-mirror w j ys [] = refl
put_in-mirror w j ys (c ∷ more) =
    ap (λ a. plus_multiple a (set (mirror w (c ∷ more)) (suc j) zero_ℚ) ys) (coefficient-mirror w (c ∷ more) j)
    ∙ ap (λ zs. plus_multiple (neg_ℚ (get_or more j zero_ℚ)) zs ys) (set-mirror w c more j)
    ∙ plus_multiple-mirror w (get_or more j zero_ℚ) c (set more j zero_ℚ) ys

-- ---- the row of a variable
pub length-one_at : (p k n : ℕ) → length (one_at p k n) ≡ n
length-one_at p k zero = refl
length-one_at p k (suc n) = ap suc (length-one_at p (k + 1) n)

pub length-variable : (n p : ℕ) → length (variable_row n p) ≡ n + 1
length-variable n p = let e = length-one_at p 0 n in omega (arith, e)

at_own : (p k : ℕ) → p ≡ k → cond (eqb p k) one_ℚ zero_ℚ ≡ one_ℚ
at_own p k e = ap (λ t. cond t one_ℚ zero_ℚ) (eq-eqb p k e)

at_other : (p k : ℕ) → (p ≡ k → ⊥) → cond (eqb p k) one_ℚ zero_ℚ ≡ zero_ℚ
at_other p k d = ap (λ t. cond t one_ℚ zero_ℚ) (other p k d)

one_there : (p k n j : ℕ) → p ≡ k + j → j < n → get_or (one_at p k n) j zero_ℚ ≡ one_ℚ
one_there p k zero j e l = absurd (omega arith)
one_there p k (suc n) zero e l = at_own p k (omega arith)
one_there p k (suc n) (suc j) e l = one_there p (k + 1) n j (omega arith) (omega arith)

zero_elsewhere : (p k n j : ℕ) → (p ≡ k + j → ⊥) → get_or (one_at p k n) j zero_ℚ ≡ zero_ℚ
zero_elsewhere p k zero j d = refl
zero_elsewhere p k (suc n) zero d = at_other p k (λ (e : p ≡ k). d (omega arith))
zero_elsewhere p k (suc n) (suc j) d = zero_elsewhere p (k + 1) n j (λ (e : p ≡ (k + 1) + j). d (omega arith))

-- ---- the solved row put into its own row
own_number : (x a r : ℚ) → a *ℚ r ≡ one_ℚ → x +ℚ a *ℚ (neg_ℚ x *ℚ r) ≡ zero_ℚ
own_number x a r e =
    ring ℚ_ring (x ∷ a ∷ r ∷ []) (var 0 ⊕ var 1 ⊗ (minus (var 0) ⊗ var 2)) (var 0 ⊕ minus (var 0) ⊗ (var 1 ⊗ var 2)) refl
    ∙ ap (λ z. x +ℚ neg_ℚ x *ℚ z) e ∙ ring ℚ_ring (x ∷ []) (var 0 ⊕ minus (var 0) ⊗ unit) nil refl

own_pivot : (a r : ℚ) → a *ℚ r ≡ one_ℚ → zero_ℚ +ℚ a *ℚ (neg_ℚ (whole_ℚ (negsuc 0)) *ℚ r) ≡ one_ℚ
own_pivot a r e = ring ℚ_ring (a ∷ r ∷ []) (nil ⊕ var 0 ⊗ (minus (num (negsuc 0)) ⊗ var 1)) (var 0 ⊗ var 1) refl ∙ e

all_cancel : (a : ℚ) → a *ℚ recip_ℚ a ≡ one_ℚ → (p k : ℕ) (xs : List ℚ) → p < k → plus_multiple a xs (minus_quotients a xs) ≡ one_at p k (length xs)
all_cancel a e p k [] l = refl
all_cancel a e p k (x ∷ xs) l =
    ap (λ z. z ∷ plus_multiple a xs (minus_quotients a xs)) (own_number x a (recip_ℚ a) e ∙ sym (at_other p k (λ (q : p ≡ k). omega arith)))
    ∙ ap (λ zs. cond (eqb p k) one_ℚ zero_ℚ ∷ zs) (all_cancel a e p (k + 1) xs (omega arith))

one_stays : (a : ℚ) → a *ℚ recip_ℚ a ≡ one_ℚ → (p k : ℕ) (xs : List ℚ) (j : ℕ) → p ≡ k + j → plus_multiple a (set xs j zero_ℚ) (minus_quotients a (set xs j (whole_ℚ (negsuc 0)))) ≡ one_at p k (length xs)
one_stays a e p k [] j h = refl
one_stays a e p k (x ∷ xs) zero h =
    ap (λ z. z ∷ plus_multiple a xs (minus_quotients a xs)) (own_pivot a (recip_ℚ a) e ∙ sym (at_own p k (omega arith)))
    ∙ ap (λ zs. cond (eqb p k) one_ℚ zero_ℚ ∷ zs) (all_cancel a e p (k + 1) xs (omega arith))
one_stays a e p k (x ∷ xs) (suc j) h =
    ap (λ z. z ∷ plus_multiple a (set xs j zero_ℚ) (minus_quotients a (set xs j (whole_ℚ (negsuc 0))))) (own_number x a (recip_ℚ a) e ∙ sym (at_other p k (λ (q : p ≡ k). omega arith)))
    ∙ ap (λ zs. cond (eqb p k) one_ℚ zero_ℚ ∷ zs) (one_stays a e p (k + 1) xs j (omega arith))

pub put_in-solved : (n j : ℕ) (xs : List ℚ) → length xs ≡ n + 1 → ((get_or xs (suc j) zero_ℚ).num ≡ pos 0 → ⊥) → put_in (suc j) (solved_for (suc j) xs) xs ≡ variable_row n j
put_in-solved n j [] l h = absurd (omega arith)
put_in-solved n j (c ∷ more) l h =
    let a = get_or more j zero_ℚ in
    let e = *ℚ-recip a h in
    let m : length more ≡ n = omega arith in
    ap (λ z. z ∷ plus_multiple a (set more j zero_ℚ) (minus_quotients a (set more j (whole_ℚ (negsuc 0))))) (own_number c a (recip_ℚ a) e)
    ∙ ap (λ zs. zero_ℚ ∷ zs) (one_stays a e j 0 more j (omega arith) ∙ ap (one_at j 0) m)

-- ---- a row put into a variable's row
once_zero : (y : ℚ) → zero_ℚ +ℚ one_ℚ *ℚ y ≡ y
once_zero y = ring ℚ_ring (y ∷ []) (nil ⊕ unit ⊗ var 0) (var 0) refl

all_put : (p k n : ℕ) (ys : List ℚ) → p < k → length ys ≡ n → plus_multiple one_ℚ (one_at p k n) ys ≡ ys
all_put p k zero [] l e = refl
all_put p k zero (y ∷ ys) l e = absurd (omega arith)
all_put p k (suc n) [] l e = absurd (omega arith)
all_put p k (suc n) (y ∷ ys) l e =
    ap (λ z. (z +ℚ one_ℚ *ℚ y) ∷ plus_multiple one_ℚ (one_at p (k + 1) n) ys) (at_other p k (λ (q : p ≡ k). omega arith))
    ∙ ap (λ z. z ∷ plus_multiple one_ℚ (one_at p (k + 1) n) ys) (once_zero y)
    ∙ ap (λ zs. y ∷ zs) (all_put p (k + 1) n ys (omega arith) (omega arith))

one_put : (p k n j : ℕ) (ys : List ℚ) → p ≡ k + j → length ys ≡ n → plus_multiple one_ℚ (set (one_at p k n) j zero_ℚ) ys ≡ ys
one_put p k zero j [] h e = refl
one_put p k zero j (y ∷ ys) h e = absurd (omega arith)
one_put p k (suc n) j [] h e = absurd (omega arith)
one_put p k (suc n) zero (y ∷ ys) h e =
    ap (λ z. z ∷ plus_multiple one_ℚ (one_at p (k + 1) n) ys) (once_zero y) ∙ ap (λ zs. y ∷ zs) (all_put p (k + 1) n ys (omega arith) (omega arith))
one_put p k (suc n) (suc j) (y ∷ ys) h e =
    ap (λ z. (z +ℚ one_ℚ *ℚ y) ∷ plus_multiple one_ℚ (set (one_at p (k + 1) n) j zero_ℚ) ys) (at_other p k (λ (q : p ≡ k). omega arith))
    ∙ ap (λ z. z ∷ plus_multiple one_ℚ (set (one_at p (k + 1) n) j zero_ℚ) ys) (once_zero y)
    ∙ ap (λ zs. y ∷ zs) (one_put p (k + 1) n j ys (omega arith) (omega arith))

pub put_in-variable : (n j : ℕ) (ys : List ℚ) → j < n → length ys ≡ n + 1 → put_in (suc j) ys (variable_row n j) ≡ ys
put_in-variable n j [] l e = absurd (omega arith)
put_in-variable n j (y ∷ ys) l e =
    let zs = set (one_at j 0 n) j zero_ℚ in
    ap (λ a. plus_multiple a (zero_ℚ ∷ zs) (y ∷ ys)) (one_there j 0 n j (omega arith) l)
    ∙ ap (λ z. z ∷ plus_multiple one_ℚ zs ys) (once_zero y) ∙ ap (λ us. y ∷ us) (one_put j 0 n j ys (omega arith) (omega arith))

none_put : (xs ys : List ℚ) → plus_multiple zero_ℚ xs ys ≡ xs
none_put [] ys = refl
none_put (x ∷ xs) [] = refl
none_put (x ∷ xs) (y ∷ ys) = ap (λ z. z ∷ plus_multiple zero_ℚ xs ys) (ring ℚ_ring (x ∷ y ∷ []) (var 0 ⊕ nil ⊗ var 1) (var 0) refl) ∙ ap (λ zs. x ∷ zs) (none_put xs ys)

-- a row that does not hold the variable stays
pub put_in-without : (j : ℕ) (ys xs : List ℚ) → get_or xs j zero_ℚ ≡ zero_ℚ → put_in j ys xs ≡ xs
put_in-without j ys xs e =
    ap (λ a. plus_multiple a (set xs j zero_ℚ) ys) e ∙ none_put (set xs j zero_ℚ) ys ∙ ap (λ a. set xs j a) (sym e) ∙ set-get_or xs j zero_ℚ

pub put_in-other : (n j p : ℕ) (ys : List ℚ) → (p ≡ j → ⊥) → put_in (suc j) ys (variable_row n p) ≡ variable_row n p
put_in-other n j p ys d = put_in-without (suc j) ys (variable_row n p) (zero_elsewhere p 0 n j (λ (e : p ≡ 0 + j). d (omega arith)))

pub constant-variable : (n p : ℕ) → get_or (variable_row n p) 0 zero_ℚ ≡ zero_ℚ
constant-variable n p = refl

-- Each point of the right length solves the first table.
use Rattle.std.proofs.Common.{◌≡◌, ℕ, ◌+◌, ◌<◌, refl, sym, ap, ◌∙◌, subst, arith, List, [], ◌∷◌, cond, Bool, true, false, map, length}
use Rattle.std.specs.Prelude.{◌≤ℤ◌}
use Prim.Native.Nat.{zero, suc}
use Rattle.std.proofs.lemmas.Bool.{eq-eqb}
use Rattle.std.proofs.lemmas.Int.{ints}
use lib.IntN.{ℤ, pos, negsuc, ◌+ℤ◌, ◌-ℤ◌, ◌*ℤ◌, neg_ℤ}
use lib.Signed.{lt_z}
use Rattle.tetri_algebra.specs.IntegerRing.{ℤ_ring}
use Rattle.tetri_algebra.specs.Rational.{whole_ℚ}
use Rattle.tetri_algebra.specs.Sums.{dot, dot_from}
use Rattle.tetri_ip.proofs.IntegerProgramLaws.{dot_from-coefficient}
use Rattle.tetri_algebra.specs.RationalRing.{ℚ_ring, ◌+ℚ◌, ◌*ℚ◌, whole_ℚ-+ℤ, whole_ℚ-*ℤ}
use Rattle.tetri_algebra.specs.RingSolver.{var, num, minus, ring, ◌⊕◌, ◌⊗◌}
use Rattle.tetri_ip.specs.Points.{number_at, coefficient, left_side}
use Rattle.tetri_ip.specs.declared.programs.Row.{Row}
use Rattle.tetri_ip.specs.declared.programs.Term.{Term}
use Rattle.tetri_dictionary.proofs.DictionaryLaws.{other}
use Rattle.tetri_simplex.proofs.Placed.{IsPlaced}
use Rattle.tetri_dictionary.specs.Start.{corner, direction, slack_from, slack_row, minus_one_at, bound_rows, objective_row}

-- the values of the y_j at a point
abbrev pub ys_of : List ℤ → List ℤ → List ℤ → List ℤ → List ℤ
ys_of [] ls us xs = []
ys_of (c ∷ cs) [] us xs = []
ys_of (c ∷ cs) (l ∷ ls) [] xs = []
ys_of (c ∷ cs) (l ∷ ls) (u ∷ us) [] = []
ys_of (c ∷ cs) (l ∷ ls) (u ∷ us) (x ∷ xs) = (direction c *ℤ (x -ℤ cond (lt_z (pos 0) c) u l)) ∷ ys_of cs ls us xs

turn_twice : (t : Bool) (f x s : ℤ) → neg_ℤ (f *ℤ cond t (negsuc 0) (pos 1)) *ℤ (cond t (negsuc 0) (pos 1) *ℤ (x -ℤ s)) ≡ f *ℤ s -ℤ f *ℤ x
turn_twice true f x s = ring ℤ_ring (f ∷ x ∷ s ∷ []) (minus (var 0 ⊗ num (negsuc 0)) ⊗ (num (negsuc 0) ⊗ (var 1 ⊕ minus (var 2)))) (var 0 ⊗ var 2 ⊕ minus (var 0 ⊗ var 1)) refl
turn_twice false f x s = ring ℤ_ring (f ∷ x ∷ s ∷ []) (minus (var 0 ⊗ num (pos 1)) ⊗ (num (pos 1) ⊗ (var 1 ⊕ minus (var 2)))) (var 0 ⊗ var 2 ⊕ minus (var 0 ⊗ var 1)) refl

slack_dot : (ts : List Term) (j : ℕ) (cs ls us xs : List ℤ) → IsPlaced cs ls us xs →
    dot ℤ_ring (slack_from ts j cs) (ys_of cs ls us xs) ≡ dot_from ℤ_ring (coefficient ts) j (corner cs ls us) -ℤ dot_from ℤ_ring (coefficient ts) j xs
slack_dot ts j [] [] [] [] h = refl
slack_dot ts j (c ∷ cs) (l ∷ ls) (u ∷ us) (x ∷ xs) h =
    let t = lt_z (pos 0) c in
    let f = coefficient ts j in
    let s = cond t u l in
    let A = dot_from ℤ_ring (coefficient ts) (j + 1) (corner cs ls us) in
    let B = dot_from ℤ_ring (coefficient ts) (j + 1) xs in
    ap (λ z. z +ℤ dot ℤ_ring (slack_from ts (j + 1) cs) (ys_of cs ls us xs)) (turn_twice t f x s)
    ∙ ap (λ z. (f *ℤ s -ℤ f *ℤ x) +ℤ z) (slack_dot ts (j + 1) cs ls us xs h.2)
    ∙ ring ℤ_ring (f ∷ s ∷ x ∷ A ∷ B ∷ []) ((var 0 ⊗ var 1 ⊕ minus (var 0 ⊗ var 2)) ⊕ (var 3 ⊕ minus (var 4))) ((var 0 ⊗ var 1 ⊕ var 3) ⊕ minus (var 0 ⊗ var 2 ⊕ var 4)) refl
slack_dot ts j cs ls us xs h = absurd h

pub slack_value : (r : Row) (cs ls us xs : List ℤ) → IsPlaced cs ls us xs → dot ℤ_ring (slack_row cs (corner cs ls us) r) (pos 1 ∷ ys_of cs ls us xs) ≡ r.right -ℤ left_side r.terms.items xs
slack_value r cs ls us xs h =
    let ts = r.terms.items in
    let S = left_side ts (corner cs ls us) in
    let e = slack_dot ts 0 cs ls us xs h in
    ap (λ z. (r.right -ℤ S) *ℤ pos 1 +ℤ z) (e ∙ ap (λ z. z -ℤ dot_from ℤ_ring (coefficient ts) 0 xs) (dot_from-coefficient ts (corner cs ls us)) ∙ ap (λ z. S -ℤ z) (dot_from-coefficient ts xs))
    ∙ ring ℤ_ring (r.right ∷ S ∷ left_side ts xs ∷ []) ((var 0 ⊕ minus (var 1)) ⊗ num (pos 1) ⊕ (var 1 ⊕ minus (var 2))) (var 0 ⊕ minus (var 2)) refl

turn_cost : (t : Bool) (c x s : ℤ) → (c *ℤ cond t (negsuc 0) (pos 1)) *ℤ (cond t (negsuc 0) (pos 1) *ℤ (x -ℤ s)) ≡ c *ℤ x -ℤ c *ℤ s
turn_cost true c x s = ring ℤ_ring (c ∷ x ∷ s ∷ []) ((var 0 ⊗ num (negsuc 0)) ⊗ (num (negsuc 0) ⊗ (var 1 ⊕ minus (var 2)))) (var 0 ⊗ var 1 ⊕ minus (var 0 ⊗ var 2)) refl
turn_cost false c x s = ring ℤ_ring (c ∷ x ∷ s ∷ []) ((var 0 ⊗ num (pos 1)) ⊗ (num (pos 1) ⊗ (var 1 ⊕ minus (var 2)))) (var 0 ⊗ var 1 ⊕ minus (var 0 ⊗ var 2)) refl

cost_dot : (cs ls us xs : List ℤ) → IsPlaced cs ls us xs → dot ℤ_ring (map (λ c. c *ℤ direction c) cs) (ys_of cs ls us xs) ≡ dot ℤ_ring cs xs -ℤ dot ℤ_ring cs (corner cs ls us)
cost_dot [] [] [] [] h = refl
cost_dot (c ∷ cs) (l ∷ ls) (u ∷ us) (x ∷ xs) h =
    let t = lt_z (pos 0) c in
    let s = cond t u l in
    let A = dot ℤ_ring cs xs in
    let B = dot ℤ_ring cs (corner cs ls us) in
    ap (λ z. z +ℤ dot ℤ_ring (map (λ c. c *ℤ direction c) cs) (ys_of cs ls us xs)) (turn_cost t c x s)
    ∙ ap (λ z. (c *ℤ x -ℤ c *ℤ s) +ℤ z) (cost_dot cs ls us xs h.2)
    ∙ ring ℤ_ring (c ∷ x ∷ s ∷ A ∷ B ∷ []) ((var 0 ⊗ var 1 ⊕ minus (var 0 ⊗ var 2)) ⊕ (var 3 ⊕ minus (var 4))) ((var 0 ⊗ var 1 ⊕ var 3) ⊕ minus (var 0 ⊗ var 2 ⊕ var 4)) refl
cost_dot cs ls us xs h = absurd h

pub objective_value : (cs ls us xs : List ℤ) → IsPlaced cs ls us xs → dot ℤ_ring (objective_row cs (corner cs ls us)) (pos 1 ∷ ys_of cs ls us xs) ≡ dot ℤ_ring cs xs
objective_value cs ls us xs h =
    let S = dot ℤ_ring cs (corner cs ls us) in
    ap (λ z. S *ℤ pos 1 +ℤ z) (cost_dot cs ls us xs h) ∙ ring ℤ_ring (S ∷ dot ℤ_ring cs xs ∷ []) (var 0 ⊗ num (pos 1) ⊕ (var 1 ⊕ minus (var 0))) (var 1) refl

-- ---- the bound slacks
less_past : (j k : ℕ) (cs ys : List ℤ) → j < k → dot ℤ_ring (minus_one_at j k cs) ys ≡ pos 0
less_past j k [] ys h = refl
less_past j k (c ∷ cs) [] h = refl
less_past j k (c ∷ cs) (y ∷ ys) h =
    ap (λ t. cond t (negsuc 0) (pos 0) *ℤ y +ℤ dot ℤ_ring (minus_one_at j (k + 1) cs) ys) (other j k (λ (e : j ≡ k). omega arith))
    ∙ ap (λ z. pos 0 *ℤ y +ℤ z) (less_past j (k + 1) cs ys (omega arith)) ∙ ring ℤ_ring (y ∷ []) (num (pos 0) ⊗ var 0 ⊕ num (pos 0)) (num (pos 0)) refl

less_dot : (j k i : ℕ) (cs ys : List ℤ) → length cs ≡ length ys → j ≡ k + i → dot ℤ_ring (minus_one_at j k cs) ys ≡ neg_ℤ (number_at ys i)
less_dot j k i [] [] l e = refl
less_dot j k i [] (y ∷ ys) l e = absurd (omega arith)
less_dot j k i (c ∷ cs) [] l e = absurd (omega arith)
less_dot j k zero (c ∷ cs) (y ∷ ys) l e =
    ap (λ t. cond t (negsuc 0) (pos 0) *ℤ y +ℤ dot ℤ_ring (minus_one_at j (k + 1) cs) ys) (eq-eqb j k (omega arith))
    ∙ ap (λ z. negsuc 0 *ℤ y +ℤ z) (less_past j (k + 1) cs ys (omega arith)) ∙ ring ℤ_ring (y ∷ []) (num (negsuc 0) ⊗ var 0 ⊕ num (pos 0)) (minus (var 0)) refl
less_dot j k (suc i) (c ∷ cs) (y ∷ ys) l e =
    ap (λ t. cond t (negsuc 0) (pos 0) *ℤ y +ℤ dot ℤ_ring (minus_one_at j (k + 1) cs) ys) (other j k (λ (q : j ≡ k). omega arith))
    ∙ ap (λ z. pos 0 *ℤ y +ℤ z) (less_dot j (k + 1) i cs ys (omega arith) (omega arith)) ∙ ring ℤ_ring (y ∷ number_at ys i ∷ []) (num (pos 0) ⊗ var 0 ⊕ minus (var 1)) (minus (var 1)) refl

abbrev pub bounds_from : List ℤ → ℕ → List ℤ → List ℤ → List ℤ
bounds_from ys j [] us = []
bounds_from ys j (l ∷ ls) [] = []
bounds_from ys j (l ∷ ls) (u ∷ us) = ((u -ℤ l) -ℤ number_at ys j) ∷ bounds_from ys (j + 1) ls us

pub bound_values : (ys cs : List ℤ) (j : ℕ) (ls us : List ℤ) → length cs ≡ length ys → map (λ row. dot ℤ_ring row (pos 1 ∷ ys)) (bound_rows j cs ls us) ≡ bounds_from ys j ls us
bound_values ys cs j [] us l = refl
bound_values ys cs j (x ∷ ls) [] l = refl
bound_values ys cs j (x ∷ ls) (u ∷ us) l =
    ap (λ z. ((u -ℤ x) *ℤ pos 1 +ℤ z) ∷ map (λ row. dot ℤ_ring row (pos 1 ∷ ys)) (bound_rows (j + 1) cs ls us)) (less_dot j 0 j cs ys l (omega arith))
    ∙ ap (λ z. z ∷ map (λ row. dot ℤ_ring row (pos 1 ∷ ys)) (bound_rows (j + 1) cs ls us)) (ring ℤ_ring (u ∷ x ∷ number_at ys j ∷ []) ((var 0 ⊕ minus (var 1)) ⊗ num (pos 1) ⊕ minus (var 2)) ((var 0 ⊕ minus (var 1)) ⊕ minus (var 2)) refl)
    ∙ ap (λ zs. ((u -ℤ x) -ℤ number_at ys j) ∷ zs) (bound_values ys cs (j + 1) ls us l)

-- ---- whole numbers as rationals
pub whole_dot : (u v : List ℤ) → dot ℚ_ring (map whole_ℚ u) (map whole_ℚ v) ≡ whole_ℚ (dot ℤ_ring u v)
whole_dot [] v = refl
whole_dot (a ∷ u) [] = refl
whole_dot (a ∷ u) (b ∷ v) = ap (λ z. ◌+ℚ◌ (◌*ℚ◌ (whole_ℚ a) (whole_ℚ b)) z) (whole_dot u v) ∙ ap (λ z. ◌+ℚ◌ z (whole_ℚ (dot ℤ_ring u v))) (sym (whole_ℚ-*ℤ a b)) ∙ sym (whole_ℚ-+ℤ (a *ℤ b) (dot ℤ_ring u v))

-- ---- in the box each of these values is at least 0
y_above : (t : Bool) (l u x : ℤ) → l ≤ℤ x → x ≤ℤ u → pos 0 ≤ℤ (cond t (negsuc 0) (pos 1) *ℤ (x -ℤ cond t u l))
y_above true l u x h k = omega (arith, ints)
y_above false l u x h k = omega (arith, ints)

bound_above : (t : Bool) (l u x : ℤ) → l ≤ℤ x → x ≤ℤ u → pos 0 ≤ℤ ((u -ℤ l) -ℤ (cond t (negsuc 0) (pos 1) *ℤ (x -ℤ cond t u l)))
bound_above true l u x h k = omega (arith, ints)
bound_above false l u x h k = omega (arith, ints)

abbrev pub AreAbove : List ℤ → Type 0
AreAbove [] = Unit {0}
AreAbove (z ∷ zs) = (pos 0 ≤ℤ z) × AreAbove zs

pub ys_above : (cs ls us xs : List ℤ) → IsPlaced cs ls us xs → AreAbove (ys_of cs ls us xs)
ys_above [] [] [] [] h = tt
ys_above (c ∷ cs) (l ∷ ls) (u ∷ us) (x ∷ xs) h = (y_above (lt_z (pos 0) c) l u x h.0 h.1, ys_above cs ls us xs h.2)
ys_above cs ls us xs h = absurd h

pub bounds_above : (ys : List ℤ) (j : ℕ) (cs ls us xs : List ℤ) → IsPlaced cs ls us xs → ((i : ℕ) → number_at ys (j + i) ≡ number_at (ys_of cs ls us xs) i) → AreAbove (bounds_from ys j ls us)
bounds_above ys j [] [] [] [] h e = tt
bounds_above ys j (c ∷ cs) (l ∷ ls) (u ∷ us) (x ∷ xs) h e =
    let y : number_at ys j ≡ direction c *ℤ (x -ℤ cond (lt_z (pos 0) c) u l) = ap (λ k. number_at ys k) (plus_zero j) ∙ e 0 in (
      subst (λ z. pos 0 ≤ℤ ((u -ℤ l) -ℤ z)) (sym y) (bound_above (lt_z (pos 0) c) l u x h.0 h.1),
      bounds_above ys (j + 1) cs ls us xs h.2 (λ i. ap (λ k. number_at ys k) (plus_suc j i) ∙ e (suc i)),
    )
  where
    plus_zero : (j : ℕ) → j ≡ j + 0
    plus_zero j = omega arith

    plus_suc : (j i : ℕ) → (j + 1) + i ≡ j + suc i
    plus_suc j i = omega arith
bounds_above ys j cs ls us xs h e = absurd h

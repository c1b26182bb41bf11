-- The rows of the first table at rational values of the columns' variables.
use Rattle.std.proofs.Common.{◌≡◌, ℕ, ◌+◌, ◌<◌, refl, sym, ap, ◌∙◌, arith, List, [], ◌∷◌, cond, Bool, true, false, map, length, get_or, eqb}
use Prim.Native.Nat.{zero, suc}
use Rattle.std.proofs.Math.ListN.{get_or-map}
use Rattle.std.proofs.lemmas.Bool.{eq-eqb}
use lib.IntN.{ℤ, pos, negsuc, ◌*ℤ◌, neg_ℤ}
use lib.Signed.{lt_z}
use Rattle.tetri_algebra.specs.IntegerRing.{ℤ_ring}
use Rattle.tetri_algebra.specs.Rational.{ℚ, whole_ℚ}
use Rattle.tetri_algebra.specs.RationalRing.{ℚ_ring, zero_ℚ, ◌+ℚ◌, ◌*ℚ◌, neg_ℚ, whole_ℚ-+ℤ, whole_ℚ-*ℤ}
use Rattle.tetri_algebra.specs.RingSolver.{var, num, nil, minus, ring, ◌⊕◌, ◌⊗◌}
use Rattle.tetri_algebra.specs.Sums.{dot, dot_from, sum_over, same_sum_over, dot_from-sum_over, dot_from-unit_at, unit_at}
use Rattle.tetri_ip.specs.Points.{number_at, coefficient, left_side}
use Rattle.tetri_ip.specs.declared.programs.Row.{Row}
use Rattle.tetri_ip.specs.declared.programs.Term.{Term}
use Rattle.tetri_dictionary.proofs.DictionaryLaws.{other}
use Rattle.tetri_simplex.proofs.Placed.{IsBox}
use Rattle.tetri_simplex.proofs.Sound.{neg_whole}
use Rattle.tetri_simplex.specs.Relaxation.{left_value}
use Rattle.tetri_dictionary.specs.Start.{corner, direction, slack_from, slack_row, minus_one_at, bound_rows, objective_row}

-- the point at values of the columns' variables
abbrev pub point_at : List ℤ → List ℤ → List ℤ → List ℚ → List ℚ
point_at [] ls us ys = []
point_at (c ∷ cs) [] us ys = []
point_at (c ∷ cs) (l ∷ ls) [] ys = []
point_at (c ∷ cs) (l ∷ ls) (u ∷ us) [] = []
point_at (c ∷ cs) (l ∷ ls) (u ∷ us) (y ∷ ys) = cond (lt_z (pos 0) c) (◌+ℚ◌ (whole_ℚ u) (neg_ℚ y)) (◌+ℚ◌ (whole_ℚ l) y) ∷ point_at cs ls us ys

-- ---- the left side of a row by its coefficients
whole_coefficient : (ts : List Term) (j : ℕ) → whole_ℚ (coefficient ts j) ≡ sum_over ℚ_ring (λ (t : Term). unit_at ℚ_ring t.column (whole_ℚ t.by) j) ts
whole_coefficient [] j = refl
whole_coefficient (t ∷ ts) j =
    whole_ℚ-+ℤ (unit_at ℤ_ring t.column t.by j) (coefficient ts j)
    ∙ ap (λ z. ◌+ℚ◌ z (whole_ℚ (coefficient ts j))) (by_test (eqb t.column j))
    ∙ ap (λ z. ◌+ℚ◌ (unit_at ℚ_ring t.column (whole_ℚ t.by) j) z) (whole_coefficient ts j)
  where
    by_test : (e : Bool) → whole_ℚ (cond e t.by (pos 0)) ≡ cond e (whole_ℚ t.by) zero_ℚ
    by_test true = refl
    by_test false = refl

pub same_dot_from : (f g : ℕ → ℚ) (j : ℕ) (xs : List ℚ) → ((k : ℕ) → f k ≡ g k) → dot_from ℚ_ring f j xs ≡ dot_from ℚ_ring g j xs
same_dot_from f g j [] h = refl
same_dot_from f g j (x ∷ xs) h = ap (λ z. ◌+ℚ◌ (◌*ℚ◌ z x) (dot_from ℚ_ring f (j + 1) xs)) (h j) ∙ ap (λ z. ◌+ℚ◌ (◌*ℚ◌ (g j) x) z) (same_dot_from f g (j + 1) xs h)

pub dot_from-left_value : (ts : List Term) (xs : List ℚ) → dot_from ℚ_ring (λ k. whole_ℚ (coefficient ts k)) 0 xs ≡ left_value ts xs
dot_from-left_value ts xs =
    same_dot_from (λ k. whole_ℚ (coefficient ts k)) (λ k. sum_over ℚ_ring (λ (t : Term). unit_at ℚ_ring t.column (whole_ℚ t.by) k) ts) 0 xs (whole_coefficient ts)
    ∙ dot_from-sum_over ℚ_ring (λ (t : Term). unit_at ℚ_ring t.column (whole_ℚ t.by)) ts 0 xs
    ∙ same_sum_over ℚ_ring (λ (t : Term). dot_from ℚ_ring (unit_at ℚ_ring t.column (whole_ℚ t.by)) 0 xs) (λ (t : Term). ◌*ℚ◌ (whole_ℚ t.by) (get_or xs t.column zero_ℚ)) ts
    (λ t. dot_from-unit_at ℚ_ring t.column (whole_ℚ t.by) 0 t.column xs (omega arith))

-- at a point of whole numbers
pub left_value-whole : (ts : List Term) (xs : List ℤ) → left_value ts (map whole_ℚ xs) ≡ whole_ℚ (left_side ts xs)
left_value-whole [] xs = refl
left_value-whole (t ∷ ts) xs =
    ap (λ z. ◌+ℚ◌ (◌*ℚ◌ (whole_ℚ t.by) z) (left_value ts (map whole_ℚ xs))) (get_or-map whole_ℚ xs t.column (pos 0))
    ∙ ap (λ z. ◌+ℚ◌ z (left_value ts (map whole_ℚ xs))) (sym (whole_ℚ-*ℤ t.by (number_at xs t.column)))
    ∙ ap (λ z. ◌+ℚ◌ (whole_ℚ (t.by *ℤ number_at xs t.column)) z) (left_value-whole ts xs)
    ∙ sym (whole_ℚ-+ℤ (t.by *ℤ number_at xs t.column) (left_side ts xs))

-- ---- the slack of a row
turned_term : (t : Bool) (f u l : ℤ) (y : ℚ) →
    ◌*ℚ◌ (whole_ℚ (neg_ℤ (f *ℤ cond t (negsuc 0) (pos 1)))) y ≡ ◌+ℚ◌ (◌*ℚ◌ (whole_ℚ f) (whole_ℚ (cond t u l))) (neg_ℚ (◌*ℚ◌ (whole_ℚ f) (cond t (◌+ℚ◌ (whole_ℚ u) (neg_ℚ y)) (◌+ℚ◌ (whole_ℚ l) y))))
turned_term true f u l y =
    ap (λ z. ◌*ℚ◌ z y) (sym (neg_whole (f *ℤ negsuc 0)) ∙ ap neg_ℚ (whole_ℚ-*ℤ f (negsuc 0)))
    ∙ ring ℚ_ring (whole_ℚ f ∷ whole_ℚ u ∷ y ∷ []) (minus (var 0 ⊗ num (negsuc 0)) ⊗ var 2) (var 0 ⊗ var 1 ⊕ minus (var 0 ⊗ (var 1 ⊕ minus (var 2)))) refl
turned_term false f u l y =
    ap (λ z. ◌*ℚ◌ z y) (sym (neg_whole (f *ℤ pos 1)) ∙ ap neg_ℚ (whole_ℚ-*ℤ f (pos 1)))
    ∙ ring ℚ_ring (whole_ℚ f ∷ whole_ℚ l ∷ y ∷ []) (minus (var 0 ⊗ num (pos 1)) ⊗ var 2) (var 0 ⊗ var 1 ⊕ minus (var 0 ⊗ (var 1 ⊕ var 2))) refl

slack_dot : (ts : List Term) (j : ℕ) (cs ls us : List ℤ) (ys : List ℚ) → IsBox cs ls us → length ys ≡ length cs →
    dot ℚ_ring (map whole_ℚ (slack_from ts j cs)) ys
    ≡ ◌+ℚ◌ (dot_from ℚ_ring (λ k. whole_ℚ (coefficient ts k)) j (map whole_ℚ (corner cs ls us))) (neg_ℚ (dot_from ℚ_ring (λ k. whole_ℚ (coefficient ts k)) j (point_at cs ls us ys)))
slack_dot ts j [] [] [] ys h e = ring ℚ_ring [] nil (nil ⊕ minus nil) refl
slack_dot ts j (c ∷ cs) (l ∷ ls) (u ∷ us) [] h e = absurd (omega arith)
slack_dot ts j (c ∷ cs) (l ∷ ls) (u ∷ us) (y ∷ ys) h e =
    let t = lt_z (pos 0) c in
    let f = coefficient ts j in
    let s = whole_ℚ (cond t u l) in
    let x = cond t (◌+ℚ◌ (whole_ℚ u) (neg_ℚ y)) (◌+ℚ◌ (whole_ℚ l) y) in
    let A = dot_from ℚ_ring (λ k. whole_ℚ (coefficient ts k)) (j + 1) (map whole_ℚ (corner cs ls us)) in
    let B = dot_from ℚ_ring (λ k. whole_ℚ (coefficient ts k)) (j + 1) (point_at cs ls us ys) in
    ap (λ z. ◌+ℚ◌ z (dot ℚ_ring (map whole_ℚ (slack_from ts (j + 1) cs)) ys)) (turned_term t f u l y)
    ∙ ap (λ z. ◌+ℚ◌ (◌+ℚ◌ (◌*ℚ◌ (whole_ℚ f) s) (neg_ℚ (◌*ℚ◌ (whole_ℚ f) x))) z) (slack_dot ts (j + 1) cs ls us ys h.1 (omega arith))
    ∙ ring ℚ_ring (whole_ℚ f ∷ s ∷ x ∷ A ∷ B ∷ []) ((var 0 ⊗ var 1 ⊕ minus (var 0 ⊗ var 2)) ⊕ (var 3 ⊕ minus (var 4))) ((var 0 ⊗ var 1 ⊕ var 3) ⊕ minus (var 0 ⊗ var 2 ⊕ var 4)) refl
slack_dot ts j cs ls us ys h e = absurd h

pub slack_at_point : (r : Row) (cs ls us : List ℤ) (ys : List ℚ) → IsBox cs ls us → length ys ≡ length cs →
    dot ℚ_ring (map whole_ℚ (slack_row cs (corner cs ls us) r)) (whole_ℚ (pos 1) ∷ ys) ≡ ◌+ℚ◌ (whole_ℚ r.right) (neg_ℚ (left_value r.terms.items (point_at cs ls us ys)))
slack_at_point r cs ls us ys h e =
    let ts = r.terms.items in
    let start = corner cs ls us in
    let S = whole_ℚ (left_side ts start) in
    let X = left_value ts (point_at cs ls us ys) in
    let start_value = dot_from-left_value ts (map whole_ℚ start) ∙ left_value-whole ts start in
    let point_value = dot_from-left_value ts (point_at cs ls us ys) in
    ap (λ z. ◌+ℚ◌ (◌*ℚ◌ z (whole_ℚ (pos 1))) (dot ℚ_ring (map whole_ℚ (slack_from ts 0 cs)) ys)) (whole_ℚ-+ℤ r.right (neg_ℤ (left_side ts start)) ∙ ap (λ z. ◌+ℚ◌ (whole_ℚ r.right) z) (sym (neg_whole (left_side ts start))))
    ∙ ap (λ z. ◌+ℚ◌ (◌*ℚ◌ (◌+ℚ◌ (whole_ℚ r.right) (neg_ℚ S)) (whole_ℚ (pos 1))) z) (slack_dot ts 0 cs ls us ys h e ∙ ap (λ z. ◌+ℚ◌ z (neg_ℚ (dot_from ℚ_ring (λ k. whole_ℚ (coefficient ts k)) 0 (point_at cs ls us ys)))) start_value ∙ ap (λ z. ◌+ℚ◌ S (neg_ℚ z)) point_value)
    ∙ ring ℚ_ring (whole_ℚ r.right ∷ S ∷ X ∷ []) ((var 0 ⊕ minus (var 1)) ⊗ num (pos 1) ⊕ (var 1 ⊕ minus (var 2))) (var 0 ⊕ minus (var 2)) refl

-- ---- the objective
turned_cost : (t : Bool) (c u l : ℤ) (y : ℚ) →
    ◌*ℚ◌ (whole_ℚ (c *ℤ cond t (negsuc 0) (pos 1))) y ≡ ◌+ℚ◌ (◌*ℚ◌ (whole_ℚ c) (cond t (◌+ℚ◌ (whole_ℚ u) (neg_ℚ y)) (◌+ℚ◌ (whole_ℚ l) y))) (neg_ℚ (whole_ℚ (c *ℤ cond t u l)))
turned_cost true c u l y =
    ap (λ z. ◌*ℚ◌ z y) (whole_ℚ-*ℤ c (negsuc 0))
    ∙ ring ℚ_ring (whole_ℚ c ∷ whole_ℚ u ∷ y ∷ []) ((var 0 ⊗ num (negsuc 0)) ⊗ var 2) (var 0 ⊗ (var 1 ⊕ minus (var 2)) ⊕ minus (var 0 ⊗ var 1)) refl
    ∙ ap (λ z. ◌+ℚ◌ (◌*ℚ◌ (whole_ℚ c) (◌+ℚ◌ (whole_ℚ u) (neg_ℚ y))) (neg_ℚ z)) (sym (whole_ℚ-*ℤ c u))
turned_cost false c u l y =
    ap (λ z. ◌*ℚ◌ z y) (whole_ℚ-*ℤ c (pos 1))
    ∙ ring ℚ_ring (whole_ℚ c ∷ whole_ℚ l ∷ y ∷ []) ((var 0 ⊗ num (pos 1)) ⊗ var 2) (var 0 ⊗ (var 1 ⊕ var 2) ⊕ minus (var 0 ⊗ var 1)) refl
    ∙ ap (λ z. ◌+ℚ◌ (◌*ℚ◌ (whole_ℚ c) (◌+ℚ◌ (whole_ℚ l) y)) (neg_ℚ z)) (sym (whole_ℚ-*ℤ c l))

cost_dot : (cs ls us : List ℤ) (ys : List ℚ) → IsBox cs ls us → length ys ≡ length cs →
    dot ℚ_ring (map whole_ℚ (map (λ c. c *ℤ direction c) cs)) ys ≡ ◌+ℚ◌ (dot ℚ_ring (map whole_ℚ cs) (point_at cs ls us ys)) (neg_ℚ (whole_ℚ (dot ℤ_ring cs (corner cs ls us))))
cost_dot [] [] [] ys h e = ring ℚ_ring [] nil (nil ⊕ minus nil) refl
cost_dot (c ∷ cs) (l ∷ ls) (u ∷ us) [] h e = absurd (omega arith)
cost_dot (c ∷ cs) (l ∷ ls) (u ∷ us) (y ∷ ys) h e =
    let t = lt_z (pos 0) c in
    let a = c *ℤ cond t u l in
    let x = cond t (◌+ℚ◌ (whole_ℚ u) (neg_ℚ y)) (◌+ℚ◌ (whole_ℚ l) y) in
    let D = dot ℤ_ring cs (corner cs ls us) in
    let P = dot ℚ_ring (map whole_ℚ cs) (point_at cs ls us ys) in
    ap (λ z. ◌+ℚ◌ z (dot ℚ_ring (map whole_ℚ (map (λ c. c *ℤ direction c) cs)) ys)) (turned_cost t c u l y)
    ∙ ap (λ z. ◌+ℚ◌ (◌+ℚ◌ (◌*ℚ◌ (whole_ℚ c) x) (neg_ℚ (whole_ℚ a))) z) (cost_dot cs ls us ys h.1 (omega arith))
    ∙ ring ℚ_ring (◌*ℚ◌ (whole_ℚ c) x ∷ whole_ℚ a ∷ P ∷ whole_ℚ D ∷ []) ((var 0 ⊕ minus (var 1)) ⊕ (var 2 ⊕ minus (var 3))) ((var 0 ⊕ var 2) ⊕ minus (var 1 ⊕ var 3)) refl
    ∙ ap (λ z. ◌+ℚ◌ (◌+ℚ◌ (◌*ℚ◌ (whole_ℚ c) x) P) (neg_ℚ z)) (sym (whole_ℚ-+ℤ a D))
cost_dot cs ls us ys h e = absurd h

pub objective_at_point : (cs ls us : List ℤ) (ys : List ℚ) → IsBox cs ls us → length ys ≡ length cs →
    dot ℚ_ring (map whole_ℚ (objective_row cs (corner cs ls us))) (whole_ℚ (pos 1) ∷ ys) ≡ dot ℚ_ring (map whole_ℚ cs) (point_at cs ls us ys)
objective_at_point cs ls us ys h e =
    let S = whole_ℚ (dot ℤ_ring cs (corner cs ls us)) in
    ap (λ z. ◌+ℚ◌ (◌*ℚ◌ S (whole_ℚ (pos 1))) z) (cost_dot cs ls us ys h e)
    ∙ ring ℚ_ring (S ∷ dot ℚ_ring (map whole_ℚ cs) (point_at cs ls us ys) ∷ []) (var 0 ⊗ num (pos 1) ⊕ (var 1 ⊕ minus (var 0))) (var 1) refl

-- ---- the bound slacks
dot_past : (j k : ℕ) (cs : List ℤ) (ys : List ℚ) → j < k → dot ℚ_ring (map whole_ℚ (minus_one_at j k cs)) ys ≡ zero_ℚ
dot_past j k [] ys h = refl
dot_past j k (c ∷ cs) [] h = refl
dot_past j k (c ∷ cs) (y ∷ ys) h =
    ap (λ t. ◌+ℚ◌ (◌*ℚ◌ (whole_ℚ (cond t (negsuc 0) (pos 0))) y) (dot ℚ_ring (map whole_ℚ (minus_one_at j (k + 1) cs)) ys)) (other j k (λ (e : j ≡ k). omega arith))
    ∙ ap (λ z. ◌+ℚ◌ (◌*ℚ◌ (whole_ℚ (pos 0)) y) z) (dot_past j (k + 1) cs ys (omega arith)) ∙ ring ℚ_ring (y ∷ []) (num (pos 0) ⊗ var 0 ⊕ nil) nil refl

minus_dot : (j k i : ℕ) (cs : List ℤ) (ys : List ℚ) → length ys ≡ length cs → j ≡ k + i → dot ℚ_ring (map whole_ℚ (minus_one_at j k cs)) ys ≡ neg_ℚ (get_or ys i zero_ℚ)
minus_dot j k i [] [] l e = ring ℚ_ring [] nil (minus nil) refl
minus_dot j k i [] (y ∷ ys) l e = absurd (omega arith)
minus_dot j k i (c ∷ cs) [] l e = absurd (omega arith)
minus_dot j k zero (c ∷ cs) (y ∷ ys) l e =
    ap (λ t. ◌+ℚ◌ (◌*ℚ◌ (whole_ℚ (cond t (negsuc 0) (pos 0))) y) (dot ℚ_ring (map whole_ℚ (minus_one_at j (k + 1) cs)) ys)) (eq-eqb j k (omega arith))
    ∙ ap (λ z. ◌+ℚ◌ (◌*ℚ◌ (whole_ℚ (negsuc 0)) y) z) (dot_past j (k + 1) cs ys (omega arith)) ∙ ring ℚ_ring (y ∷ []) (num (negsuc 0) ⊗ var 0 ⊕ nil) (minus (var 0)) refl
minus_dot j k (suc i) (c ∷ cs) (y ∷ ys) l e =
    ap (λ t. ◌+ℚ◌ (◌*ℚ◌ (whole_ℚ (cond t (negsuc 0) (pos 0))) y) (dot ℚ_ring (map whole_ℚ (minus_one_at j (k + 1) cs)) ys)) (other j k (λ (q : j ≡ k). omega arith))
    ∙ ap (λ z. ◌+ℚ◌ (◌*ℚ◌ (whole_ℚ (pos 0)) y) z) (minus_dot j (k + 1) i cs ys (omega arith) (omega arith)) ∙ ring ℚ_ring (y ∷ get_or ys i zero_ℚ ∷ []) (num (pos 0) ⊗ var 0 ⊕ minus (var 1)) (minus (var 1)) refl

-- from column j on: the width of the bounds less the variable
abbrev pub widths_less : List ℚ → ℕ → List ℤ → List ℤ → List ℚ
widths_less ys j [] us = []
widths_less ys j (l ∷ ls) [] = []
widths_less ys j (l ∷ ls) (u ∷ us) = ◌+ℚ◌ (◌+ℚ◌ (whole_ℚ u) (neg_ℚ (whole_ℚ l))) (neg_ℚ (get_or ys j zero_ℚ)) ∷ widths_less ys (j + 1) ls us

pub bounds_at_point : (ys : List ℚ) (cs : List ℤ) (j : ℕ) (ls us : List ℤ) → length ys ≡ length cs → map (λ row. dot ℚ_ring row (whole_ℚ (pos 1) ∷ ys)) (map (map whole_ℚ) (bound_rows j cs ls us)) ≡ widths_less ys j ls us
bounds_at_point ys cs j [] us e = refl
bounds_at_point ys cs j (l ∷ ls) [] e = refl
bounds_at_point ys cs j (l ∷ ls) (u ∷ us) e =
    let rest = map (λ row. dot ℚ_ring row (whole_ℚ (pos 1) ∷ ys)) (map (map whole_ℚ) (bound_rows (j + 1) cs ls us)) in
    let y = get_or ys j zero_ℚ in
    ap (λ z. ◌+ℚ◌ (◌*ℚ◌ z (whole_ℚ (pos 1))) (dot ℚ_ring (map whole_ℚ (minus_one_at j 0 cs)) ys) ∷ rest) (whole_ℚ-+ℤ u (neg_ℤ l) ∙ ap (λ z. ◌+ℚ◌ (whole_ℚ u) z) (sym (neg_whole l)))
    ∙ ap (λ z. ◌+ℚ◌ (◌*ℚ◌ (◌+ℚ◌ (whole_ℚ u) (neg_ℚ (whole_ℚ l))) (whole_ℚ (pos 1))) z ∷ rest) (minus_dot j 0 j cs ys e (omega arith))
    ∙ ap (λ z. z ∷ rest) (ring ℚ_ring (whole_ℚ u ∷ whole_ℚ l ∷ y ∷ []) ((var 0 ⊕ minus (var 1)) ⊗ num (pos 1) ⊕ minus (var 2)) ((var 0 ⊕ minus (var 1)) ⊕ minus (var 2)) refl)
    ∙ ap (λ zs. ◌+ℚ◌ (◌+ℚ◌ (whole_ℚ u) (neg_ℚ (whole_ℚ l))) (neg_ℚ y) ∷ zs) (bounds_at_point ys cs (j + 1) ls us e)

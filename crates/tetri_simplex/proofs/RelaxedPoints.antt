-- Points of the relaxation beside whole points.
use Rattle.std.proofs.Common.{◌≡◌, ℕ, ◌<◌, sym, ap, ◌∙◌, subst, arith, refl, List, [], ◌∷◌, length, map, All}
use Rattle.std.specs.Prelude.{◌≤ℤ◌, ◌<ℤ◌}
use Prim.Native.Nat.{zero, suc}
use Rattle.std.proofs.lemmas.Int.{ints, by_lt_z}
use Rattle.std.proofs.lemmas.List.{length-map}
use lib.IntN.{ℤ, ◌*ℤ◌}
use Rattle.tetri_algebra.specs.IntegerRing.{ℤ_ring}
use Rattle.tetri_algebra.specs.Rational.{ℚ, whole_ℚ, same_parts}
use Rattle.tetri_algebra.specs.RationalRing.{ℚ_ring, num-whole_ℚ, den-whole_ℚ, ◌+ℚ◌, ◌*ℚ◌, whole_ℚ-+ℤ, whole_ℚ-*ℤ}
use Rattle.tetri_algebra.specs.RationalOrder.{◌≤ℚ◌, ≤ℚ_antisymm, floor_ℚ, floor_ℚ-≤ℚ, floor_ℚ_greatest, floor_ℚ_monotone, floor_ℚ-whole_ℚ, le_from_whole_ℚ}
use Rattle.tetri_algebra.specs.Sums.{dot}
use Rattle.tetri_ip.specs.Points.{Bounds, IsPoint, left_side, number_at, objective, right_of, terms_of}
use Rattle.tetri_ip.specs.declared.programs.Program.{Program}
use Rattle.tetri_simplex.proofs.RelaxedRows.{left_value-whole}
use Rattle.tetri_simplex.specs.Relaxation.{IsRelaxedPoint, IsWhole, coordinate, left_value, numerators, objective_value}

whole_is : (x : ℚ) → IsWhole x → whole_ℚ x.num ≡ x
whole_is x h = same_parts (whole_ℚ x.num) x (num-whole_ℚ x.num) (den-whole_ℚ x.num ∙ sym h)

pub wholes_are : (point : List ℚ) → All IsWhole point → map whole_ℚ (numerators point) ≡ point
wholes_are [] h = refl
wholes_are (x ∷ point) h = ap (λ y. y ∷ map whole_ℚ (numerators point)) (whole_is x (h 0 x (omega arith))) ∙ ap (λ ys. x ∷ ys) (wholes_are point (λ k d l. h (suc k) d (omega arith)))

dot-whole : (cs xs : List ℤ) → whole_ℚ (dot ℤ_ring cs xs) ≡ dot ℚ_ring (map whole_ℚ cs) (map whole_ℚ xs)
dot-whole [] xs = refl
dot-whole (c ∷ cs) [] = refl
dot-whole (c ∷ cs) (x ∷ xs) =
    whole_ℚ-+ℤ (c *ℤ x) (dot ℤ_ring cs xs)
    ∙ ap (λ z. ◌+ℚ◌ z (whole_ℚ (dot ℤ_ring cs xs))) (whole_ℚ-*ℤ c x)
    ∙ ap (λ z. ◌+ℚ◌ (◌*ℚ◌ (whole_ℚ c) (whole_ℚ x)) z) (dot-whole cs xs)

pub worth_same : (p : Program) (point : List ℚ) → All IsWhole point → whole_ℚ (objective p (numerators point)) ≡ objective_value p point
worth_same p point h = dot-whole p.costs.items (numerators point) ∙ ap (λ xs. dot ℚ_ring (map whole_ℚ p.costs.items) xs) (wholes_are point h)

coordinate-whole : (xs : List ℤ) (j : ℕ) → coordinate (map whole_ℚ xs) j ≡ whole_ℚ (number_at xs j)
coordinate-whole [] j = refl
coordinate-whole (x ∷ xs) zero = refl
coordinate-whole (x ∷ xs) (suc j) = coordinate-whole xs j

pub whole_point : (p : Program) (b : Bounds) (point : List ℚ) → IsRelaxedPoint p b point → All IsWhole point → IsPoint p b (numerators point)
whole_point p b point h w =
    let xs = numerators point in
    let e : point ≡ map whole_ℚ xs = sym (wholes_are point w) in
    let at : (j : ℕ) → coordinate point j ≡ whole_ℚ (number_at xs j) = λ j. ap (λ (ys : List ℚ). coordinate ys j) e ∙ coordinate-whole xs j in
    let side : (k : ℕ) → left_value (terms_of p.rows.items k) point ≡ whole_ℚ (left_side (terms_of p.rows.items k) xs) =
    λ k. ap (λ (ys : List ℚ). left_value (terms_of p.rows.items k) ys) e ∙ left_value-whole (terms_of p.rows.items k) xs in
    record {
      count = length-map point (λ (x : ℚ). x.num) ∙ h.count;
      inside = λ j l. (
        le_from_whole_ℚ (number_at b.lower j) (number_at xs j) (subst (λ z. whole_ℚ (number_at b.lower j) ≤ℚ z) (at j) (h.above j l)),
        le_from_whole_ℚ (number_at xs j) (number_at b.upper j) (subst (λ z. z ≤ℚ whole_ℚ (number_at b.upper j)) (at j) (h.below j l)),
      );
      met = λ k l. le_from_whole_ℚ (left_side (terms_of p.rows.items k) xs) (right_of p.rows.items k) (subst (λ z. z ≤ℚ whole_ℚ (right_of p.rows.items k)) (side k) (h.met k l));
    }

pub floor_between : (p : Program) (b : Bounds) (point : List ℚ) (j : ℕ) → IsRelaxedPoint p b point → j < length p.costs.items → (IsWhole (coordinate point j) → ⊥) →
    (number_at b.lower j ≤ℤ floor_ℚ (coordinate point j)) × (floor_ℚ (coordinate point j) <ℤ number_at b.upper j)
floor_between p b point j h l d =
    let x = coordinate point j in
    let u = number_at b.upper j in
    (floor_ℚ_greatest (number_at b.lower j) x (h.above j l), by_lt_z (floor_ℚ x) u (λ k. k) (λ k. absurd (d (is_whole x u (h.below j l) k))))
  where
    is_whole : (x : ℚ) (u : ℤ) → x ≤ℚ whole_ℚ u → u ≤ℤ floor_ℚ x → IsWhole x
    is_whole x u h k =
        let f : floor_ℚ x ≤ℤ u = subst (λ z. floor_ℚ x ≤ℤ z) (floor_ℚ-whole_ℚ u) (floor_ℚ_monotone x (whole_ℚ u) h) in
        let e : floor_ℚ x ≡ u = both (floor_ℚ x) u f k in
        let g : whole_ℚ u ≤ℚ x = subst (λ z. whole_ℚ z ≤ℚ x) e (floor_ℚ-≤ℚ x) in
        ap (λ (y : ℚ). y.den) (≤ℚ_antisymm x (whole_ℚ u) h g) ∙ den-whole_ℚ u
      where
        both : (a c : ℤ) → a ≤ℤ c → c ≤ℤ a → a ≡ c
        both a c m n = omega (arith, ints)

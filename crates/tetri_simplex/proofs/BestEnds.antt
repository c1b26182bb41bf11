-- No point of the relaxation is worth more than the point of a best end.
use Rattle.std.proofs.Common.{◌≡◌, ℕ, ◌<◌, refl, sym, ap, ◌∙◌, subst, arith, List, [], ◌∷◌, length}
use Prim.Native.Nat.{suc}
use Rattle.std.specs.Prelude.{All, ◌≤ℤ◌, ◌<ℤ◌}
use Rattle.std.proofs.lemmas.Int.{ints}
use lib.IntN.{ℤ, pos}
use Rattle.tetri_algebra.specs.Rational.{ℚ, whole_ℚ}
use Rattle.tetri_algebra.specs.RationalOrder.{◌≤ℚ◌, *ℚ-≤ℚ_of_nonnegative}
use Rattle.tetri_algebra.specs.RationalReciprocal.{recip_ℚ, recip_positive, *ℚ-recip}
use Rattle.tetri_algebra.specs.RationalRing.{◌*ℚ◌, ℚ_ring, num-whole_ℚ, one-*ℚ}
use Rattle.tetri_algebra.specs.RingSolver.{var, ring, ◌⊗◌}
use Rattle.tetri_ip.specs.declared.programs.Program.{Program}
use Rattle.tetri_ip.specs.declared.programs.Weight.{Weight}
use Rattle.tetri_ip.specs.Points.{Bounds}
use Rattle.tetri_ip.specs.Weighed.{weighed}
use Rattle.tetri_simplex.specs.Certificates.{CertifiesBest}
use Rattle.tetri_simplex.specs.Relaxation.{IsRelaxedPoint, objective_value}
use Rattle.tetri_simplex.proofs.BestPoint.{nonnegative}
use Rattle.tetri_simplex.proofs.RelaxedDuality.{relaxed_duality}
use Rattle.tetri_simplex.proofs.WeightSigns.{AreRowWeights}

row_weights : (n : ℕ) (ws : List Weight) → All (λ (w : Weight). w.row < n) ws → All (λ (w : Weight). pos 0 ≤ℤ w.by) ws → AreRowWeights n ws
row_weights n [] h g = tt
row_weights n (w ∷ ws) h g = ((g 0 w (omega arith), h 0 w (omega arith)), row_weights n ws (λ k d l. h (suc k) d (omega arith)) (λ k d l. g (suc k) d (omega arith)))

-- a factor above 0 is taken away
cancelled : (q : ℤ) (x y : ℚ) → pos 0 <ℤ q → (whole_ℚ q *ℚ x) ≤ℚ (whole_ℚ q *ℚ y) → x ≤ℚ y
cancelled q x y h l =
    let w = whole_ℚ q in
    let r = recip_ℚ w in
    let above : pos 0 <ℤ w.num = subst (λ z. pos 0 <ℤ z) (sym (num-whole_ℚ q)) h in
    let sign : pos 0 ≤ℤ r.num = not_below r.num w.den (recip_positive w above).0 in
    let back : (z : ℚ) → r *ℚ (w *ℚ z) ≡ z =
    λ z. ring ℚ_ring (r ∷ w ∷ z ∷ []) (var 0 ⊗ (var 1 ⊗ var 2)) ((var 1 ⊗ var 0) ⊗ var 2) refl ∙ ap (λ u. u *ℚ z) (*ℚ-recip w (λ e. not_zero w.num above e)) ∙ one-*ℚ z in
    subst (λ z. z ≤ℚ y) (back x) (subst (λ z. (r *ℚ (w *ℚ x)) ≤ℚ z) (back y) (*ℚ-≤ℚ_of_nonnegative r (w *ℚ x) (w *ℚ y) (nonnegative r (record { sign = sign })) l))
  where
    not_below : (z : ℤ) (n : ℕ) → z ≡ pos n → pos 0 ≤ℤ z
    not_below z n e = omega (arith, ints)

    not_zero : (z : ℤ) → pos 0 <ℤ z → z ≡ pos 0 → ⊥
    not_zero z a e = omega (arith, ints)

pub best_of_all : (p : Program) (b : Bounds) (known : ℕ) (point other : List ℚ) (q : ℤ) (ws : List Weight) → CertifiesBest p b known point q ws → IsRelaxedPoint p b other → objective_value p other ≤ℚ objective_value p point
best_of_all p b known point other q ws h m =
    cancelled q (objective_value p other) (objective_value p point) h.multiplier
    (subst (λ z. (whole_ℚ q *ℚ objective_value p other) ≤ℚ z) h.optimal (relaxed_duality p b q ws other (row_weights (length p.rows.items) ws h.weights.rows h.weights.signs) m))

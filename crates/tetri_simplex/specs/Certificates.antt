-- What the end of a run says of the program over the region, by weak duality.
use Rattle.std.specs.Prelude.{◌≡◌, ◌≢◌, ℕ, List, pos, ◌≤ℤ◌, ◌<ℤ◌, Ok, All}
use Rattle.std.specs.Int.{int_div_euclid}
use lib.IntN.{ℤ}
use Rattle.tetri_algebra.specs.Rational.{ℚ, whole_ℚ}
use Rattle.tetri_algebra.specs.RationalRing.{◌*ℚ◌}
use Rattle.tetri_algebra.specs.RationalOrder.{floor_ℚ}
use Rattle.tetri_algebra.specs.Range.{IsWithin}
use Rattle.tetri_ip.specs.declared.programs.Program.{Program}
use Rattle.tetri_ip.specs.declared.programs.Weight.{Weight}
use Rattle.tetri_ip.specs.Forming.{weigh_answer}
use Rattle.tetri_ip.specs.Points.{Bounds}
use Rattle.tetri_ip.specs.Weighed.{AreNotNegative, AreOfRows, WeightsAscend, weighed}
use Rattle.tetri_simplex.specs.Ends.{End, best, cut, empty, past, long}
use Rattle.tetri_simplex.specs.Relaxation.{IsRelaxedPoint, objective_value}

-- weights of the program's rows, ascending by row, each above 0 and in range, as the multiplier is; no number leaves the range on the way to the weighed number
pub record AreWeights (p : Program) (b : Bounds) (q : ℤ) (ws : List Weight) : Type 0 where
  pub rows : AreOfRows p ws
  pub ascending : WeightsAscend ws
  pub signs : AreNotNegative ws
  pub nonzero : All (λ w. w.by ≢ pos 0) ws
  pub in_range : All (λ w. IsWithin w.by) ws
  pub multiplier_in_range : IsWithin q
  pub formed : weigh_answer p b q ws ≡ Ok (weighed p b q ws)

-- the point is in the relaxation, above the best objective known, and the weights bound the region by its objective
pub record CertifiesBest (p : Program) (b : Bounds) (known : ℕ) (point : List ℚ) (q : ℤ) (ws : List Weight) : Type 0 where
  pub relaxed : IsRelaxedPoint p b point
  pub above : pos known <ℤ floor_ℚ (objective_value p point)
  pub weights : AreWeights p b q ws
  pub multiplier : pos 0 <ℤ q
  pub optimal : whole_ℚ (weighed p b q ws) ≡ whole_ℚ q *ℚ objective_value p point

-- no point of the region has an objective above the best one known
pub record CertifiesCut (p : Program) (b : Bounds) (known : ℕ) (q : ℤ) (ws : List Weight) : Type 0 where
  pub weights : AreWeights p b q ws
  pub multiplier : pos 0 <ℤ q
  pub at_most : int_div_euclid (weighed p b q ws) q ≤ℤ pos known

-- the region has no point
pub record CertifiesEmpty (p : Program) (b : Bounds) (ws : List Weight) : Type 0 where
  pub weights : AreWeights p b (pos 0) ws
  pub negative : weighed p b (pos 0) ws <ℤ pos 0

-- what an end says
abbrev pub Certifies : Program → Bounds → ℕ → End → Type 0
Certifies p b known (best point q ws) = CertifiesBest p b known point q ws
Certifies p b known (cut q ws) = CertifiesCut p b known q ws
Certifies p b known (empty ws) = CertifiesEmpty p b ws
Certifies p b known (past e) = Unit {0}
Certifies p b known long = Unit {0}

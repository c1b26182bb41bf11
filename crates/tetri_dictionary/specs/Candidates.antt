-- The code's candidates to enter.
use Rattle.std.specs.Prelude.{◌≡◌, ℕ, ◌<◌, List, length, get_or, Option, Some, None, true}
use Prim.Native.Nat.{suc}
use Rattle.tetri_algebra.specs.Rational.{ℚ}
use Rattle.tetri_algebra.specs.RationalRing.{zero_ℚ}
use Rattle.tetri_num.specs.Frac.{value}
use Rattle.tetri_dictionary.specs.declared.choices.Candidate.{Candidate}
use Rattle.tetri_dictionary.specs.Tables.{is_positive}

abbrev pub candidate_of : Option Candidate → Option (ℕ × ℚ)
candidate_of None = None
candidate_of (Some c) = Some (c.place, value c.ratio)

-- a nonbasic place with a coefficient above 0 in the row
pub record IsCandidate (nonbasic : List ℕ) (row : List ℚ) (c : Candidate) : Type 0 where
  pub within : c.place < length nonbasic
  pub positive : is_positive (get_or row (suc c.place) zero_ℚ) ≡ true

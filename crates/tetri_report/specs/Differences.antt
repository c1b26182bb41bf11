-- Where the lines of a cycle differ from others first.
use Rattle.std.specs.Prelude.{◌≡◌, ◌≢◌, ◌≤◌, ℕ, List, ◌∷◌, length, take, slice_get, Option, Some, None}
use Rattle.tetri_cert.specs.declared.certificate.Certificate.{Certificate}
use Rattle.tetri_state.specs.Begin.{Occurrences}
use Rattle.tetri_report.specs.Block.{Block}
use Rattle.tetri_report.specs.BlockLines.{block_lines, certificate_lines, event_lines}
use Rattle.tetri_report.specs.declared.line.PlanLine.{PlanLine}
use Rattle.tetri_report.specs.declared.line.ReportLine.{ReportLine}
use Rattle.tetri_report.specs.declared.line.ReportLine.TheVariants as lines

-- two lists agree before this place, and not there
pub record DifferFirstAt {X : Type 0} (xs ys : List X) (place : ℕ) : Type 0 where
  pub before : take place xs ≡ take place ys
  pub there : slice_get xs place ≢ slice_get ys place

-- The lists are the same, or this is the first place at which they differ.
abbrev pub IsDifference : {X : Type 0} → List X → List X → Option ℕ → Type 0
IsDifference xs ys None = xs ≡ ys
IsDifference xs ys (Some place) = DifferFirstAt xs ys place × (place ≤ length xs)

-- The events are the same, or this is the first place at which their lines differ, where a plan follows.
abbrev pub IsEventDifference : Occurrences → Occurrences → Option ℕ → Type 0
IsEventDifference o p None = o ≡ p
IsEventDifference o p (Some place) =
    (a b : PlanLine) (us vs : List ReportLine) → DifferFirstAt (event_lines o (lines.Plan a ∷ us)) (event_lines p (lines.Plan b ∷ vs)) place

-- The cycles are the same, or this is the first of their lines that differs.
abbrev pub IsLineDifference : Block → Block → Option ℕ → Type 0
IsLineDifference b c None = b ≡ c
IsLineDifference b c (Some place) = DifferFirstAt (block_lines b) (block_lines c) place

-- the cycle with this number, these events, starts and launched jobs in place of its own
abbrev pub corrected : Block → ℕ → Occurrences → List ℕ → List ℕ → Block
corrected b number o starts launched = record b {
  number = number;
  ended = o.ended;
  cancelled = o.cancelled;
  failed = o.failed;
  over = o.over;
  expired = o.expired;
  starts = starts;
  launched = launched;
}

-- It holds of each certificate that has so many lines.
abbrev pub ForCertificates : ℕ → (Certificate → Type 0) → Type 0
ForCertificates count holds = (c : Certificate) → length (certificate_lines c) ≡ count → holds c

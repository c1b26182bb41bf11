-- What holds of reports, for the crates above.
use Rattle.std.proofs.Common.{◌≡◌, ℕ, ◌<◌, ◌≤◌, List, [], ◌∷◌, ◌++◌, length, take, zero, suc, refl, ap, arith, All, ◌⊎◌, ⊎_elim, inl, inr}
use Rattle.std.specs.Prelude.{Ok, flat_map, slice_get}
use Rattle.tetri_io.specs.Lines.{lines_from}
use Rattle.tetri_state.specs.Begin.{Occurrences}
use Rattle.tetri_trace.specs.Scenario.{Scenario}
use Rattle.tetri_trace.specs.Sound.{IsSound}
use Rattle.tetri_report.specs.Block.{Block}
use Rattle.tetri_report.specs.BlockLines.{occurrences_in}
use Rattle.tetri_report.specs.Differences.{DifferFirstAt, corrected}
use Rattle.tetri_report.specs.Printable.{IsInRange, IsPrintable, IsSummaryInRange}
use Rattle.tetri_report.specs.Reading.{Reading, behind_line, line_answer, opened, report_in}
use Rattle.tetri_report.specs.Strips.{BeginsBare, Telling, answer_told, bare, certificate_with, strip_behind, told_answer}
use Rattle.tetri_report.specs.Text.{cycle_text, summary_text}
use Rattle.tetri_report.specs.declared.cycle.Summary.{Summary}
use Rattle.tetri_report.proofs.DifferLemmas.{nothing_else}
use Rattle.tetri_report.proofs.ReadReports.{report_back}
use Rattle.tetri_report.proofs.ShortLines.{lines_short}
pub use Rattle.tetri_report.proofs.ShortTexts.{behind_short, events_short, launches_short, plan_short, read_short}
pub use Rattle.tetri_report.proofs.StageLemmas.{before_certificate}
use Rattle.tetri_report.proofs.StripLemmas.{bare_behind, begins_bare_behind, certificate_behind, line_as_told, opened_begins_bare, told_bare}
pub use Rattle.tetri_report.proofs.LinesAhead.{none_left, texts_from}

-- a printed report reads back
pub printed_reads_back : (t : Scenario) → IsSound t → (bs : List Block) (s : Summary) → All (IsPrintable t) bs → All IsInRange bs → IsSummaryInRange s →
    report_in t (flat_map (cycle_text t) bs ++ summary_text s) ≡ Ok (bs, s)
printed_reads_back t sound = report_back t sound

-- its lines are short
pub printed_is_short : (t : Scenario) → IsSound t → (bs : List Block) (s : Summary) → All (IsPrintable t) bs → All IsInRange bs → IsSummaryInRange s →
    All (λ l. length l.0 ≤ 1048576) (lines_from 0 (flat_map (cycle_text t) bs ++ summary_text s))
printed_is_short t sound = lines_short t sound

-- a cycle with these events, starts and launches needs no correction
pub corrected_itself : (b : Block) (n : ℕ) (o : Occurrences) (starts launched : List ℕ) → b.number ≡ n → occurrences_in b ≡ o → b.starts ≡ starts → b.launched ≡ launched →
    b ≡ corrected b n o starts launched
corrected_itself b n o starts launched = nothing_else b n o starts launched

-- lists first differ at one place
pub differ_once : {X : Type 0} (xs ys : List X) (j k : ℕ) → DifferFirstAt xs ys j → DifferFirstAt xs ys k → j ≡ k
differ_once {X} xs ys j k first second = by_order (compared j k)
  where
    same_before : (us vs : List X) (i n : ℕ) → i < n → take n us ≡ take n vs → slice_get us i ≡ slice_get vs i
    same_before us vs i zero lt e = absurd (omega (arith, lt))
    same_before [] [] i (suc n) lt e = refl
    same_before [] (v ∷ vs) i (suc n) lt e = absurd cc
    same_before (u ∷ us) [] i (suc n) lt e = absurd cc
    same_before (u ∷ us) (v ∷ vs) zero (suc n) lt e = cc
    same_before (u ∷ us) (v ∷ vs) (suc i) (suc n) lt e = same_before us vs i n (omega (arith, lt)) (tails e)
      where
        tails : u ∷ take n us ≡ v ∷ take n vs → take n us ≡ take n vs
        tails e = cc

    compared : (m n : ℕ) → (m < n) ⊎ ((m ≡ n) ⊎ (n < m))
    compared zero zero = inr (inl refl)
    compared zero (suc n) = inl (omega arith)
    compared (suc m) zero = inr (inr (omega arith))
    compared (suc m) (suc n) =
        ⊎_elim (λ lt. inl (omega (arith, lt))) (λ rest. ⊎_elim (λ same. inr (inl (ap suc same))) (λ gt. inr (inr (omega (arith, gt)))) rest) (compared m n)

    by_order : (j < k) ⊎ ((j ≡ k) ⊎ (k < j)) → j ≡ k
    by_order (inl lt) = absurd (first.there (same_before xs ys j k lt second.before))
    by_order (inr (inl same)) = same
    by_order (inr (inr gt)) = absurd (second.there (same_before xs ys k j gt first.before))

-- Reading without certificates tells what reading with them does, and the certificates line by line.
pub told_of_bare : (t : Scenario) (r : Reading) (line : List ℕ) → told_answer t (bare r) line ≡ told_answer t r line
told_of_bare t r line = told_bare t r line

pub strip_of_bare : (t : Scenario) (r : Reading) (line : List ℕ) → strip_behind t (bare r) line ≡ bare (behind_line t r line)
strip_of_bare t r line = bare_behind t r line

pub line_is_told : (t : Scenario) (r : Reading) (line : List ℕ) → line_answer t r line ≡ answer_told r.block.certificate (told_answer t r line)
line_is_told t r line = line_as_told t r line

pub certificate_is_told : (t : Scenario) (r : Reading) (line : List ℕ) (told : Telling) → BeginsBare r → told_answer t r line ≡ Ok told →
    (behind_line t r line).block.certificate ≡ certificate_with r.block.certificate told
certificate_is_told t r line told begins answer = certificate_behind t r line told begins answer

pub begins_bare_on : (t : Scenario) (r : Reading) (line : List ℕ) → BeginsBare r → BeginsBare (behind_line t r line)
begins_bare_on t r line begins = begins_bare_behind t r line begins

pub begins_bare_first : BeginsBare opened
begins_bare_first = opened_begins_bare

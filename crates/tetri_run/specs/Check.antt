-- What a check of a report comes to, one step a line.
use Rattle.std.specs.Prelude.{◌≡◌, ◌⊎◌, ◌<◌, ◌≤◌, ℕ, ◌+◌, List, [], ◌∷◌, length, map, All, Option, Some, None, Result, Ok, Err}
use Rattle.tetri_io.specs.Lines.{lines_from}
use Rattle.tetri_report.specs.Block.{Block}
use Rattle.tetri_report.specs.Reading.{Reading, behind_line, end_answer, line_answer, opened, report_in}
use Rattle.tetri_base.specs.Lists.{with_first}
use Rattle.tetri_report.specs.declared.cycle.Summary.{Summary}
use Rattle.tetri_trace.specs.Scenario.{Scenario}
use Rattle.tetri_run.specs.Cycle.{IsCycle}
use Rattle.tetri_run.specs.Faulty.{IsFaulty}
use Rattle.tetri_run.specs.Run.{BoundsHold, IsRun, in_order, state_behind, summary_of}
use Rattle.tetri_run.specs.declared.why.Why.{Why}
use Rattle.tetri_run.specs.declared.why.Why.TheVariants.{Malformed, LineTooLong, WrongEvents}

-- no line of a report is longer
abbrev pub IsShort : List ℕ → Type 0
IsShort line = length line ≤ 1048576

abbrev pub lines_in : List ℕ → List (List ℕ)
lines_in bytes = map (λ l. l.0) (lines_from 0 bytes)

-- The report is accepted: its lines read as a whole run of the trace and its summary, and none is
-- too long. That no lawful allotment is worth more than a bound is no part of it: it follows from
-- the certificates.
pub record IsAccepted (t : Scenario) (bytes : List ℕ) : Type 0 where
  pub past : List Block
  pub reads : report_in t bytes ≡ Ok (in_order past, summary_of t past)
  pub run : IsRun t past
  pub whole : length past ≡ t.header.until
  pub short : All IsShort (lines_in bytes)

-- The report is accepted, and no lawful allotment of any of its cycles' instances is worth more
-- than the cycle's bound.
pub record IsAssured (t : Scenario) (bytes : List ℕ) : Type 0 where
  pub accepted : IsAccepted t bytes
  pub bounds : BoundsHold t accepted.past

-- How far a check has come: the cycles that were accepted, the line at which the one behind them
-- begins, and what is read so far.
pub record Checking : Type 0 where
  pub past : List Block
  pub first : ℕ
  pub reading : Reading

-- no line was checked
abbrev pub unchecked : Checking
unchecked = record { past = []; first = 1; reading = opened }

-- the line that ends a cycle is the first one of the next
abbrev pub first_behind : Checking → Option Block → ℕ
first_behind c None = c.first
first_behind c (Some b) = c.reading.lines + 1

-- how far it has come behind a line, which ended this cycle, if it ended one
abbrev pub checked_behind : Scenario → Checking → List ℕ → Option Block → Checking
checked_behind t c line ended
    = record {
      past = with_first ended c.past;
      first = first_behind c ended;
      reading = behind_line t
          c.reading line;
    }

-- the cycle that a line ended is one of the run
abbrev pub IsRight : Scenario → Checking → Option Block → Type 0
IsRight t c None = Unit {0}
IsRight t c (Some b) = IsCycle t (state_behind t c.past) b

-- The last line has a place in the run: the summary counts the run, which is whole, and any other
-- line is of a cycle before the end of the trace.
abbrev pub FitsRun : Scenario → List Block → Option Summary → Type 0
FitsRun t past None = length past < t.header.until
FitsRun t past (Some s) = (length past ≡ t.header.until) × (s ≡ summary_of t past)

abbrev pub IsInPlace : Scenario → Checking → Type 0
IsInPlace t c = FitsRun t c.past c.reading.summary

-- A line is checked without fault: it may stand there, the cycle that it ends is right, and it has
-- its place in the run.
pub record IsPassed (t : Scenario) (c : Checking) (line : List ℕ) (behind : Checking) : Type 0 where
  pub short : IsShort line
  pub ended : Option Block
  pub reads : line_answer t c.reading line ≡ Ok ended
  pub right : IsRight t c ended
  pub in_place : IsInPlace t behind
  pub is : behind ≡ checked_behind t c line ended

-- A line shows a fault, which refuses this line or an earlier one, by the first test that fails.
pub data IsRefused (t : Scenario) (c : Checking) (line : List ℕ) : ℕ → Why → Type 0 where
  too_long : 1048576 < length line → IsRefused t c line (c.reading.lines + 1) LineTooLong
  malformed : (number : ℕ) → IsShort line → line_answer t c.reading line ≡ Err number
      → IsRefused t c line number Malformed
  faulty : (b : Block) (place : ℕ) (why : Why) → IsShort line
      → line_answer t c.reading line ≡ Ok (Some b)
      → IsFaulty t (state_behind t c.past) b place why → IsRefused t c line (c.first + place) why
  out_of_place : (ended : Option Block) → IsShort line → line_answer t c.reading line ≡ Ok ended
      → IsRight t c ended
      → (IsInPlace t (checked_behind t c line ended) → ⊥)
      → IsRefused t c line (c.reading.lines + 1) WrongEvents

-- What the check of further lines comes to: the cycles of an accepted report, the last one first,
-- or the line that is refused and why.
abbrev pub EndsAs : Scenario → Checking → Result (List Block) (ℕ × Why) → Type 0
EndsAs t c (Ok past) = (past ≡ c.past) × ((s : Summary) × (end_answer c.reading ≡ Ok s))
EndsAs t c (Err (line, why)) = (why ≡ Malformed) × (end_answer c.reading ≡ Err line)

abbrev pub RefusesAs : Scenario → Checking → List ℕ → Result (List Block) (ℕ × Why) → Type 0
RefusesAs t c line (Ok past) = ⊥
RefusesAs t c line (Err (number, why)) = IsRefused t c line number why

abbrev pub ComesTo : Scenario → Checking → List (List ℕ) → Result (List Block) (ℕ × Why) → Type 0
ComesTo t c [] outcome = EndsAs t c outcome
ComesTo t c (line ∷ rest) outcome = RefusesAs t c line outcome
    ⊎ ((behind : Checking) × IsPassed t c line behind × ComesTo t behind rest outcome)

-- the report is refused at this line, for the first test that fails
abbrev pub IsRefusedAt : Scenario → List ℕ → ℕ → Why → Type 0
IsRefusedAt t bytes line why = ComesTo t unchecked (lines_in bytes) (Err (line, why))

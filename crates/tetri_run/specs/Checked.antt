-- What checking a cycle, a line and a report answers.
use Rattle.std.specs.Prelude.{◌≡◌, ◌<◌, ◌≤◌, ◌*◌, ◌^◌, ℕ, ◌+◌, List, length, Option, Some, None, Result, Ok, Err}
use Rattle.tetri_cert.specs.declared.certificate.Certificate.{Certificate}
use Rattle.tetri_cert.specs.declared.certificate.Certificate.TheVariants as certificates
use Rattle.tetri_cert.specs.declared.marks.Mark.{Mark}
use Rattle.tetri_claims.specs.Certified.{IsCertified}
use Rattle.tetri_claims.specs.Good.{IsHonest}
use Rattle.tetri_judge.specs.Verdict.{IsFirstFailed}
use Rattle.tetri_judge.specs.declared.verdict.Verdict.{Verdict}
use Rattle.tetri_judge.specs.declared.verdict.Verdict.TheVariants as verdicts
use Rattle.tetri_report.specs.Block.{Block}
use Rattle.tetri_report.specs.BlockLines.{certificate_lines, events}
use Rattle.tetri_judge.specs.Places.{place_of}
use Rattle.tetri_judge.specs.PlanOf.{planned}
use Rattle.tetri_judge.specs.Seen.{Tells, WalksTree}
use Rattle.tetri_report.specs.declared.fault.ReportFault.{ReportFault}
use Rattle.tetri_report.specs.declared.fault.ReportFault.TheVariants as faults
use Rattle.tetri_report.specs.Reading.{Reading, behind_line, line_answer}
use Rattle.tetri_report.specs.Strips.{BeginsBare, Telling, bare, told_answer}
use Rattle.tetri_report.specs.declared.cycle.Summary.{Summary}
use Rattle.tetri_report.specs.declared.line.Stage.TheVariants.{Closed}
use Rattle.tetri_space.specs.Sound.{IsSound as IsSoundSpace}
use Rattle.tetri_space.specs.Space.{Space, space}
use Rattle.tetri_state.specs.After.{after}
use Rattle.tetri_state.specs.Begin.{begin, occurrences, occurring}
use Rattle.tetri_state.specs.Launch.{worth_launched}
use Rattle.tetri_state.specs.Reached.{IsReached, between}
use Rattle.tetri_state.specs.Snapshot.{Snapshot}
use Rattle.tetri_trace.specs.Scenario.{Scenario}
use Rattle.tetri_run.specs.Check.{Checking, FitsRun, IsInPlace, IsPassed, IsRefused, IsRight, IsShort, checked_behind}
use Rattle.tetri_run.specs.Cycle.{IsCycle}
use Rattle.tetri_run.specs.Faulty.{IsFaulty, why_of}
use Rattle.tetri_cycles.specs.Tally.{summary_at}
use Rattle.tetri_run.specs.Telling.{optimal_count}
use Rattle.tetri_run.specs.Run.{IsRun, optimal_cycles, state_behind, summary_of, worth_of_run}
use Rattle.tetri_run.specs.declared.halt.CheckHalt.{CheckHalt}
use Rattle.tetri_run.specs.declared.halt.CheckHalt.TheVariants.{Refused, ReadFault, NoMemory}
use Rattle.tetri_run.specs.declared.sight.BegunSlot.{BegunSlot}
use Rattle.tetri_run.specs.declared.sight.Sight.{Sight}
use Rattle.tetri_run.specs.declared.sight.Sight.TheVariants as sights
use Rattle.tetri_run.specs.declared.sight.View.{View}
use Rattle.tetri_cycles.specs.declared.planner.SlotTally.{SlotTally}
use Rattle.tetri_run.specs.declared.check.Progress.{Progress}
use Rattle.tetri_cycles.specs.declared.tally.RunTally.{RunTally}
use Rattle.tetri_run.specs.declared.why.Why.{Why}
use Rattle.tetri_run.specs.declared.why.Why.TheVariants.{Malformed, WrongEvents}
use Rattle.tetri_state.specs.Planning.{instance_at}

-- what a verdict ends a check with, where the cycle's first line has this number
abbrev pub AnswersVerdict : CheckHalt → Verdict → ℕ → Block → Type 0
AnswersVerdict (Refused line why) v first b = (line ≡ first + place_of b v) × (why_of v ≡ Some why)
AnswersVerdict ReadFault v first b = ⊥
AnswersVerdict NoMemory v first b = v ≡ verdicts.NoMemory

-- What the tests of a plan answer, where the cycle's first line has this number: it is honest and
-- certified, or the first test that it fails refuses the line at its place.
abbrev pub AnswersPlan : {U : Type 0} → Result U CheckHalt → Space → ℕ → ℕ → ℕ → Block → Type 0
AnswersPlan (Ok u) i carried budget first b = IsHonest i carried (planned b)
    × IsCertified i budget (planned b)
AnswersPlan (Err (Refused line why)) i carried budget first b =
    (v : Verdict) × IsFirstFailed i carried budget (planned b) v × (line ≡ first + place_of b v)
    × (why_of v ≡ Some why)
AnswersPlan (Err ReadFault) i carried budget first b = ⊥
AnswersPlan (Err NoMemory) i carried budget first b = Unit {0}

-- The cycle is one of the run, and what it launches is launched.
pub record IsDone (t : Scenario) (old new : Snapshot) (b : Block) (tally : SlotTally) : Type 0 where
  pub cycle : IsCycle t old b
  pub state : new ≡ after t (begin t old) b.grants
  pub worth : tally.worth ≡ worth_launched (instance_at t old) b.grants
  pub optimal : tally.optimal ≡ optimal_count b.mark

-- what checking a cycle answers that begins in this state, and whose first line has this number
abbrev pub AnswersCycle : Result SlotTally CheckHalt → Scenario → Snapshot → Snapshot → ℕ → Block
    → Type 0
AnswersCycle (Ok tally) t old new first b = IsDone t old new b tally
AnswersCycle (Err (Refused line why)) t old new first b = (place : ℕ) × (line ≡ first + place)
    × IsFaulty t old b place why
AnswersCycle (Err ReadFault) t old new first b = ⊥
AnswersCycle (Err NoMemory) t old new first b = Unit {0}

-- a fault of a report's text as the end of its check
abbrev pub halt_of : ReportFault → CheckHalt
halt_of (faults.Malformed line) = Refused line Malformed
halt_of faults.NoMemory = NoMemory

-- Cycles of a run were checked, and this is added up over them.
pub record IsBehind (t : Scenario) (past : List Block) (tally : RunTally) : Type 0 where
  pub run : IsRun t past
  pub worth : tally.worth ≡ worth_of_run t past
  pub optimal : tally.optimal ≡ optimal_cycles past
  pub small_worth : tally.worth ≤ length past * 2 ^ 64
  pub small_optimal : tally.optimal ≤ length past

-- The lines so far may stand. A cycle has at most one event, grant, line of its certificate or
-- launch more than there are lines from its first one on, since an empty block counts a line of a
-- certificate already; and it has a start for each grant. Where a summary was read, the report is
-- closed.
pub record IsInOrder (first : ℕ) (r : Reading) : Type 0 where
  pub sane : r.fault ≡ None
  pub numbered : 1 ≤ first
  pub paged : first
      + (events r.block + length r.block.grants + length (certificate_lines r.block.certificate)
      + length r.block.launched) ≤ r.lines + 2
  pub starts : length r.block.starts ≡ length r.block.grants
  pub closed : (s : Summary) → r.summary ≡ Some s → r.stage ≡ Closed
  pub begins : BeginsBare r

-- The slot behind this state has begun, and the state with it.
pub record HasBegun (t : Scenario) (last now : Snapshot) (slot : BegunSlot) : Type 0 where
  pub state : now ≡ begin t last
  pub instance : space slot.inst ≡ instance_at t last
  pub happened : occurrences slot.happened ≡ occurring t last
  pub sound : IsSoundSpace (space slot.inst)

-- What is seen of this certificate, of the cycle behind this state: tops by their numbers, while
-- the slot has not begun, or a walk over its tree in the instance of the slot, which has begun.
abbrev pub Sees : Scenario → Snapshot → Certificate → Snapshot → Sight → Type 0
Sees t last c now (sights.Tops columns rows) = (now ≡ last) × (c ≡ certificates.Tops columns rows)
Sees t last c now (sights.Tree slot walk lines) =
    HasBegun t last now slot
    × ((marks : List Mark) × (c ≡ certificates.Tree marks)
    × WalksTree (space slot.inst) marks walk × (lines ≡ length marks))

-- Such a certificate is seen, of a cycle that begins before the end of the trace, with fewer lines
-- than this number.
pub record SeesSome (t : Scenario) (now : Snapshot) (sight : Sight) (most : ℕ) : Type 0 where
  pub last : Snapshot
  pub certificate : Certificate
  pub reached : IsReached t between last
  pub in_run : last.now < t.header.until
  pub sees : Sees t last certificate now sight
  pub few : length (certificate_lines certificate) < most

-- What a cycle is judged by whose certificate is this, once its slot has begun.
pub record IsViewOf (t : Scenario) (last : Snapshot) (c : Certificate) (now : Snapshot)
    (view : View) : Type 0 where
  pub slot : HasBegun t last now view.slot
  pub tells : Tells (space view.slot.inst) c view.seen
  pub lines : length (certificate_lines c) ≡ view.lines

-- What is kept for a check that has come this far, but for the place of the last line in the run.
pub record Keeps (t : Scenario) (c : Checking) (p : Progress) : Type 0 where
  pub behind : IsBehind t c.past p.tally
  pub sight : Sees t (state_behind t c.past) c.reading.block.certificate p.state p.sight
  pub reading : p.strips ≡ bare c.reading
  pub first : p.first ≡ c.first
  pub in_order : IsInOrder c.first c.reading

-- The check has come this far, with what is kept for it.
pub record IsAt (t : Scenario) (c : Checking) (p : Progress) : Type 0 where
  pub keeps : Keeps t c p
  pub in_place : IsInPlace t c

-- A line was read, which told this, and all else is kept as before it.
pub record IsFed (t : Scenario) (c : Checking) (p : Progress) (line : List ℕ)
    (told : Telling) : Type 0 where
  pub short : IsShort line
  pub behind : IsBehind t c.past p.tally
  pub sight : Sees t (state_behind t c.past) c.reading.block.certificate p.state p.sight
  pub first : p.first ≡ c.first
  pub in_order : IsInOrder c.first c.reading
  pub in_place : IsInPlace t c
  pub tells : told_answer t c.reading line ≡ Ok told
  pub strips : p.strips ≡ bare (behind_line t c.reading line)

-- A line was read and what it told was taken: the cycle that it ended, if it ended one, is right,
-- and what is kept is for the check behind it.
pub record IsTaken (t : Scenario) (c : Checking) (line : List ℕ) (new : Progress) : Type 0 where
  pub ended : Option Block
  pub short : IsShort line
  pub reads : line_answer t c.reading line ≡ Ok ended
  pub right : IsRight t c ended
  pub keeps : Keeps t (checked_behind t c line ended) new

-- what taking a line answers that was read: that it was taken, or the fault that it shows
abbrev pub AnswersTaken : {U : Type 0} → Result U CheckHalt → Scenario → Checking → Progress
    → List ℕ → Type 0
AnswersTaken (Ok u) t c new line = IsTaken t c line new
AnswersTaken (Err (Refused number why)) t c new line = IsRefused t c line number why
AnswersTaken (Err ReadFault) t c new line = ⊥
AnswersTaken (Err NoMemory) t c new line = Unit {0}

-- A run has as many cycles as the slot that is kept says, and where a summary was read, what is
-- kept are the numbers of the run.
pub record CountsRun (t : Scenario) (past : List Block) (p : Progress) : Type 0 where
  pub run : IsRun t past
  pub now : p.state.now ≡ length past
  pub counted : (s : Summary) → p.strips.summary ≡ Some s
      → summary_at p.state p.tally ≡ summary_of t past

-- what testing the place of the last line answers, which has this number
abbrev pub AnswersPlace : {U : Type 0} → Result U CheckHalt → Scenario → List Block → Option Summary
    → ℕ → Type 0
AnswersPlace (Ok u) t past summary number = FitsRun t past summary
AnswersPlace (Err halt) t past summary number = (halt ≡ Refused number WrongEvents)
    × (FitsRun t past summary → ⊥)

-- a line was checked: how far the check has come, or the fault that the line shows
abbrev pub AnswersLine : {U : Type 0} → Result U CheckHalt → Scenario → Checking → Progress → List ℕ
    → Type 0
AnswersLine (Ok u) t c new line = (behind : Checking) × IsPassed t c line behind × IsAt t behind new
AnswersLine (Err (Refused number why)) t c new line = IsRefused t c line number why
AnswersLine (Err ReadFault) t c new line = ⊥
AnswersLine (Err NoMemory) t c new line = Unit {0}

-- what an observer made of the cycle that a line ended behind these, if it ended one
abbrev pub SawEnded : {O : Type 0} → (Scenario → Snapshot → Block → O → O → Type 0) → Scenario
    → List Block → Option Block → O → O → Type 0
SawEnded saw t past None old new = new ≡ old
SawEnded saw t past (Some b) old new = saw t (state_behind t past) b old new

-- what the check of a whole report answers, which comes to such outcomes, and whose cycles were
-- seen so where it is accepted
abbrev pub AnswersReport : {U : Type 0} → Result U CheckHalt
    → (Result (List Block) (ℕ × Why) → Type 0) → (List Block → Type 0) → Type 0
AnswersReport (Ok u) Comes Saw = (past : List Block) × (Comes (Ok past) × Saw past)
AnswersReport (Err (Refused line why)) Comes Saw = Comes (Err (line, why))
AnswersReport (Err ReadFault) Comes Saw = Unit {0}
AnswersReport (Err NoMemory) Comes Saw = Unit {0}

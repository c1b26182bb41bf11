-- How a check goes on by a line.
use Rattle.std.proofs.Common.{◌≡◌, ◌≢◌, ℕ, ◌+◌, ◌^◌, ◌<◌, ◌≤◌, List, [], ◌∷◌, ◌++◌, length, map, drop, Bool, true, false, not, cond, nat_eq, refl, sym, ap, ◌∙◌, subst, arith, inl, inr, ◌⊎◌}
use Rattle.std.specs.Prelude.{◌&&◌, ◌↔◌, Option, Some, None, Result, Ok, Err}
use Rattle.tetri_cert.specs.declared.certificate.Certificate.{Certificate}
use Rattle.tetri_cert.specs.declared.certificate.Certificate.TheVariants.{Tops, Tree}
use Rattle.tetri_cert.specs.declared.marks.Mark.{Mark}
use Rattle.tetri_judge.specs.Verdict.{IsFirstFailed}
use Rattle.tetri_judge.specs.declared.verdict.Verdict.{Verdict}
use Rattle.tetri_judge.specs.declared.verdict.Verdict.TheVariants as verdicts
use Rattle.std.proofs.lemmas.Bool.Decides.{nat_tests}
use Rattle.std.proofs.lemmas.List.{length-append, length-map}
use Rattle.tetri_io.specs.Lines.{line_of}
use Rattle.tetri_io.proofs.TextLaws.{first_line, line_of-le, some_line}
use Rattle.tetri_base.specs.ResultSteps.{◌>>=◌}
use Rattle.tetri_report.specs.Block.{Block, headed}
use Rattle.tetri_report.specs.BlockLines.{certificate_lines, end_place, events}
use Rattle.tetri_judge.specs.Places.{place_of}
use Rattle.tetri_judge.specs.PlanOf.{planned}
use Rattle.tetri_judge.specs.Seen.{Tells, WalksTree}
use Rattle.tetri_judge.specs.declared.seen.Seen.{Seen}
use Rattle.tetri_judge.specs.declared.seen.Seen.TheVariants as seen
use Rattle.tetri_judge.specs.declared.tree_walk.TreeWalk.{TreeWalk}
use Rattle.tetri_report.specs.Answers as report
use Rattle.tetri_report.specs.Line.{line_in}
use Rattle.tetri_report.specs.Strips.{AnswersTold, BeginsBare, Telling, block_told, certificate_with, ended_or_more, strip_behind, telling_of, told_answer, told_by}
use Rattle.tetri_report.specs.Strips as telling
use Rattle.tetri_report.specs.declared.cycle.Head.{Head}
use Rattle.tetri_report.proofs.ReportLaws.{before_certificate, begins_bare_first, begins_bare_on, certificate_is_told, line_is_told, none_left, strip_of_bare, texts_from, told_of_bare}
use Rattle.tetri_report.specs.declared.fault.ReportFault.{ReportFault}
use Rattle.tetri_report.specs.declared.fault.ReportFault.TheVariants as faults
use Rattle.tetri_state.specs.Begin.{begin}
use Rattle.tetri_space.specs.Sound.{IsSound as IsSoundSpace}
use Rattle.tetri_space.specs.Space.{Space, space}
use Rattle.tetri_report.specs.Reading.{Reading, behind_line, block_before, end_answer, is_certified, line_answer, opened, with_line, with_node}
use Rattle.tetri_base.specs.Lists.{with_first}
use Rattle.tetri_report.specs.Reading as reading
use Rattle.tetri_report.specs.declared.cycle.Summary.{Summary}
use Rattle.tetri_report.specs.declared.line.ReportLine.{ReportLine}
use Rattle.tetri_report.specs.declared.line.ReportLine.TheVariants as lines
use Rattle.tetri_report.specs.declared.line.Stage.{Stage}
use Rattle.tetri_report.specs.declared.line.Stage.TheVariants as stages
use Rattle.tetri_state.specs.Reached.{IsReached, begun, between}
use Rattle.tetri_state.proofs.StateLaws.{begin_reached}
use Rattle.tetri_state.specs.Snapshot.{Snapshot, opening_state}
use Rattle.tetri_trace.specs.Scenario.{Scenario}
use Rattle.tetri_run.specs.Check.{Checking, ComesTo, EndsAs, FitsRun, IsInPlace, IsPassed, IsRefused, IsShort, checked_behind, faulty, first_behind, malformed, out_of_place, too_long}
use Rattle.tetri_run.specs.Checked.{AnswersCycle, AnswersLine, AnswersPlace, AnswersPlan, AnswersReport, AnswersTaken, AnswersVerdict, CountsRun, HasBegun, IsAt, IsBehind, IsDone, IsFed, IsInOrder, IsTaken, IsViewOf, Keeps, SawEnded, Sees, SeesSome, halt_of}
use Rattle.tetri_run.specs.Faulty.{why_of}
use Rattle.tetri_run.specs.Run.{IsRun, in_order, optimal_cycles, state_behind, worth_of_run}
use Rattle.tetri_run.specs.declared.check.Progress.{Progress}
use Rattle.tetri_run.specs.declared.sight.BegunSlot.{BegunSlot}
use Rattle.tetri_run.specs.declared.sight.Sight.{Sight}
use Rattle.tetri_run.specs.declared.sight.View.{View}
use Rattle.tetri_run.specs.declared.sight.Sight.TheVariants as sights
use Rattle.tetri_cycles.specs.declared.planner.SlotTally.{SlotTally}
use Rattle.tetri_run.specs.declared.halt.CheckHalt.{CheckHalt}
use Rattle.tetri_run.specs.declared.halt.CheckHalt.TheVariants.{Refused, ReadFault, NoMemory}
use Rattle.tetri_run.specs.declared.why.Why.{Why}
use Rattle.tetri_run.specs.declared.why.Why.TheVariants.{LineTooLong, Malformed, WrongEvents}
use Rattle.tetri_run.proofs.CheckLemmas.{closed_blocks, read_line, true_not_false}
use Rattle.tetri_run.proofs.RunLemmas.{run_reaches}
use Rattle.tetri_cycles.proofs.CycleLaws.{behind_last, now_behind, observed_last, summary_is}
use Rattle.tetri_cycles.specs.Observed.{IsShown, Observed, behind, next}
use Rattle.tetri_cycles.specs.declared.observer.SeenSlot.{SeenSlot}
use Rattle.tetri_run.specs.Telling.{block_cycles}

-- how many events, grants, lines of its certificate and launches a cycle has
abbrev pub told_lines : Block → ℕ
told_lines b = events b + length b.grants + length (certificate_lines b.certificate) + length b.launched

-- a node more is at most a line more
node_more : (c : Certificate) (m : Mark) → length (certificate_lines (with_node c m)) ≤ length (certificate_lines c) + 1
node_more (Tops columns rows) m = omega arith
node_more (Tree marks) m = omega (arith, length-map (marks ++ m ∷ []) lines.Node, length-map marks lines.Node, length-append marks (m ∷ []))

-- the first line behind a line that was read
abbrev first_after : ℕ → Reading → ReportLine → ℕ
first_after first r l = cond (reading.ends_block l && is_certified r.stage) (r.lines + 1) first

-- the lines of a cycle are as many as it tells
pages : (first : ℕ) (r : Reading) (l : ReportLine) → first + told_lines r.block ≤ r.lines + 2 → first_after first r l + told_lines (with_line r.block l) ≤ r.lines + 1 + 2
pages first r (lines.Cycle number) h = by_stage (is_certified r.stage)
  where
    by_stage : (b : Bool) → cond b (r.lines + 1) first + 1 ≤ r.lines + 1 + 2
    by_stage true = omega arith
    by_stage false = omega (arith, h)
pages first r (lines.Summary s) h = by_stage (is_certified r.stage)
  where
    by_stage : (b : Bool) → cond b (r.lines + 1) first + 1 ≤ r.lines + 1 + 2
    by_stage true = omega arith
    by_stage false = omega (arith, h)
pages first r (lines.End piece) h = omega (arith, h, length-append r.block.ended (piece ∷ []))
pages first r (lines.Cancel job) h = omega (arith, h, length-append r.block.cancelled (job ∷ []))
pages first r (lines.Fail job) h = omega (arith, h, length-append r.block.failed (job ∷ []))
pages first r (lines.Over piece) h = omega (arith, h, length-append r.block.over (piece ∷ []))
pages first r (lines.Expire job) h = omega (arith, h, length-append r.block.expired (job ∷ []))
pages first r (lines.Plan p) h = omega (arith, h)
pages first r (lines.Grant grant start) h = omega (arith, h, length-append r.block.grants (grant ∷ []))
pages first r (lines.Tops columns rows) h = omega (arith, h)
pages first r (lines.Node mark) h = omega (arith, h, node_more r.block.certificate mark)
pages first r (lines.Launch job) h = omega (arith, h, length-append r.block.launched (job ∷ []))

-- each grant has a start
starts_on : (b : Block) (l : ReportLine) → length b.starts ≡ length b.grants → length (with_line b l).starts ≡ length (with_line b l).grants
starts_on b (lines.Cycle number) h = refl
starts_on b (lines.Summary s) h = refl
starts_on b (lines.End piece) h = h
starts_on b (lines.Cancel job) h = h
starts_on b (lines.Fail job) h = h
starts_on b (lines.Over piece) h = h
starts_on b (lines.Expire job) h = h
starts_on b (lines.Plan p) h = h
starts_on b (lines.Grant grant start) h = omega (arith, h, length-append b.grants (grant ∷ []), length-append b.starts (start ∷ []))
starts_on b (lines.Tops columns rows) h = h
starts_on b (lines.Node mark) h = h
starts_on b (lines.Launch job) h = h

-- the summary closes a report
closes : (l : ReportLine) (s : Summary) → reading.summary_of l ≡ Some s → reading.stage_behind l ≡ stages.Closed
closes (lines.Summary m) s e = refl
closes (lines.Cycle number) s e = absurd cc
closes (lines.End piece) s e = absurd cc
closes (lines.Cancel job) s e = absurd cc
closes (lines.Fail job) s e = absurd cc
closes (lines.Over piece) s e = absurd cc
closes (lines.Expire job) s e = absurd cc
closes (lines.Plan p) s e = absurd cc
closes (lines.Grant grant start) s e = absurd cc
closes (lines.Tops columns rows) s e = absurd cc
closes (lines.Node mark) s e = absurd cc
closes (lines.Launch job) s e = absurd cc

first_is : (c : Checking) (l : ReportLine) → first_behind c (block_before c.reading l) ≡ first_after c.first c.reading l
first_is c l = by_test (reading.ends_block l && is_certified c.reading.stage)
  where
    by_test : (b : Bool) → first_behind c (cond b (Some c.reading.block) None) ≡ cond b (c.reading.lines + 1) c.first
    by_test true = refl
    by_test false = refl

first_numbered : (first : ℕ) (r : Reading) (l : ReportLine) → 1 ≤ first → 1 ≤ first_after first r l
first_numbered first r l some = by_test (reading.ends_block l && is_certified r.stage)
  where
    by_test : (b : Bool) → 1 ≤ cond b (r.lines + 1) first
    by_test true = omega arith
    by_test false = some

pub in_order_on : (t : Scenario) (c : Checking) (line : List ℕ) (ended : Option Block) → line_answer t c.reading line ≡ Ok ended → IsInOrder c.first c.reading →
    IsInOrder (first_behind c ended) (behind_line t c.reading line)
in_order_on t c line ended answer is =
    let read = read_line t c.reading line ended answer in
    let l = read.said in
    let first : first_behind c ended ≡ first_after c.first c.reading l = ap (first_behind c) read.before ∙ first_is c l in
    subst (λ n. IsInOrder n (behind_line t c.reading line)) (sym first)
    (subst (IsInOrder (first_after c.first c.reading l)) (sym read.behind)
    (record {
      sane = refl;
      numbered = first_numbered c.first c.reading l is.numbered;
      paged = pages c.first c.reading l is.paged;
      starts = starts_on c.reading.block l is.starts;
      closed = λ s e. closes l s e;
      begins = subst BeginsBare read.behind (begins_bare_on t c.reading line is.begins);
    }))

pub unchecked_in_order : IsInOrder 1 opened
unchecked_in_order = record {
  sane = refl;
  numbered = omega arith;
  paged = omega arith;
  starts = refl;
  closed = λ s e. absurd (no_summary s e);
  begins = begins_bare_first;
}
  where
    no_summary : (s : Summary) → None ≡ Some s → ⊥
    no_summary s e = absurd cc

-- a line that was read follows no summary
pub not_closed : (t : Scenario) (c : Checking) (line : List ℕ) (ended : Option Block) → line_answer t c.reading line ≡ Ok ended → IsInOrder c.first c.reading → IsInPlace t c →
    length c.past < t.header.until
not_closed t c line ended answer is place = by_summary c.reading.summary refl
  where
    by_summary : (m : Option Summary) → c.reading.summary ≡ m → length c.past < t.header.until
    by_summary None e = subst (FitsRun t c.past) e place
    by_summary (Some s) e =
        let read = read_line t c.reading line ended answer in
        absurd (true_not_false (ap (λ (g : Stage). reading.may_follow g read.said) (sym (is.closed s e)) ∙ read.fits) (closed_blocks read.said))

-- the block that a line ends is the one that was read
pub ended_is : (t : Scenario) (r : Reading) (line : List ℕ) (b : Block) → line_answer t r line ≡ Ok (Some b) → b ≡ r.block
ended_is t r line b answer =
    let read = read_line t r line (Some b) answer in
    by_test (reading.ends_block read.said && is_certified r.stage) read.before
  where
    by_test : (q : Bool) → Some b ≡ cond q (Some r.block) None → b ≡ r.block
    by_test true e = cc
    by_test false e = absurd cc

-- What is seen of a certificate.

-- the slot is the one behind the run, whether it has begun or not
pub sees_now : (t : Scenario) (last now : Snapshot) (c : Certificate) (sight : Sight) → Sees t last c now sight → now.now ≡ last.now
sees_now t last now c (sights.Tops columns rows) sees = ap (λ (s : Snapshot). s.now) sees.0
sees_now t last now c (sights.Tree slot walk count) sees = ap (λ (s : Snapshot). s.now) sees.0.state

-- where tops are seen, or nothing, the slot has not begun
pub sees_tops : (t : Scenario) (last now : Snapshot) (c : Certificate) (sight : Sight) (columns rows : ℕ) → Sees t last c now sight → c ≡ Tops columns rows → now ≡ last
sees_tops t last now c (sights.Tops m n) columns rows sees e = sees.0
sees_tops t last now c (sights.Tree slot walk count) columns rows sees e = absurd (tops_or_tree (sym e ∙ sees.1.1))
  where
    tops_or_tree : {marks : List Mark} → Tops columns rows ≡ Tree marks → ⊥
    tops_or_tree e = absurd cc

-- a verdict without a cause is want of memory
pub no_cause : (v : Verdict) → why_of v ≡ None → v ≡ verdicts.NoMemory
no_cause (verdicts.Unlawful u) e = absurd cc
no_cause (verdicts.WrongValue printed found) e = absurd cc
no_cause (verdicts.WasteGrant place) e = absurd cc
no_cause (verdicts.BelowCarry printed carry) e = absurd cc
no_cause (verdicts.BadTree node why) e = absurd cc
no_cause (verdicts.Past node column) e = absurd cc
no_cause (verdicts.WrongBound printed found) e = absurd cc
no_cause verdicts.WrongMark e = absurd cc
no_cause verdicts.NoMemory e = refl

-- the line of a verdict does not depend on the certificate
pub refused_within : (head : Head) (c d : Certificate) (v : Verdict) (first : ℕ) → place_of (headed head c) v ≤ end_place (headed head c) → first + end_place (headed head c) < 2 ^ 64 →
    first + place_of (headed head d) v < 2 ^ 64
refused_within head c d v first within few = omega (arith, within, few, same v)
  where
    same : (w : Verdict) → place_of (headed head d) w ≡ place_of (headed head c) w
    same (verdicts.Unlawful u) = refl
    same (verdicts.WrongValue printed found) = refl
    same (verdicts.WasteGrant place) = refl
    same (verdicts.BelowCarry printed carry) = refl
    same (verdicts.BadTree node why) = refl
    same (verdicts.Past node column) = refl
    same (verdicts.WrongBound printed found) = refl
    same verdicts.WrongMark = refl
    same verdicts.NoMemory = refl

-- what a verdict ends the check with is what the tests of the plan answer
pub plan_answer : (i : Space) (carried budget first : ℕ) (b : Block) (v : Verdict) (halt : CheckHalt) → (v ≡ verdicts.NoMemory) ⊎ IsFirstFailed i carried budget (planned b) v →
    AnswersVerdict halt v first b → AnswersPlan {U = Unit {0}} (Err halt) i carried budget first b
plan_answer i carried budget first b v (Refused line why) (inl e) answer = let none : why_of verdicts.NoMemory ≡ Some why = subst (λ w. why_of w ≡ Some why) e answer.1 in absurd cc
plan_answer i carried budget first b v (Refused line why) (inr failed) answer = (v, failed, answer.0, answer.1)
plan_answer i carried budget first b v ReadFault failed answer = absurd answer
plan_answer i carried budget first b v NoMemory failed answer = tt

-- The last line's place in the run, as the code tests it.

pub tested_equal : (m n : ℕ) → nat_eq m n ≡ true → m ≡ n
tested_equal m n e = grind (arith, nat_tests, e)

equal_tested : (m n : ℕ) → m ≡ n → nat_eq m n ≡ true
equal_tested m n e = grind (arith, nat_tests, e)

run_within : (t : Scenario) (past : List Block) → IsRun t past → length past ≤ t.header.until
run_within t [] run = omega arith
run_within t (b ∷ past) run = omega (arith, run.0, now_behind block_cycles t past)

pub before_end : (t : Scenario) (past : List Block) → IsRun t past → (now : ℕ) → now ≡ length past → (not (nat_eq now t.header.until) ≡ true) ↔ (length past < t.header.until)
before_end t past run now is =
    let most = run_within t past run in
    (λ test. before most (not_equal now t.header.until test), λ lt. unequal now t.header.until (omega (arith, lt, is)))
  where
    not_equal : (m n : ℕ) → not (nat_eq m n) ≡ true → m ≢ n
    not_equal m n test e = absurd (true_not_false test (ap not (equal_tested m n e)))

    unequal : (m n : ℕ) → m < n → not (nat_eq m n) ≡ true
    unequal m n lt = grind (arith, nat_tests, lt)

    before : length past ≤ t.header.until → now ≢ t.header.until → length past < t.header.until
    before most other = omega (arith, most, is, other)

-- all numbers of two summaries are tested to be equal
abbrev pub summaries_equal : Summary → Summary → Bool
summaries_equal m s =
    nat_eq m.cycles s.cycles && (nat_eq m.launched s.launched && (nat_eq m.ended s.ended && (nat_eq m.cancelled s.cancelled && (nat_eq m.expired s.expired
    && (nat_eq m.worth s.worth && nat_eq m.optimal s.optimal)))))

both_true : (a b : Bool) → (a && b) ≡ true → (a ≡ true) × (b ≡ true)
both_true true true e = (refl, refl)
both_true true false e = absurd (true_not_false e refl)
both_true false b e = absurd (true_not_false e refl)

pub same_summary : (m s : Summary) → summaries_equal m s ≡ true → m ≡ s
same_summary m s e =
    let one = both_true _ _ e in
    let two = both_true _ _ one.1 in
    let three = both_true _ _ two.1 in
    let four = both_true _ _ three.1 in
    let five = both_true _ _ four.1 in
    let six = both_true _ _ five.1 in
    all (tested_equal m.cycles s.cycles one.0) (tested_equal m.launched s.launched two.0) (tested_equal m.ended s.ended three.0) (tested_equal m.cancelled s.cancelled four.0)
    (tested_equal m.expired s.expired five.0) (tested_equal m.worth s.worth six.0) (tested_equal m.optimal s.optimal six.1)
  where
    all : m.cycles ≡ s.cycles → m.launched ≡ s.launched → m.ended ≡ s.ended → m.cancelled ≡ s.cancelled → m.expired ≡ s.expired → m.worth ≡ s.worth → m.optimal ≡ s.optimal → m ≡ s
    all a b c d e f g =
        ap (λ n. record m { cycles = n }) a
        ∙ ap (λ n. record m { cycles = s.cycles; launched = n }) b
        ∙ ap (λ n. record m { cycles = s.cycles; launched = s.launched; ended = n }) c
        ∙ ap (λ n. record m { cycles = s.cycles; launched = s.launched; ended = s.ended; cancelled = n }) d
        ∙ ap (λ n. record s { expired = n; worth = m.worth; optimal = m.optimal }) e
        ∙ ap (λ n. record s { worth = n; optimal = m.optimal }) f
        ∙ ap (λ n. record s { optimal = n }) g

pub summary_tested : (m s : Summary) → m ≡ s → summaries_equal m s ≡ true
summary_tested m s e = ap (summaries_equal m) (sym e) ∙ itself
  where
    one : (n : ℕ) (b : Bool) → b ≡ true → (nat_eq n n && b) ≡ true
    one n b e = ap (λ a. a && b) (equal_tested n n refl) ∙ e

    itself : summaries_equal m m ≡ true
    itself =
        one m.cycles _ (one m.launched _ (one m.ended _ (one m.cancelled _ (one m.expired _ (one m.worth _ (equal_tested m.optimal m.optimal refl))))))

-- what is kept are the numbers of the run
pub keeps_counts : (t : Scenario) (c : Checking) (p : Progress) → Keeps t c p → CountsRun t c.past p
keeps_counts t c p keeps = record {
  run = keeps.behind.run;
  now = sees_now t (state_behind t c.past) p.state c.reading.block.certificate p.sight keeps.sight ∙ now_behind block_cycles t c.past;
  counted = λ s told. summary_is block_cycles t c.past p.state p.tally (at_rest s (ap (λ (r : Reading). r.summary) (sym keeps.reading) ∙ told)) keeps.behind.worth keeps.behind.optimal;
}
  where
    at_rest : (s : Summary) → c.reading.summary ≡ Some s → p.state ≡ state_behind t c.past
    at_rest s told =
        let none : is_certified c.reading.stage ≡ false = ap is_certified (keeps.in_order.closed s told) in
        sees_tops t (state_behind t c.past) p.state c.reading.block.certificate p.sight 0 0 keeps.sight (keeps.in_order.begins none)

-- Going on by a line.

-- how many lines were read behind one more
lines_more : (t : Scenario) (r : Reading) (line : List ℕ) (ended : Option Block) → line_answer t r line ≡ Ok ended → (behind_line t r line).lines ≡ r.lines + 1
lines_more t r line ended answer = ap (λ (q : Reading). q.lines) (read_line t r line ended answer).behind

-- reading a line leaves what is kept of the run
pub fed : (t : Scenario) (c : Checking) (p q : Progress) (line : List ℕ) (told : Telling) → IsAt t c p → IsShort line → told_answer t p.strips line ≡ Ok told →
    q.strips ≡ strip_behind t p.strips line → q.state ≡ p.state → q.sight ≡ p.sight → q.first ≡ p.first → q.tally ≡ p.tally → IsFed t c q line told
fed t c p q line told at short tells strips state sight first tally = record {
  short = short;
  behind = subst (IsBehind t c.past) (sym tally) at.keeps.behind;
  sight = subst (λ s. Sees t (state_behind t c.past) c.reading.block.certificate s q.sight) (sym state)
      (subst (Sees t (state_behind t c.past) c.reading.block.certificate p.state) (sym sight) at.keeps.sight);
  first = first ∙ at.keeps.first;
  in_order = at.keeps.in_order;
  in_place = at.in_place;
  tells = sym (told_of_bare t c.reading line) ∙ ap (λ r. told_answer t r line) (sym at.keeps.reading) ∙ tells;
  strips = strips ∙ ap (λ r. strip_behind t r line) at.keeps.reading ∙ strip_of_bare t c.reading line;
}

-- a line that is none refuses itself
pub fault_refused : (t : Scenario) (c : Checking) (p new : Progress) (line : List ℕ) (fault : ReportFault) → IsAt t c p → IsShort line →
    AnswersTold (Err fault) (told_answer t p.strips line) → AnswersLine {U = Unit {0}} (Err (halt_of fault)) t c new line
fault_refused t c p new line (faults.Malformed number) at short answer =
    malformed number short
    (line_is_told t c.reading line
    ∙ ap (λ (a : Result Telling ℕ). a >>= λ x. Ok (block_told c.reading.block.certificate x))
    (sym (told_of_bare t c.reading line) ∙ ap (λ r. told_answer t r line) (sym at.keeps.reading) ∙ answer))
fault_refused t c p new line faults.NoMemory at short answer = tt

-- no fault of a report's text is one of reading
pub text_read : {T : Type 0} (fault : ReportFault) (h : CheckHalt) → h ≡ halt_of fault → ◌≡◌ {A = Result T CheckHalt} (Err h) (Err ReadFault) → ⊥
text_read (faults.Malformed line) h e is = cc
text_read faults.NoMemory h e is = cc

-- Tops are told where no certificate has begun.

not_tops : (columns rows : ℕ) (b : Bool) (d : Block) → ended_or_more (cond b (Some d) None) ≡ telling.tops columns rows → ⊥
not_tops columns rows true d e = absurd cc
not_tops columns rows false d e = absurd cc

told_tops : (r : Reading) (l : ReportLine) (columns rows : ℕ) → reading.may_follow r.stage l ≡ true → told_by r l ≡ telling.tops columns rows → is_certified r.stage ≡ false
told_tops r (lines.Tops m n) columns rows fits e = before_certificate stages.Planned stages.Planned r.stage (omega arith) fits
told_tops r (lines.Cycle number) columns rows fits e = absurd (not_tops columns rows (is_certified r.stage) r.block e)
told_tops r (lines.Summary s) columns rows fits e = absurd (not_tops columns rows (is_certified r.stage) r.block e)
told_tops r (lines.End piece) columns rows fits e = absurd cc
told_tops r (lines.Cancel job) columns rows fits e = absurd cc
told_tops r (lines.Fail job) columns rows fits e = absurd cc
told_tops r (lines.Over piece) columns rows fits e = absurd cc
told_tops r (lines.Expire job) columns rows fits e = absurd cc
told_tops r (lines.Plan p) columns rows fits e = absurd cc
told_tops r (lines.Grant grant start) columns rows fits e = absurd cc
told_tops r (lines.Node mark) columns rows fits e = absurd cc
told_tops r (lines.Launch job) columns rows fits e = absurd cc

tops_first : (t : Scenario) (r : Reading) (line : List ℕ) (columns rows : ℕ) → told_answer t r line ≡ Ok (telling.tops columns rows) → is_certified r.stage ≡ false
tops_first t r line columns rows answer = by_fault r.fault (line_in t line) answer
  where
    same : {x y : Telling} → ◌≡◌ {A = Result Telling ℕ} (Ok x) (Ok y) → x ≡ y
    same e = cc

    by_test : (l : ReportLine) (b : Bool) → reading.may_follow r.stage l ≡ b → telling_of r (cond b (Some l) None) ≡ Ok (telling.tops columns rows) → is_certified r.stage ≡ false
    by_test l true fits e = told_tops r l columns rows fits (same e)
    by_test l false fits e = absurd cc

    by_fault : (f : Option ℕ) (o : Option ReportLine) → reading.unless_refused f (λ n. Err n) (telling_of r (reading.fitting r.stage o)) ≡ Ok (telling.tops columns rows) →
        is_certified r.stage ≡ false
    by_fault (Some n) o e = absurd cc
    by_fault None None e = absurd cc
    by_fault None (Some l) e = by_test l (reading.may_follow r.stage l) refl e

-- A line that was read, and told this.
module _ (t : Scenario) (c : Checking) (p : Progress) (line : List ℕ) (told : Telling) (is : IsFed t c p line told) where
  pub fed_reads : line_answer t c.reading line ≡ Ok (block_told c.reading.block.certificate told)
  fed_reads = line_is_told t c.reading line ∙ ap (λ (a : Result Telling ℕ). a >>= λ x. Ok (block_told c.reading.block.certificate x)) is.tells

  fed_certificate : (behind_line t c.reading line).block.certificate ≡ certificate_with c.reading.block.certificate told
  fed_certificate = certificate_is_told t c.reading line told is.in_order.begins is.tells

  pub fed_lines : p.strips.lines ≡ c.reading.lines + 1
  fed_lines = ap (λ (r : Reading). r.lines) is.strips ∙ lines_more t c.reading line _ fed_reads

  -- the slot is one of the run
  pub fed_reached : IsReached t between (state_behind t c.past)
  fed_reached = run_reaches t c.past is.behind.run

  pub fed_in_run : (state_behind t c.past).now < t.header.until
  fed_in_run = omega (arith, now_behind block_cycles t c.past, not_closed t c line _ fed_reads is.in_order is.in_place)

  pub fed_begins : IsReached t begun (begin t (state_behind t c.past))
  fed_begins = begin_reached t (state_behind t c.past) fed_reached fed_in_run

  pub fed_sees : (number : ℕ) → number ≡ p.strips.lines → number < 2 ^ 63 → SeesSome t p.state p.sight (2 ^ 63)
  fed_sees number counted few = record {
    last = state_behind t c.past;
    certificate = c.reading.block.certificate;
    reached = fed_reached;
    in_run = fed_in_run;
    sees = is.sight;
    few = omega (arith, is.in_order.paged, is.in_order.numbered, fed_lines, counted, few);
  }

  -- a line that ends no cycle was taken, once what it told is seen
  pub taken_on : (new : Progress) → block_told c.reading.block.certificate told ≡ None → new.tally ≡ p.tally → new.strips ≡ p.strips → new.first ≡ p.first →
      Sees t (state_behind t c.past) (certificate_with c.reading.block.certificate told) new.state new.sight → IsTaken t c line new
  taken_on new none tally strips first sees =
      let reads : line_answer t c.reading line ≡ Ok None = fed_reads ∙ ap Ok none in
      record {
        ended = None;
        short = is.short;
        reads = reads;
        right = tt;
        keeps = record {
          behind = subst (IsBehind t c.past) (sym tally) is.behind;
          sight = subst (λ d. Sees t (state_behind t c.past) d new.state new.sight) (sym fed_certificate) sees;
          reading = strips ∙ is.strips;
          first = first ∙ is.first;
          in_order = in_order_on t c line None reads is.in_order;
        };
      }

-- where tops are told the slot has not begun
pub tops_told : (t : Scenario) (c : Checking) (p : Progress) (line : List ℕ) (columns rows : ℕ) → IsFed t c p line (telling.tops columns rows) → p.state ≡ state_behind t c.past
tops_told t c p line columns rows is =
    sees_tops t (state_behind t c.past) p.state c.reading.block.certificate p.sight 0 0 is.sight
    (is.in_order.begins (tops_first t c.reading line columns rows is.tells))

-- A line that ended the cycle of this head.
module _ (t : Scenario) (c : Checking) (p : Progress) (line : List ℕ) (head : Head) (is : IsFed t c p line (telling.ended (headed head (Tops 0 0)))) where
  abbrev ended : Block
  ended = headed head c.reading.block.certificate

  ended_reads : line_answer t c.reading line ≡ Ok (Some ended)
  ended_reads = fed_reads t c p line _ is

  same_block : ended ≡ c.reading.block
  same_block = ended_is t c.reading line ended ended_reads

  -- its lines are among those that were read
  pub fed_few : (number : ℕ) → number ≡ p.strips.lines → number < 2 ^ 63 → p.first + end_place ended < 2 ^ 64
  fed_few number counted few =
      let paged : c.first + told_lines ended ≤ c.reading.lines + 2 = subst (λ d. c.first + told_lines d ≤ c.reading.lines + 2) (sym same_block) is.in_order.paged in
      omega (arith, paged, is.first, fed_lines t c p line _ is, counted, few)

  pub fed_starts : length head.starts.items ≡ length head.grants
  fed_starts = subst (λ (d : Block). length d.starts ≡ length d.grants) (sym same_block) is.in_order.starts

  pub fed_small : t.header.until ≤ 10000 → (p.tally.worth < 2 ^ 127) × (p.tally.optimal < 2 ^ 63)
  fed_small few =
      let within = not_closed t c line (Some ended) ended_reads is.in_order is.in_place in
      (omega (arith, few, within, is.behind.small_worth), omega (arith, few, within, is.behind.small_optimal))

  -- a cycle that is not one of the run refuses one of its lines
  pub cycle_refused : (new : Progress) (state : Snapshot) (h : CheckHalt) → AnswersCycle (Err h) t (state_behind t c.past) state p.first ended →
      AnswersTaken {U = Unit {0}} (Err h) t c new line
  cycle_refused new state (Refused at why) found =
      subst (λ n. IsRefused t c line n why) (sym (found.1 ∙ ap (λ n. n + found.0) is.first)) (faulty ended found.0 why is.short ended_reads found.2)
  cycle_refused new state ReadFault found = absurd found
  cycle_refused new state NoMemory found = tt

  -- the cycle is shown once it was found right
  pub cycle_shown : (now new : Snapshot) (view : View) (tally : SlotTally) (slot : SeenSlot) → IsViewOf t (state_behind t c.past) c.reading.block.certificate now view →
      IsDone t (state_behind t c.past) new ended tally → space slot.inst.now ≡ space view.slot.inst → slot.held ≡ length now.pieces → slot.worth ≡ tally.worth →
      IsShown t (state_behind t c.past) ended new slot
  cycle_shown now new view tally slot viewed done inst held worth = record {
    reached = fed_reached t c p line _ is;
    right = record {
      may_run = record {
        in_run = fed_in_run t c p line _ is;
        plan = record { lawful = done.cycle.plan.honest.lawful; thrifty = done.cycle.plan.honest.thrifty };
      };
      number = done.cycle.number;
      happened = done.cycle.happened;
      attained = done.cycle.plan.honest.attained;
      starts = done.cycle.plan.starts;
      launched = done.cycle.plan.launched;
    };
    state = done.state;
    instance = inst ∙ viewed.slot.instance;
    sound = subst IsSoundSpace (sym inst) viewed.slot.sound;
    held = held ∙ ap (λ (s : Snapshot). length s.pieces) viewed.slot.state;
    worth = worth ∙ done.worth;
  }

  -- the run has one cycle more
  module _ (new : Progress) (slot : SlotTally) (done : IsDone t (state_behind t c.past) new.state ended slot) (small : slot.worth < 2 ^ 64) (most : slot.optimal ≤ 1)
      (worth : new.tally.worth ≡ p.tally.worth + slot.worth) (optimal : new.tally.optimal ≡ p.tally.optimal + slot.optimal) where
    behind_more : IsBehind t (ended ∷ c.past) new.tally
    behind_more = record {
      run = (fed_in_run t c p line _ is, done.cycle, is.behind.run);
      worth = worth ∙ ap (λ n. n + slot.worth) is.behind.worth ∙ ap (λ n. worth_of_run t c.past + n) done.worth;
      optimal = optimal ∙ ap (λ n. n + slot.optimal) is.behind.optimal ∙ ap (λ n. optimal_cycles c.past + n) done.optimal;
      small_worth = omega (arith, worth, small, is.behind.small_worth);
      small_optimal = omega (arith, optimal, most, is.behind.small_optimal);
    }

    pub cycle_taken : new.sight ≡ sights.Tops 0 0 → new.strips ≡ p.strips → new.first ≡ p.strips.lines → IsTaken t c line new
    cycle_taken unseen strips first = record {
      ended = Some ended;
      short = is.short;
      reads = ended_reads;
      right = done.cycle;
      keeps = record {
        behind = behind_more;
        sight = subst (Sees t (state_behind t (ended ∷ c.past)) (behind_line t c.reading line).block.certificate new.state) (sym unseen) (done.state, fed_certificate t c p line _ is);
        reading = strips ∙ is.strips;
        first = first ∙ fed_lines t c p line _ is;
        in_order = in_order_on t c line (Some ended) ended_reads is.in_order;
      };
    }

-- a line that was taken has its place, or is refused
pub placed : (t : Scenario) (c : Checking) (line : List ℕ) (new : Progress) (number : ℕ) (taken : IsTaken t c line new) → number ≡ c.reading.lines + 1 →
    (r : Result (Unit {0}) CheckHalt) → AnswersPlace r t (with_first taken.ended c.past) new.strips.summary number → AnswersLine r t c new line
placed t c line new number taken counted (Ok u) fits =
    let place = subst (FitsRun t (with_first taken.ended c.past)) (ap (λ (r : Reading). r.summary) taken.keeps.reading) fits in (
      checked_behind t c line taken.ended,
      record { short = taken.short; ended = taken.ended; reads = taken.reads; right = taken.right; in_place = place; is = refl },
      record { keeps = taken.keeps; in_place = place },
    )
placed t c line new number taken counted (Err h) misfits =
    subst (λ k. AnswersLine {U = Unit {0}} (Err k) t c new line) (sym misfits.0)
    (subst (λ n. IsRefused t c line n WrongEvents) (sym counted)
    (out_of_place taken.ended taken.short taken.reads taken.right
    (λ place. misfits.1 (subst (FitsRun t (with_first taken.ended c.past)) (sym (ap (λ (r : Reading). r.summary) taken.keeps.reading)) place))))

-- what taking a line refuses, the line refuses
pub not_taken : (t : Scenario) (c : Checking) (line : List ℕ) (new : Progress) (h : CheckHalt) → AnswersTaken {U = Unit {0}} (Err h) t c new line → AnswersLine {U = Unit {0}} (Err h) t c new line
not_taken t c line new (Refused number why) refused = refused
not_taken t c line new ReadFault refused = refused
not_taken t c line new NoMemory refused = refused

-- The lines of a report, one after the other.

pub passed_lines : (t : Scenario) (c d : Checking) (p q : Progress) (line : List ℕ) → IsAt t c p → IsPassed t c line d → IsAt t d q → q.strips.lines ≡ p.strips.lines + 1
passed_lines t c d p q line at passed on =
    ap (λ (r : Reading). r.lines) on.keeps.reading
    ∙ ap (λ (e : Checking). e.reading.lines) passed.is
    ∙ lines_more t c.reading line passed.ended passed.reads
    ∙ ap (λ (r : Reading). r.lines + 1) (sym at.keeps.reading)

-- the next line has too many bytes
pub comes_too_long : (t : Scenario) (c : Checking) (p : Progress) (content : List ℕ) (offset number : ℕ) → IsAt t c p → number ≡ p.strips.lines + 1 →
    1048576 < length (line_of (drop offset content)) → ComesTo t c (texts_from offset (drop offset content)) (Err (number, LineTooLong))
comes_too_long t c p content offset number at counted long =
    let found = some_line offset (drop offset content) (omega (arith, long, line_of-le (drop offset content))) in
    let first = first_line offset (drop offset content) found.0.0 found.0.1 found.1 found.2 in
    subst (λ ls. ComesTo t c (map (λ l. l.0) ls) (Err (number, LineTooLong))) (sym found.2)
    (inl (subst (λ n. IsRefused t c found.0.0 n LineTooLong) (sym (counted ∙ ap (λ (r : Reading). r.lines + 1) at.keeps.reading)) (too_long (omega (arith, long, ap length first.bytes_are)))))

-- no byte is left
pub comes_to_end : (t : Scenario) (c : Checking) (content : List ℕ) (offset : ℕ) (outcome : Result (List Block) (ℕ × Why)) → length content ≤ offset → EndsAs t c outcome →
    ComesTo t c (texts_from offset (drop offset content)) outcome
comes_to_end t c content offset outcome past ends = subst (λ ls. ComesTo t c ls outcome) (sym (none_left content offset past)) ends

pub end_accepted : (t : Scenario) (c : Checking) (p : Progress) (s : Summary) → IsAt t c p → end_answer p.strips ≡ Ok s → EndsAs t c (Ok c.past)
end_accepted t c p s at ends = (refl, (s, subst (λ r. end_answer r ≡ Ok s) at.keeps.reading ends))

pub end_refused : (t : Scenario) (c : Checking) (p : Progress) (content : List ℕ) (offset : ℕ) (fault : ReportFault) → IsAt t c p → length content ≤ offset →
    report.AnswersEnd (Err fault) (end_answer p.strips) → (Comes : Result (List Block) (ℕ × Why) → Type 0) (Saw : List Block → Type 0) →
    ((outcome : Result (List Block) (ℕ × Why)) → ComesTo t c (texts_from offset (drop offset content)) outcome → Comes outcome) →
    AnswersReport {U = Unit {0}} (Err (halt_of fault)) Comes Saw
end_refused t c p content offset (faults.Malformed number) at past ends Comes Saw goes =
    goes (Err (number, Malformed)) (comes_to_end t c content offset (Err (number, Malformed)) past (refl, subst (λ r. end_answer r ≡ Err number) at.keeps.reading ends))
end_refused t c p content offset faults.NoMemory at past ends Comes Saw goes = tt

-- a line that refuses ends the check of further lines
pub line_ends : (t : Scenario) (c : Checking) (new : Progress) (line : List ℕ) (rest : List (List ℕ)) (h : CheckHalt) → AnswersLine {U = Unit {0}} (Err h) t c new line →
    (Comes : Result (List Block) (ℕ × Why) → Type 0) (Saw : List Block → Type 0) → ((outcome : Result (List Block) (ℕ × Why)) → ComesTo t c (line ∷ rest) outcome → Comes outcome) →
    AnswersReport {U = Unit {0}} (Err h) Comes Saw
line_ends t c new line rest (Refused number why) refused Comes Saw goes = goes (Err (number, why)) (inl refused)
line_ends t c new line rest ReadFault refused Comes Saw goes = tt
line_ends t c new line rest NoMemory refused Comes Saw goes = tt

-- Seeing a node, and what a cycle is judged by.

module _ (t : Scenario) (now : Snapshot) where
  -- before the first node the slot has not begun
  pub unbegun : (columns rows most : ℕ) → SeesSome t now (sights.Tops columns rows) most → IsReached t between now × (now.now < t.header.until)
  unbegun columns rows most some = (subst (IsReached t between) (sym some.sees.0) some.reached, subst (λ (s : Snapshot). s.now < t.header.until) (sym some.sees.0) some.in_run)

  -- a walk over fewer marks than so many
  pub walked : (slot : BegunSlot) (walk : TreeWalk) (count most : ℕ) → SeesSome t now (sights.Tree slot walk count) most →
      ((s : Space) × (marks : List Mark) × WalksTree s marks walk) × (walk.fed < most) × (count < most)
  walked slot walk count most some =
      let few : length some.sees.1.0 < most = omega (arith, some.few, ap (λ c. length (certificate_lines c)) some.sees.1.1, length-map some.sees.1.0 lines.Node) in
      ((space slot.inst, some.sees.1.0, some.sees.1.2), omega (arith, few, some.sees.1.2.fed), omega (arith, few, some.sees.1.3))

  -- one node more
  pub sees_first : (last new : Snapshot) (c : Certificate) (columns rows : ℕ) (slot : BegunSlot) (walk : TreeWalk) (m : Mark) → Sees t last c now (sights.Tops columns rows) →
      HasBegun t now new slot → WalksTree (space slot.inst) (m ∷ []) walk → Sees t last (with_node c m) new (sights.Tree slot walk 1)
  sees_first last new c columns rows slot walk m sees opening walks = (
    subst (λ (s : Snapshot). HasBegun t s new slot) sees.0 opening,
    (m ∷ [], ap (λ d. with_node d m) sees.1, walks, refl),
  )

  pub sees_next : (last : Snapshot) (c : Certificate) (slot : BegunSlot) (walk new : TreeWalk) (count : ℕ) (m : Mark) → Sees t last c now (sights.Tree slot walk count) →
      ((s : Space) (marks : List Mark) → WalksTree s marks walk → WalksTree s (marks ++ m ∷ []) new) → Sees t last (with_node c m) now (sights.Tree slot new (count + 1))
  sees_next last c slot walk new count m sees on = (
    sees.0,
    (
      sees.1.0 ++ m ∷ [],
      ap (λ d. with_node d m) sees.1.1,
      on (space slot.inst) sees.1.0 sees.1.2,
      omega (arith, sees.1.3, length-append sees.1.0 (m ∷ [])),
    ),
  )

  -- once the cycle is whole
  pub views_tops : (last new : Snapshot) (c : Certificate) (columns rows : ℕ) (slot : BegunSlot) → Sees t last c now (sights.Tops columns rows) → HasBegun t now new slot →
      IsViewOf t last c new (record { slot = slot; seen = seen.Tops columns rows; lines = 1 })
  views_tops last new c columns rows slot sees opening = record {
    slot = subst (λ (s : Snapshot). HasBegun t s new slot) sees.0 opening;
    tells = subst (λ d. Tells (space slot.inst) d (seen.Tops columns rows)) (sym sees.1) (refl, refl);
    lines = ap (λ d. length (certificate_lines d)) sees.1;
  }

  pub views_tree : (last : Snapshot) (c : Certificate) (slot : BegunSlot) (walk : TreeWalk) (count : ℕ) (found : Seen) → Sees t last c now (sights.Tree slot walk count) →
      ((s : Space) (marks : List Mark) → WalksTree s marks walk → Tells s (Tree marks) found) → IsViewOf t last c now (record { slot = slot; seen = found; lines = count })
  views_tree last c slot walk count found sees told = record {
    slot = sees.0;
    tells = subst (λ d. Tells (space slot.inst) d found) (sym sees.1.1) (told (space slot.inst) sees.1.0 sees.1.2);
    lines = ap (λ d. length (certificate_lines d)) sees.1.1 ∙ length-map sees.1.0 lines.Node ∙ sym sees.1.3;
  }

-- An observer, behind the cycles that were accepted.
module _ {O : Type 0} (saw : Scenario → Snapshot → Block → O → O → Type 0) (t : Scenario) where
  -- the state behind cycles, in their order
  pub behind_run : (past : List Block) → behind t (opening_state t) (in_order past) ≡ state_behind t past
  behind_run [] = refl
  behind_run (b ∷ past) = behind_last t (opening_state t) (in_order past) b ∙ ap (λ s. next t s b) (behind_run past)

  -- it saw the cycles so far, and then the one that a line ended, if it ended one
  pub saw_on : (c d : Checking) (line : List ℕ) (passed : IsPassed t c line d) (first old new : O) → Observed saw t (opening_state t) (in_order c.past) first old →
      SawEnded saw t c.past passed.ended old new → Observed saw t (opening_state t) (in_order d.past) first new
  saw_on c d line passed first old new seen more =
      subst (λ (e : Checking). Observed saw t (opening_state t) (in_order e.past) first new) (sym passed.is) (by_ended passed.ended more)
    where
      by_ended : (ended : Option Block) → SawEnded saw t c.past ended old new → Observed saw t (opening_state t) (in_order (with_first ended c.past)) first new
      by_ended None same = subst (Observed saw t (opening_state t) (in_order c.past) first) (sym same) seen
      by_ended (Some b) last = observed_last t saw (opening_state t) (in_order c.past) b first old new seen (subst (λ s. saw t s b old new) (sym (behind_run c.past)) last)

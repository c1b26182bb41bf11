-- Reading without certificates is reading with them left out.
use Rattle.std.proofs.Common.{◌≡◌, ℕ, List, [], ◌∷◌, Bool, true, false, cond, refl, sym, ap, ◌∙◌, arith}
use Rattle.std.specs.Prelude.{Option, Some, None, Result, Ok, Err}
use Rattle.tetri_cert.specs.declared.certificate.Certificate.{Certificate}
use Rattle.tetri_cert.specs.declared.certificate.Certificate.TheVariants.{Tops}
use Rattle.tetri_trace.specs.Scenario.{Scenario}
use Rattle.tetri_report.specs.Block.{Block, bare_block}
use Rattle.tetri_report.specs.Line.{line_in}
use Rattle.tetri_report.specs.Reading.{Reading, answer_to, behind_line, block_before, end_answer, fitting, is_certified, line_answer, may_follow, onto_report, opened, reading_behind, report_from, unless_refused, with_line, with_read}
use Rattle.tetri_base.specs.Lists.{with_first}
use Rattle.tetri_report.specs.Strips.{BeginsBare, Telling, answer_told, bare, block_told, blocks_told, certificate_with, ended_or_more, strip_behind, told_answer, told_by, told_from, telling_of, report_told}
use Rattle.tetri_report.specs.Strips as strips
use Rattle.tetri_report.specs.declared.cycle.Summary.{Summary}
use Rattle.tetri_report.specs.declared.line.ReportLine.{ReportLine}
use Rattle.tetri_report.specs.declared.line.ReportLine.TheVariants as lines
use Rattle.tetri_report.specs.declared.line.Stage.TheVariants as stages
use Rattle.tetri_base.specs.ResultSteps.{◌>>=◌}
use Rattle.tetri_report.proofs.StageLemmas.{before_certificate}

-- a block that is ended tells the same without its certificate
ended_bare : (b : Bool) (c : Block) → ended_or_more (cond b (Some (bare_block c)) None) ≡ ended_or_more (cond b (Some c) None)
ended_bare true c = refl
ended_bare false c = refl

told_by_bare : (r : Reading) (l : ReportLine) → told_by (bare r) l ≡ told_by r l
told_by_bare r (lines.Cycle number) = ended_bare (is_certified r.stage) r.block
told_by_bare r (lines.Summary s) = ended_bare (is_certified r.stage) r.block
told_by_bare r (lines.End piece) = refl
told_by_bare r (lines.Cancel job) = refl
told_by_bare r (lines.Fail job) = refl
told_by_bare r (lines.Over piece) = refl
told_by_bare r (lines.Expire job) = refl
told_by_bare r (lines.Plan p) = refl
told_by_bare r (lines.Grant grant start) = refl
told_by_bare r (lines.Tops columns rows) = refl
told_by_bare r (lines.Node mark) = refl
told_by_bare r (lines.Launch job) = refl

telling_bare : (r : Reading) (o : Option ReportLine) → telling_of (bare r) o ≡ telling_of r o
telling_bare r None = refl
telling_bare r (Some l) = ap Ok (told_by_bare r l)

-- what a line tells does not depend on the certificate
pub told_bare : (t : Scenario) (r : Reading) (line : List ℕ) → told_answer t (bare r) line ≡ told_answer t r line
told_bare t r line = ap (unless_refused r.fault (λ n. Err n)) (telling_bare r (fitting r.stage (line_in t line)))

with_read_bare : (r : Reading) (l : ReportLine) → bare (with_read (bare r) l) ≡ bare (with_read r l)
with_read_bare r (lines.Cycle number) = refl
with_read_bare r (lines.Summary s) = refl
with_read_bare r (lines.End piece) = refl
with_read_bare r (lines.Cancel job) = refl
with_read_bare r (lines.Fail job) = refl
with_read_bare r (lines.Over piece) = refl
with_read_bare r (lines.Expire job) = refl
with_read_bare r (lines.Plan p) = refl
with_read_bare r (lines.Grant grant start) = refl
with_read_bare r (lines.Tops columns rows) = refl
with_read_bare r (lines.Node mark) = refl
with_read_bare r (lines.Launch job) = refl

-- nor does what is read so far
pub bare_behind : (t : Scenario) (r : Reading) (line : List ℕ) → strip_behind t (bare r) line ≡ bare (behind_line t r line)
bare_behind t r line = by_fault r.fault (fitting r.stage (line_in t line))
  where
    by_fault : (fault : Option ℕ) (o : Option ReportLine) →
        bare (unless_refused fault (λ n. bare r) (reading_behind (bare r) o)) ≡ bare (unless_refused fault (λ n. r) (reading_behind r o))
    by_fault (Some n) o = refl
    by_fault None None = refl
    by_fault None (Some l) = with_read_bare r l

-- the block that a line ends is what is told, with the certificate
before_told : (b : Bool) (c : Block) → cond b (Some c) None ≡ block_told c.certificate (ended_or_more (cond b (Some c) None))
before_told true c = refl
before_told false c = refl

block_as_told : (r : Reading) (l : ReportLine) → block_before r l ≡ block_told r.block.certificate (told_by r l)
block_as_told r (lines.Cycle number) = before_told (is_certified r.stage) r.block
block_as_told r (lines.Summary s) = before_told (is_certified r.stage) r.block
block_as_told r (lines.End piece) = refl
block_as_told r (lines.Cancel job) = refl
block_as_told r (lines.Fail job) = refl
block_as_told r (lines.Over piece) = refl
block_as_told r (lines.Expire job) = refl
block_as_told r (lines.Plan p) = refl
block_as_told r (lines.Grant grant start) = refl
block_as_told r (lines.Tops columns rows) = refl
block_as_told r (lines.Node mark) = refl
block_as_told r (lines.Launch job) = refl

-- a line is answered by the block that it tells with the certificate
pub line_as_told : (t : Scenario) (r : Reading) (line : List ℕ) → line_answer t r line ≡ answer_told r.block.certificate (told_answer t r line)
line_as_told t r line = by_fault r.fault (fitting r.stage (line_in t line))
  where
    by_fault : (fault : Option ℕ) (o : Option ReportLine) →
        unless_refused fault (λ n. Err n) (answer_to r o) ≡ answer_told r.block.certificate (unless_refused fault (λ n. Err n) (telling_of r o))
    by_fault (Some n) o = refl
    by_fault None None = refl
    by_fault None (Some l) = ap Ok (block_as_told r l)

-- A line that may stand here keeps the certificate that is begun, and adds to it what it tells.

-- a block begins where none is begun
begun : (b : Bool) (c : Block) → (b ≡ false → c.certificate ≡ Tops 0 0) → Tops 0 0 ≡ certificate_with c.certificate (ended_or_more (cond b (Some c) None))
begun true c begins = refl
begun false c begins = sym (begins refl)

with_line_told : (r : Reading) (l : ReportLine) → BeginsBare r → (with_line r.block l).certificate ≡ certificate_with r.block.certificate (told_by r l)
with_line_told r (lines.Cycle number) begins = begun (is_certified r.stage) r.block begins
with_line_told r (lines.Summary s) begins = begun (is_certified r.stage) r.block begins
with_line_told r (lines.End piece) begins = refl
with_line_told r (lines.Cancel job) begins = refl
with_line_told r (lines.Fail job) begins = refl
with_line_told r (lines.Over piece) begins = refl
with_line_told r (lines.Expire job) begins = refl
with_line_told r (lines.Plan p) begins = refl
with_line_told r (lines.Grant grant start) begins = refl
with_line_told r (lines.Tops columns rows) begins = refl
with_line_told r (lines.Node mark) begins = refl
with_line_told r (lines.Launch job) begins = refl

-- the certificate behind a line is the one before it with what the line told
pub certificate_behind : (t : Scenario) (r : Reading) (line : List ℕ) (told : Telling) → BeginsBare r → told_answer t r line ≡ Ok told →
    (behind_line t r line).block.certificate ≡ certificate_with r.block.certificate told
certificate_behind t r line told begins answer = by_fault r.fault (fitting r.stage (line_in t line)) answer
  where
    same : {x y : Telling} → ◌≡◌ {A = Result Telling ℕ} (Ok x) (Ok y) → x ≡ y
    same e = cc

    by_fault : (fault : Option ℕ) (o : Option ReportLine) → unless_refused fault (λ n. Err n) (telling_of r o) ≡ Ok told →
        (unless_refused fault (λ n. r) (reading_behind r o)).block.certificate ≡ certificate_with r.block.certificate told
    by_fault (Some n) o e = absurd cc
    by_fault None None e = absurd cc
    by_fault None (Some l) e = with_line_told r l begins ∙ ap (certificate_with r.block.certificate) (same e)

with_read_begins : (r : Reading) (l : ReportLine) → BeginsBare r → may_follow r.stage l ≡ true → BeginsBare (with_read r l)
with_read_begins r (lines.Cycle number) begins fits = λ e. refl
with_read_begins r (lines.Summary s) begins fits = λ e. refl
with_read_begins r (lines.End piece) begins fits = λ e. begins (before_certificate stages.Begun stages.Ends r.stage (omega arith) fits)
with_read_begins r (lines.Cancel job) begins fits = λ e. begins (before_certificate stages.Begun stages.Cancels r.stage (omega arith) fits)
with_read_begins r (lines.Fail job) begins fits = λ e. begins (before_certificate stages.Begun stages.Fails r.stage (omega arith) fits)
with_read_begins r (lines.Over piece) begins fits = λ e. begins (before_certificate stages.Begun stages.Overs r.stage (omega arith) fits)
with_read_begins r (lines.Expire job) begins fits = λ e. begins (before_certificate stages.Begun stages.Expires r.stage (omega arith) fits)
with_read_begins r (lines.Plan p) begins fits = λ e. begins (before_certificate stages.Begun stages.Expires r.stage (omega arith) fits)
with_read_begins r (lines.Grant grant start) begins fits = λ e. begins (before_certificate stages.Planned stages.Planned r.stage (omega arith) fits)
with_read_begins r (lines.Tops columns rows) begins fits = λ e. absurd cc
with_read_begins r (lines.Node mark) begins fits = λ e. absurd cc
with_read_begins r (lines.Launch job) begins fits = λ e. absurd cc

-- no certificate is begun before its lines
pub begins_bare_behind : (t : Scenario) (r : Reading) (line : List ℕ) → BeginsBare r → BeginsBare (behind_line t r line)
begins_bare_behind t r line begins = by_fault r.fault (line_in t line)
  where
    by_test : (l : ReportLine) (b : Bool) → may_follow r.stage l ≡ b → BeginsBare (reading_behind r (cond b (Some l) None))
    by_test l true fits = with_read_begins r l begins fits
    by_test l false fits = begins

    by_fault : (fault : Option ℕ) (o : Option ReportLine) → BeginsBare (unless_refused fault (λ n. r) (reading_behind r (fitting r.stage o)))
    by_fault (Some n) o = begins
    by_fault None None = begins
    by_fault None (Some l) = by_test l (may_follow r.stage l) refl

pub opened_begins_bare : BeginsBare opened
opened_begins_bare = λ e. refl

-- the summary of a report that tells nothing more
end_told : (c : Certificate) (x : Result Summary ℕ) →
    (x >>= λ s. Ok ([], s)) ≡ report_told c (x >>= λ s. Ok ([], s))
end_told c (Ok s) = refl
end_told c (Err n) = refl

-- what is told is the block that was ended and those behind it
onto_told : (c : Certificate) (told : Telling) (rest : List Telling) →
    with_first (block_told c told) (blocks_told (certificate_with c told) rest) ≡ blocks_told c (told ∷ rest)
onto_told c strips.more rest = refl
onto_told c (strips.tops columns rows) rest = refl
onto_told c (strips.node mark) rest = refl
onto_told c (strips.ended b) rest = refl

-- what a line and those behind it tell
step_told : (c : Certificate) (told : Telling) (rest : Result (List Telling × Summary) ℕ) →
    onto_report (block_told c told) (report_told (certificate_with c told) rest) ≡ report_told c (rest >>= λ y. Ok (told ∷ y.0, y.1))
step_told c told (Ok y) = ap (λ (bs : List Block). Ok (bs, y.1)) (onto_told c told y.0)
step_told c told (Err n) = refl

-- what a line tells, and then those behind it
module _ (t : Scenario) (r : Reading) (line : List ℕ) (rest : List (List ℕ)) where
  abbrev further : Result (List Telling × Summary) ℕ
  further = told_from t (bare (behind_line t r line)) rest

  abbrev behind : Result (List Block × Summary) ℕ
  behind = report_from t (behind_line t r line) rest

  by_answer : (c : Certificate) (a : Result Telling ℕ) → ((told : Telling) → a ≡ Ok told → behind ≡ report_told (certificate_with c told) further) →
      (answer_told c a >>= λ o. onto_report o behind) ≡ report_told c (a >>= λ x. further >>= λ y. Ok (x ∷ y.0, y.1))
  by_answer c (Err n) same = refl
  by_answer c (Ok told) same = ap (onto_report (block_told c told)) (same told refl) ∙ step_told c told further

  line_told : BeginsBare r → behind ≡ report_told (behind_line t r line).block.certificate further →
      report_from t r (line ∷ rest) ≡ report_told r.block.certificate (told_from t (bare r) (line ∷ rest))
  line_told begins same =
      ap (λ (a : Result (Option Block) ℕ). a >>= λ o. onto_report o behind) (line_as_told t r line)
      ∙ by_answer r.block.certificate (told_answer t r line)
      (λ told answer. same ∙ ap (λ (d : Certificate). report_told d further) (certificate_behind t r line told begins answer))
      ∙ sym
      (ap (λ (a : Result Telling ℕ). report_told r.block.certificate (a >>= λ x. told_from t (strip_behind t (bare r) line) rest >>= λ y. Ok (x ∷ y.0, y.1))) (told_bare t r line)
      ∙ ap (λ (q : Reading). report_told r.block.certificate (told_answer t r line >>= λ x. told_from t q rest >>= λ y. Ok (x ∷ y.0, y.1))) (bare_behind t r line))

-- a report is what its lines tell, with the certificates
pub report_as_told : (t : Scenario) (r : Reading) (rest : List (List ℕ)) → BeginsBare r →
    report_from t r rest ≡ report_told r.block.certificate (told_from t (bare r) rest)
report_as_told t r [] begins = end_told r.block.certificate (end_answer r)
report_as_told t r (line ∷ rest) begins =
    line_told t r line rest begins (report_as_told t (behind_line t r line) rest (begins_bare_behind t r line begins))

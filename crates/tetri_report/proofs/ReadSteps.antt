-- Reading the printed lines of a report, one after the other.
use Rattle.std.proofs.Common.{◌≡◌, ℕ, refl, ap, ◌∙◌, List, [], ◌∷◌, ◌++◌, map, cond, true, false, Bool, All}
use Rattle.std.specs.Prelude.{◌&&◌, Option, Some, None, Result, Ok, Err}
use Rattle.std.proofs.lemmas.List.Elements.{All-head, All-tail}
use Rattle.tetri_trace.specs.Scenario.{Scenario}
use Rattle.tetri_trace.specs.Sound.{IsSound}
use Rattle.tetri_report.specs.Block.{Block}
use Rattle.tetri_report.specs.Line.{line_in}
use Rattle.tetri_report.specs.Reading.{Reading, answer_to, behind_line, block_before, ends_block, fitting, is_certified, line_answer, may_follow, onto_report, reading_behind, report_from, stage_behind, unless_refused, with_line, with_read}
use Rattle.tetri_base.specs.Lists.{with_first}
use Rattle.tetri_base.specs.ResultSteps.{◌>>=◌}
use Rattle.tetri_report.specs.declared.cycle.Summary.{Summary}
use Rattle.tetri_report.specs.declared.line.ReportLine.{ReportLine}
use Rattle.tetri_report.specs.declared.line.Stage.{Stage}
use Rattle.tetri_report.proofs.PrintedLines.{IsPrintableLine, line_back, line_of}

onto_none : (rest : Result (List Block × Summary) ℕ) → onto_report None rest ≡ rest
onto_none (Ok x) = refl
onto_none (Err n) = refl

module _ (t : Scenario) where
  -- a line that may stand, where nothing was wrong before
  pub step : (r : Reading) (line : List ℕ) (l : ReportLine) (rest : List (List ℕ)) → r.fault ≡ None → line_in t line ≡ Some l → may_follow r.stage l ≡ true →
      report_from t r (line ∷ rest) ≡ onto_report (block_before r l) (report_from t (with_read r l) rest)
  step r line l rest sane is fits =
      let fit : fitting r.stage (line_in t line) ≡ Some l = ap (fitting r.stage) is ∙ ap (λ (b : Bool). cond b (Some l) None) fits in
      let answer : line_answer t r line ≡ Ok (block_before r l) =
      ap (λ (o : Option ℕ). unless_refused o (λ n. Err n) (answer_to r (fitting r.stage (line_in t line)))) sane ∙ ap (answer_to r) fit in
      let behind : behind_line t r line ≡ with_read r l =
      ap (λ (o : Option ℕ). unless_refused o (λ n. r) (reading_behind r (fitting r.stage (line_in t line)))) sane ∙ ap (reading_behind r) fit in
      ap (λ (a : Result (Option Block) ℕ). a >>= λ o. report_from t (behind_line t r line) rest >>= λ x. Ok (with_first o x.0, x.1)) answer
      ∙ ap (λ (q : Reading). onto_report (block_before r l) (report_from t q rest)) behind

  -- the same of a printed line within a block
  within : IsSound t → (r : Reading) (l : ReportLine) (rest : List (List ℕ)) → r.fault ≡ None → IsPrintableLine t l → may_follow r.stage l ≡ true → ends_block l ≡ false →
      report_from t r (line_of t l ∷ rest) ≡ report_from t (with_read r l) rest
  within sound r l rest sane good fits inner =
      step r (line_of t l) l rest sane (line_back t sound l good) fits
      ∙ ap (λ (b : Bool). onto_report (cond (b && is_certified r.stage) (Some r.block) None) (report_from t (with_read r l) rest)) inner
      ∙ onto_none (report_from t (with_read r l) rest)

  -- Lines are read up to a reading with this block, at a stage that passes the test.
  pub record ReadsTo (passes : Stage → Bool) (r : Reading) (ls : List ReportLine) (block : Block) : Type 0 where
    pub behind : Reading
    pub sane : behind.fault ≡ None
    pub stage : passes behind.stage ≡ true
    pub is : behind.block ≡ block
    pub same : (rest : List (List ℕ)) → report_from t r (map (line_of t) ls ++ rest) ≡ report_from t behind rest

  -- the block with a line for each of these
  abbrev pub with_lines : {X : Type 0} → (X → ReportLine) → Block → List X → Block
  with_lines make b [] = b
  with_lines make b (x ∷ xs) = with_lines make (with_line b (make x)) xs

  -- lines of one kind, which may follow each other
  pub lines_of_kind : {X : Type 0} (make : X → ReportLine) (passes : Stage → Bool) →
      ((stage : Stage) (x : X) → passes stage ≡ true → may_follow stage (make x) ≡ true) → ((x : X) → passes (stage_behind (make x)) ≡ true) →
      ((x : X) → ends_block (make x) ≡ false) → IsSound t →
      (r : Reading) (xs : List X) → r.fault ≡ None → passes r.stage ≡ true → All (λ x. IsPrintableLine t (make x)) xs → ReadsTo passes r (map make xs) (with_lines make r.block xs)
  lines_of_kind make passes follows keeps inner sound r [] sane here good = record { behind = r; sane = sane; stage = here; is = refl; same = λ rest. refl }
  lines_of_kind {X} make passes follows keeps inner sound r (x ∷ xs) sane here good =
      let P : X → Type 0 = λ y. IsPrintableLine t (make y) in
      let more = lines_of_kind make passes follows keeps inner sound (with_read r (make x)) xs refl (keeps x) (All-tail P x xs good) in
      record {
        behind = more.behind;
        sane = more.sane;
        stage = more.stage;
        is = more.is;
        same = λ rest. within sound r (make x) (map (line_of t) (map make xs) ++ rest) sane (All-head P x xs good) (follows r.stage x here) (inner x) ∙ more.same rest;
      }

  -- one line
  pub one_line : (passes : Stage → Bool) → IsSound t → (r : Reading) (l : ReportLine) → r.fault ≡ None → may_follow r.stage l ≡ true → passes (stage_behind l) ≡ true →
      ends_block l ≡ false → IsPrintableLine t l → ReadsTo passes r (l ∷ []) (with_line r.block l)
  one_line passes sound r l sane fits here inner good =
      record { behind = with_read r l; sane = refl; stage = here; is = refl; same = λ rest. within sound r l rest sane good fits inner }

  -- lines, and then further lines
  pub and_then : (first passes : Stage → Bool) (r : Reading) (ls ms : List ReportLine) (b c : Block) → (one : ReadsTo first r ls b) → ReadsTo passes one.behind ms c → ReadsTo passes r (ls ++ ms) c
  and_then first passes r ls ms b c one two = record {
    behind = two.behind;
    sane = two.sane;
    stage = two.stage;
    is = two.is;
    same = λ rest. parts ls ms rest ∙ one.same (map (line_of t) ms ++ rest) ∙ two.same rest;
  }
    where
      joined : (ls ms : List ReportLine) (rest : List (List ℕ)) → map (line_of t) (ls ++ ms) ++ rest ≡ map (line_of t) ls ++ (map (line_of t) ms ++ rest)
      joined [] ms rest = refl
      joined (l ∷ ls) ms rest = ap (λ x. line_of t l ∷ x) (joined ls ms rest)

      parts : (ls ms : List ReportLine) (rest : List (List ℕ)) → report_from t r (map (line_of t) (ls ++ ms) ++ rest) ≡ report_from t r (map (line_of t) ls ++ (map (line_of t) ms ++ rest))
      parts ls ms rest = ap (report_from t r) (joined ls ms rest)

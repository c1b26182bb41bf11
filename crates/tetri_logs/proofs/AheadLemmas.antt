-- Lines that were read ahead of their turn.
use Rattle.std.proofs.Common.{◌≡◌, ◌+◌, ◌<◌, ◌∙◌, ◌++◌, ℕ, zero, suc, List, Bool, true, false, [], ◌∷◌, length, cond, refl, ap, subst, arith}
use Rattle.std.specs.Prelude.{◌==◌, IfSome, Option, None, Some, slice_get, unwrap_or}
use Rattle.tetri_logs.specs.Ahead.{AreTextsOf, IsLineOf, IsTextOf}
use Rattle.tetri_logs.specs.Entry.{header_entry, layout_at, line_entries, row_entries}
use Rattle.tetri_logs.specs.Header.{header_in, is_header}
use Rattle.tetri_logs.specs.Reading.{entries_from}
use Rattle.tetri_logs.specs.Sacct.{row_of, without_return}
use Rattle.tetri_logs.specs.declared.entry.Entry.{Entry}
use Rattle.tetri_logs.specs.declared.entry.Entry.TheVariants.{Job, Comment}
use Rattle.tetri_logs.specs.declared.entry.LoggedJob.{LoggedJob}
use Rattle.tetri_logs.specs.declared.header.Header.{Header}
use Rattle.tetri_logs.specs.declared.layout.Layout.{Layout}
use Rattle.tetri_logs.specs.declared.layout.Layout.TheVariants.{Words, Table}
use Rattle.tetri_logs.proofs.LineLaws.{job_line}

-- ---- the line of a job is no header, so those behind it are laid out as it is
header-stays : (blank named : Bool) (h : Header) (line : ℕ) (row : List (List ℕ)) (found : Option Header) (es : List Entry) (job : LoggedJob)
    → cond blank (Comment None ∷ []) (cond named (header_entry line row found ∷ []) es) ≡ Job job ∷ [] → cond blank h (cond named (unwrap_or found h) h) ≡ h
header-stays true named h line row found es job e = refl
header-stays false true h line row None es job e = absurd (cc)
header-stays false true h line row (Some g) es job e = absurd (cc)
header-stays false false h line row found es job e = refl

layout-stays : (layout : Layout) (text : List ℕ) (job : LoggedJob) → IsLineOf layout text job → layout_at layout text ≡ layout
layout-stays Words text job e = refl
layout-stays (Table h) text job e =
    let row = row_of text in
    ap Table (header-stays (length (without_return text) == 0) (is_header row) h job.line row (header_in row) (row_entries false h job.line row) job e)

-- behind it stand the other lines
pub line_passed : (layout : Layout) (text : List ℕ) (lines : List (List ℕ)) (job : LoggedJob) → IsLineOf layout text job
    → entries_from false layout job.line (text ∷ lines) ≡ Job job ∷ entries_from false layout (job.line + 1) lines
line_passed layout text lines job e =
    ap (λ es. es ++ entries_from false (layout_at layout text) (job.line + 1) lines) e
    ∙ ap (λ l. Job job ∷ entries_from false l (job.line + 1) lines) (layout-stays layout text job e)

-- ---- a line read in a layout where nodes do not differ
pub line_kept : (mixed : Bool) (own layout : Layout) (number : ℕ) (text : List ℕ) (job : LoggedJob) → mixed ≡ false → own ≡ layout
    → line_entries mixed layout number text ≡ Job job ∷ [] → IsLineOf own text job
line_kept mixed own layout number text job plain same e = let at = job_line mixed layout number text job e in cc

-- ---- texts of jobs one after another
pub texts-push : (layout : Layout) (texts : List (List ℕ)) (jobs : List LoggedJob) (text : List ℕ) (job : LoggedJob) → length texts ≡ length jobs → AreTextsOf layout texts jobs
    → IsTextOf layout text job → AreTextsOf layout (texts ++ text ∷ []) (jobs ++ job ∷ [])
texts-push layout [] [] text job same all one = (one, tt)
texts-push layout [] (j ∷ js) text job same all one = absurd (omega arith)
texts-push layout (t ∷ ts) [] text job same all one = absurd (omega arith)
texts-push layout (t ∷ ts) (j ∷ js) text job same all one = (all.0, texts-push layout ts js text job (omega arith) all.1 one)

pub text_at : (layout : Layout) (texts : List (List ℕ)) (jobs : List LoggedJob) (place : ℕ) (text : List ℕ) (job : LoggedJob) → AreTextsOf layout texts jobs
    → slice_get texts place ≡ Some text → slice_get jobs place ≡ Some job → IsTextOf layout text job
text_at layout [] jobs place text job all there here = absurd (cc)
text_at layout (t ∷ ts) [] place text job all there here = absurd (cc)
text_at layout (t ∷ ts) (j ∷ js) zero text job all there here =
    let same_text : t ≡ text = cc in
    let same_job : j ≡ job = cc in
    subst (λ x. IsTextOf layout x job) same_text (subst (IsTextOf layout t) same_job all.0)
text_at layout (t ∷ ts) (j ∷ js) (suc place) text job all there here = text_at layout ts js place text job all.1 there here

-- the line of the job at a place
pub line_found : (own layout : Layout) (texts : List (List ℕ)) (jobs : List LoggedJob) (place : ℕ) (text : List ℕ) → AreTextsOf own texts jobs
    → slice_get texts place ≡ Some text → 0 < length text → own ≡ layout → IfSome (slice_get jobs place) (IsLineOf layout text)
line_found own layout texts jobs place text all there some same =
    subst (λ l. IfSome (slice_get jobs place) (IsLineOf l text)) same (by (slice_get jobs place) refl)
  where
    by : (found : Option LoggedJob) → slice_get jobs place ≡ found → IfSome found (IsLineOf own text)
    by None here = tt
    by (Some job) here = text_at own texts jobs place text job all there here some

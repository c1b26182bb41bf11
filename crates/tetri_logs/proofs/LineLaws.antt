-- Jobs that stand on one line of a log were submitted in one second.
use Rattle.std.proofs.Common.{◌≡◌, ◌+◌, ◌≤◌, ◌∙◌, ℕ, List, Bool, true, false, [], ◌∷◌, ◌++◌, All, Contains, length, map, cond, refl, sym, subst, arith}
use Rattle.std.specs.Prelude.{None, Option, Some, Result, Ok, Err, ◌==◌}
use Rattle.std.proofs.lemmas.List.Elements.{All-append, All-cons, All-contains, All-contains_itself, All-nil, All-weaker}
use Rattle.tetri_cluster.specs.Names.{is_name}
use Rattle.tetri_logs.specs.Entry.{header_entry, ids_if, layout_at, line_entries, row_entry, swf_entry, with_name}
use Rattle.tetri_logs.specs.Header.{header_in, is_header}
use Rattle.tetri_logs.specs.Layout.{first_layout}
use Rattle.tetri_logs.specs.Lines.{log_lines}
use Rattle.tetri_logs.specs.Reading.{AreTimedByLine, entries, entries_from, jobs_in}
use Rattle.tetri_logs.specs.Sacct.{cell, id_name, row_of, sacct_account, told_cell, without_return}
use Rattle.tetri_logs.specs.SetText.{seat_of, seated, with_seat}
use Rattle.tetri_logs.specs.Swf.{is_comment, swf_account, swf_partition}
use Rattle.tetri_logs.specs.Words.{word_at, words_of}
use Rattle.tetri_logs.specs.declared.account.Account.{Account}
use Rattle.tetri_logs.specs.declared.entry.Cause.{Cause}
use Rattle.tetri_logs.specs.declared.entry.Entry.{Entry}
use Rattle.tetri_logs.specs.declared.entry.Entry.TheVariants.{Job, Comment, Left}
use Rattle.tetri_logs.specs.declared.entry.Format.{Format}
use Rattle.tetri_logs.specs.declared.entry.LoggedJob.{LoggedJob}
use Rattle.tetri_logs.specs.declared.header.Header.{Header}
use Rattle.tetri_logs.specs.declared.layout.Layout.{Layout}
use Rattle.tetri_logs.specs.declared.layout.Layout.TheVariants.{Words, Table}
use Rattle.tetri_logs.proofs.LogLaws.{jobs_in-append}

-- ---- the jobs of a line
-- a job of this line that was submitted in this second
abbrev IsTimed : ℕ → ℕ → LoggedJob → Type 0
IsTimed line submit job = (job.line ≡ line) × (job.account.submit ≡ submit)

-- an entry that is such a job, or none
abbrev IsTimedEntry : ℕ → ℕ → Entry → Type 0
IsTimedEntry line submit (Job job) = IsTimed line submit job
IsTimedEntry line submit (Comment fact) = Unit {0}
IsTimedEntry line submit (Left reject) = Unit {0}

abbrev AreTimed : ℕ → ℕ → List Entry → Type 0
AreTimed line submit [] = Unit {0}
AreTimed line submit (e ∷ es) = IsTimedEntry line submit e × AreTimed line submit es

-- when a job was submitted, 0 where there is none
abbrev submit_in : Result Account Cause → ℕ
submit_in (Ok account) = account.submit
submit_in (Err cause) = 0

-- the one or the other
either-timed : (line submit : ℕ) (b : Bool) (x y : Entry) → IsTimedEntry line submit x → IsTimedEntry line submit y → IsTimedEntry line submit (cond b x y)
either-timed line submit true x y p q = p
either-timed line submit false x y p q = q

either-all : (line submit : ℕ) (b : Bool) (xs ys : List Entry) → AreTimed line submit xs → AreTimed line submit ys → AreTimed line submit (cond b xs ys)
either-all line submit true xs ys p q = p
either-all line submit false xs ys p q = q

-- all entries of a line have its number and its second
named-timed : (line : ℕ) (name : List ℕ) (account : Result Account Cause) → IsTimedEntry line (submit_in account) (with_name line name account)
named-timed line name (Err cause) = tt
named-timed line name (Ok account) = either-timed line account.submit (is_name name) _ _ (refl, refl) tt

-- a set changes neither the line nor the second
by_seat : (line submit : ℕ) (job : LoggedJob) (seat : Result (List ℕ) Cause) → IsTimed line submit job → IsTimedEntry line submit (with_seat job seat)
by_seat line submit job (Ok set) p = p
by_seat line submit job (Err cause) p = tt

seated-timed : (line submit : ℕ) (mixed : Bool) (e : Entry) (partitions constraints : List ℕ) → IsTimedEntry line submit e
    → IsTimedEntry line submit (seated mixed e partitions constraints)
seated-timed line submit false e partitions constraints p = p
seated-timed line submit true (Job job) partitions constraints p = by_seat line submit job (seat_of partitions constraints) p
seated-timed line submit true (Comment fact) partitions constraints p = tt
seated-timed line submit true (Left reject) partitions constraints p = tt

swf-timed : (mixed : Bool) (line : ℕ) (text : List ℕ) → IsTimedEntry line (submit_in (swf_account (words_of text))) (swf_entry mixed line text)
swf-timed mixed line text =
    let words = words_of text in
    let account = swf_account words in
    either-timed line (submit_in account) (is_comment text) _ _ tt
    (seated-timed line (submit_in account) mixed (with_name line (word_at words 0) account) (swf_partition words) [] (named-timed line (word_at words 0) account))

header-timed : (line submit : ℕ) (row : List (List ℕ)) (named : Option Header) → IsTimedEntry line submit (header_entry line row named)
header-timed line submit row None = tt
header-timed line submit row (Some h) = tt

rows-timed : (mixed : Bool) (h : Header) (line : ℕ) (row : List (List ℕ)) (account : Result Account Cause) (ids : List (List ℕ))
    → AreTimed line (submit_in account) (map (row_entry mixed h line row account) ids)
rows-timed mixed h line row account [] = tt
rows-timed mixed h line row account (id ∷ ids) = (
  seated-timed line (submit_in account) mixed (with_name line (id_name id) account) (told_cell row h.partitions) (told_cell row h.constraints) (named-timed line (id_name id) account),
  rows-timed mixed h line row account ids,
)

-- the second that a line says
abbrev submit_at : Layout → List ℕ → ℕ
submit_at Words text = submit_in (swf_account (words_of text))
submit_at (Table h) text = submit_in (sacct_account h (row_of text))

line-timed : (mixed : Bool) (layout : Layout) (line : ℕ) (text : List ℕ) → AreTimed line (submit_at layout text) (line_entries mixed layout line text)
line-timed mixed Words line text = (swf-timed mixed line text, tt)
line-timed mixed (Table h) line text =
    let row = row_of text in
    let account = sacct_account h row in
    either-all line (submit_in account) (length (without_return text) == 0) _ _ (tt, tt)
    (either-all line (submit_in account) (is_header row) _ _ (header-timed line (submit_in account) row (header_in row), tt)
    (rows-timed mixed h line row account (ids_if account (cell row h.id))))

-- a job that stands alone on a line has its number
pub job_line : (mixed : Bool) (layout : Layout) (line : ℕ) (text : List ℕ) (job : LoggedJob) → line_entries mixed layout line text ≡ Job job ∷ [] → job.line ≡ line
job_line mixed layout line text job e = (subst (AreTimed line (submit_at layout text)) e (line-timed mixed layout line text)).0.0

-- and so have its jobs
jobs-timed : (line submit : ℕ) (es : List Entry) → AreTimed line submit es → All (IsTimed line submit) (jobs_in es)
jobs-timed line submit [] timed = All-nil (IsTimed line submit)
jobs-timed line submit (Job job ∷ es) timed = All-cons (IsTimed line submit) job (jobs_in es) timed.0 (jobs-timed line submit es timed.1)
jobs-timed line submit (Comment fact ∷ es) timed = jobs-timed line submit es timed.1
jobs-timed line submit (Left reject ∷ es) timed = jobs-timed line submit es timed.1

-- ---- the jobs of all lines
-- a job of this line or of one behind it
abbrev IsBehind : ℕ → LoggedJob → Type 0
IsBehind line job = line ≤ job.line

-- two jobs were submitted in one second if they stand on one line
abbrev AreAlike : LoggedJob → LoggedJob → Type 0
AreAlike a b = a.line ≡ b.line → a.account.submit ≡ b.account.submit

-- the jobs of a line, and those of later lines
joined-timed : (line submit : ℕ) (xs ys : List LoggedJob) → All (IsTimed line submit) xs → All (IsBehind (line + 1)) ys → AreTimedByLine ys → AreTimedByLine (xs ++ ys)
joined-timed line submit xs ys timed behind others =
    All-append (λ a. All (AreAlike a) (xs ++ ys)) xs ys
    (All-weaker (IsTimed line submit) (λ a. All (AreAlike a) (xs ++ ys))
    (λ a here. All-append (AreAlike a) xs ys
    (All-weaker (IsTimed line submit) (AreAlike a) (λ b there same. here.1 ∙ sym there.1) xs timed)
    (All-weaker (IsBehind (line + 1)) (AreAlike a) (λ b there same. absurd (omega (arith, here.0, there, same))) ys behind))
    xs timed)
    (All-weaker (Contains ys) (λ a. All (AreAlike a) (xs ++ ys))
    (λ a inside.
    let here : line + 1 ≤ a.line = All-contains (IsBehind (line + 1)) ys a behind inside in
    All-append (AreAlike a) xs ys
    (All-weaker (IsTimed line submit) (AreAlike a) (λ b there same. absurd (omega (arith, here, there.0, same))) xs timed)
    (All-contains (λ c. All (AreAlike c) ys) ys a others inside))
    ys (All-contains_itself ys))

-- no job of these lines stands before the first of them
lines-behind : (mixed : Bool) (layout : Layout) (number : ℕ) (lines : List (List ℕ)) → All (IsBehind number) (jobs_in (entries_from mixed layout number lines))
lines-behind mixed layout number [] = All-nil (IsBehind number)
lines-behind mixed layout number (line ∷ lines) =
    let here = line_entries mixed layout number line in
    let rest = entries_from mixed (layout_at layout line) (number + 1) lines in
    subst (All (IsBehind number)) (sym (jobs_in-append here rest))
    (All-append (IsBehind number) (jobs_in here) (jobs_in rest)
    (All-weaker (IsTimed number (submit_at layout line)) (IsBehind number) (λ job at. omega (arith, at.0)) (jobs_in here)
    (jobs-timed number (submit_at layout line) here (line-timed mixed layout number line)))
    (All-weaker (IsBehind (number + 1)) (IsBehind number) (λ job after. omega (arith, after)) (jobs_in rest) (lines-behind mixed (layout_at layout line) (number + 1) lines)))

-- the jobs of these lines, and of a whole log
lines-timed : (mixed : Bool) (layout : Layout) (number : ℕ) (lines : List (List ℕ)) → AreTimedByLine (jobs_in (entries_from mixed layout number lines))
lines-timed mixed layout number [] = All-nil (λ a. All (AreAlike a) [])
lines-timed mixed layout number (line ∷ lines) =
    let here = line_entries mixed layout number line in
    let rest = entries_from mixed (layout_at layout line) (number + 1) lines in
    subst AreTimedByLine (sym (jobs_in-append here rest))
    (joined-timed number (submit_at layout line) (jobs_in here) (jobs_in rest)
    (jobs-timed number (submit_at layout line) here (line-timed mixed layout number line))
    (lines-behind mixed (layout_at layout line) (number + 1) lines)
    (lines-timed mixed (layout_at layout line) (number + 1) lines))

pub timed_by_line : (mixed : Bool) (format : Format) (log : List ℕ) → AreTimedByLine (jobs_in (entries mixed format log))
timed_by_line mixed format log = lines-timed mixed (first_layout format) 1 (log_lines log)

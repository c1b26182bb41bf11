-- What follows of the entries of a log.
use Rattle.std.proofs.Common.{◌≡◌, ◌+◌, List, [], ◌∷◌, ◌++◌, length, refl, ap, sym, arith, ◌∙◌, append_assoc}
use Rattle.tetri_base.specs.Lists.{count}
use Rattle.tetri_base.proofs.ListLaws.{sum_of-append}
use Rattle.tetri_logs.specs.Reading.{facts_in, is_comment, jobs_in, left_in}
use Rattle.tetri_logs.specs.declared.entry.Entry.{Entry}
use Rattle.tetri_logs.specs.declared.entry.Entry.TheVariants.{Job, Comment, Left}
use Rattle.tetri_logs.specs.declared.entry.LoggedJob.{LoggedJob}
use Rattle.tetri_logs.specs.declared.entry.Reject.{Reject}
use Rattle.tetri_logs.specs.declared.reading.Facts.{Facts}

-- ---- the jobs, the lines left out, the facts and the comments of some entries and of others
pub jobs_in-append : (xs ys : List Entry) → jobs_in (xs ++ ys) ≡ jobs_in xs ++ jobs_in ys
jobs_in-append [] ys = refl
jobs_in-append (Job job ∷ xs) ys = ap (λ js. job ∷ js) (jobs_in-append xs ys)
jobs_in-append (Comment fact ∷ xs) ys = jobs_in-append xs ys
jobs_in-append (Left reject ∷ xs) ys = jobs_in-append xs ys

pub left_in-append : (xs ys : List Entry) → left_in (xs ++ ys) ≡ left_in xs ++ left_in ys
left_in-append [] ys = refl
left_in-append (Job job ∷ xs) ys = left_in-append xs ys
left_in-append (Comment fact ∷ xs) ys = left_in-append xs ys
left_in-append (Left reject ∷ xs) ys = ap (λ rs. reject ∷ rs) (left_in-append xs ys)

pub facts_in-append : (f : Facts) (xs ys : List Entry) → facts_in f (xs ++ ys) ≡ facts_in (facts_in f xs) ys
facts_in-append f [] ys = refl
facts_in-append f (Job job ∷ xs) ys = facts_in-append f xs ys
facts_in-append f (Comment fact ∷ xs) ys = facts_in-append (facts_in f (Comment fact ∷ [])) xs ys
facts_in-append f (Left reject ∷ xs) ys = facts_in-append f xs ys

pub comments-append : (xs ys : List Entry) → count is_comment (xs ++ ys) ≡ count is_comment xs + count is_comment ys
comments-append xs ys = sum_of-append _ xs ys

-- the same with others before them
pub jobs_in-more : (before : List LoggedJob) (xs ys : List Entry) → (before ++ jobs_in xs) ++ jobs_in ys ≡ before ++ jobs_in (xs ++ ys)
jobs_in-more before xs ys = append_assoc before (jobs_in xs) (jobs_in ys) ∙ ap (λ js. before ++ js) (sym (jobs_in-append xs ys))

pub left_in-more : (before : List Reject) (xs ys : List Entry) → (before ++ left_in xs) ++ left_in ys ≡ before ++ left_in (xs ++ ys)
left_in-more before xs ys = append_assoc before (left_in xs) (left_in ys) ∙ ap (λ rs. before ++ rs) (sym (left_in-append xs ys))

-- each entry is a job, a comment or left out
pub all_entries : (es : List Entry) → length (jobs_in es) + length (left_in es) + count is_comment es ≡ length es
all_entries [] = refl
all_entries (Job job ∷ es) = omega (arith, all_entries es)
all_entries (Comment fact ∷ es) = omega (arith, all_entries es)
all_entries (Left reject ∷ es) = omega (arith, all_entries es)

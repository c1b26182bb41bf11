-- Of jobs that come in their turn the same is taken as of those in order of submission.
use Rattle.std.proofs.Common.{◌≡◌, ◌≤◌, ◌<◌, ◌∙◌, ◌++◌, ℕ, List, Bool, true, false, [], ◌∷◌, map, cond, get_or, refl, ap, sym, subst, arith, append_assoc, inl, inr}
use Rattle.std.specs.Prelude.{◌&&◌, ◌⊎◌, All, fold, nat_le, not}
use Rattle.std.proofs.lemmas.Bool.{false_from_ne_true}
use Rattle.std.proofs.lemmas.Bool.Decides.{nat_tests}
use Rattle.std.proofs.lemmas.List.Elements.{All-cons, All-head, All-nil, All-tail, All-weaker}
use Rattle.std.proofs.lemmas.List.Sorted.{All-permutation}
use Rattle.tetri_logs.specs.declared.entry.LoggedJob.{LoggedJob}
use Rattle.tetri_logs.specs.declared.entry.Reject.{Reject}
use Rattle.tetri_logs.specs.declared.options.Settings.{Settings}
use Rattle.tetri_workload.specs.Ordering.{IsMoveBy}
use Rattle.tetri_logs.specs.Reading.{AreTimedByLine}
use Rattle.tetri_workload.specs.Reading.{ComeInTurn, is_placed, last_behind}
use Rattle.tetri_workload.specs.Taking.{Tally, is_full, with_left, with_logged}
use Rattle.tetri_workload.proofs.FullLemmas.{left_all, left_by, left_by-line, logged-left, logged-unplaced, reject_of, unplaced_reject}
use Rattle.tetri_workload.proofs.OrderLemmas.{AllDiffer, Differs, IsMoveBy-append, IsMoveBy-before, IsMoveBy-images, IsMoveBy-past, IsMoveBy-refl, IsMoveBy-sym, IsMoveBy-trans, insert, moved-ordered, ordered}
use Rattle.tetri_workload.proofs.EntryLemmas.{submit_of}

abbrev line_of : Reject → ℕ
line_of reject = reject.line

-- ---- the same is taken, but for the order in which jobs are left out
pub record IsAlike (u v : Tally) : Type 0 where
  pub same : v ≡ with_left u v.left
  pub moved : IsMoveBy line_of u.left v.left

-- one and the same
alike-refl : (t : Tally) → IsAlike t t
alike-refl t = record { same = refl; moved = IsMoveBy-refl line_of t.left }

-- the other way round
alike-sym : (u v : Tally) → IsAlike u v → IsAlike v u
alike-sym u v alike = record { same = sym (ap (λ w. with_left w u.left) alike.same); moved = IsMoveBy-sym line_of u.left v.left alike.moved }

-- through a third
alike-trans : (u v w : Tally) → IsAlike u v → IsAlike v w → IsAlike u w
alike-trans u v w one two = record {
  same = two.same ∙ ap (λ t. with_left t w.left) one.same;
  moved = IsMoveBy-trans line_of u.left v.left w.left one.moved two.moved;
}

-- two that differ only in what is left out
alike-left : (t u v : Tally) (ls ms : List Reject) → u ≡ with_left t ls → v ≡ with_left t ms → IsMoveBy line_of ls ms → IsAlike u v
alike-left t u v ls ms one two move =
    let given : IsAlike (with_left t ls) (with_left t ms) = record { same = refl; moved = move } in
    subst (λ w. IsAlike w v) (sym one) (subst (IsAlike (with_left t ls)) (sym two) given)

-- with one job more
alike-logged : (s : Settings) (u v : Tally) (job : LoggedJob) → IsAlike u v → IsAlike (with_logged s u job) (with_logged s v job)
alike-logged s u v job alike =
    alike-left (with_logged s (with_left u []) job) (with_logged s u job) (with_logged s v job) (u.left ++ left_by s u job) (v.left ++ left_by s u job)
    (logged-left s job u u.left)
    (ap (λ w. with_logged s w job) alike.same ∙ logged-left s job u v.left)
    (IsMoveBy-before line_of (left_by s u job) u.left v.left alike.moved)

-- with more jobs
alike-fold : (s : Settings) (u v : Tally) (jobs : List LoggedJob) → IsAlike u v → IsAlike (fold (with_logged s) u jobs) (fold (with_logged s) v jobs)
alike-fold s u v [] alike = alike
alike-fold s u v (job ∷ jobs) alike = alike-fold s (with_logged s u job) (with_logged s v job) jobs (alike-logged s u v job alike)

-- ---- jobs that change places
-- a job without a place and one on another line
alike-unplaced : (s : Settings) (t : Tally) (x y : LoggedJob) → is_placed s x ≡ false → (x.line ≡ y.line → ⊥)
    → IsAlike (with_logged s (with_logged s t x) y) (with_logged s (with_logged s t y) x)
alike-unplaced s t x y none other =
    let r : Reject = unplaced_reject s x in
    let left : List Reject = left_by s t y in
    let apart : All (λ l. line_of r ≡ line_of l → ⊥) left = All-weaker (λ l. l.line ≡ y.line) (λ l. line_of r ≡ line_of l → ⊥) (λ l there same. other (same ∙ there)) left (left_by-line s y t) in
    let move : IsMoveBy line_of (t.left ++ r ∷ left) (t.left ++ (left ++ r ∷ [])) = IsMoveBy-append line_of t.left (r ∷ left) (left ++ r ∷ []) (IsMoveBy-past line_of r left apart) in
    alike-left (with_logged s (with_left t []) y) (with_logged s (with_logged s t x) y) (with_logged s (with_logged s t y) x) (t.left ++ r ∷ left) (t.left ++ (left ++ r ∷ []))
    (ap (λ u. with_logged s u y) (logged-unplaced s t x none) ∙ logged-left s y t (t.left ++ r ∷ [])
    ∙ ap (with_left (with_logged s (with_left t []) y)) (append_assoc t.left (r ∷ []) left))
    (logged-unplaced s (with_logged s t y) x none ∙ ap (λ u. with_left u (u.left ++ r ∷ [])) (logged-left s y t t.left)
    ∙ ap (with_left (with_logged s (with_left t []) y)) (append_assoc t.left left (r ∷ [])))
    move

-- a job passes one that was submitted earlier where they stand on two lines and one of them has no place
abbrev MayPass : Settings → LoggedJob → LoggedJob → Type 0
MayPass s job y = submit_of y < submit_of job → (y.line ≡ job.line → ⊥) × ((is_placed s y ≡ false) ⊎ (is_placed s job ≡ false))

-- two jobs of which one may pass the other
alike-swap : (s : Settings) (t : Tally) (job y : LoggedJob) → (y.line ≡ job.line → ⊥) → (is_placed s y ≡ false) ⊎ (is_placed s job ≡ false)
    → IsAlike (with_logged s (with_logged s t y) job) (with_logged s (with_logged s t job) y)
alike-swap s t job y other (inl none) = alike-unplaced s t y job none other
alike-swap s t job y other (inr none) =
    alike-sym (with_logged s (with_logged s t job) y) (with_logged s (with_logged s t y) job) (alike-unplaced s t job y none (λ same. other (sym same)))

-- a job and the first of the others, by whether that was submitted earlier
past-by : (b : Bool) (s : Settings) (t : Tally) (job y : LoggedJob) (ys : List LoggedJob) → nat_le (submit_of job) (submit_of y) ≡ b → MayPass s job y
    → IsAlike (fold (with_logged s) (with_logged s t y) (insert submit_of job ys)) (fold (with_logged s) (with_logged s t y) (job ∷ ys))
    → IsAlike (fold (with_logged s) t (cond b (job ∷ y ∷ ys) (y ∷ insert submit_of job ys))) (fold (with_logged s) t (job ∷ y ∷ ys))
past-by true s t job y ys test may rest = alike-refl (fold (with_logged s) t (job ∷ y ∷ ys))
past-by false s t job y ys test may rest =
    let less : submit_of y < submit_of job = grind (arith, nat_tests, test) in
    let swapped = alike-swap s t job y (may less).0 (may less).1 in
    alike-trans (fold (with_logged s) (with_logged s t y) (insert submit_of job ys)) (fold (with_logged s) (with_logged s t y) (job ∷ ys)) (fold (with_logged s) t (job ∷ y ∷ ys)) rest
    (alike-fold s (with_logged s (with_logged s t y) job) (with_logged s (with_logged s t job) y) ys swapped)

-- a job behind those that were submitted earlier, and before all
alike-past : (s : Settings) (t : Tally) (job : LoggedJob) (ys : List LoggedJob) → All (MayPass s job) ys
    → IsAlike (fold (with_logged s) t (insert submit_of job ys)) (fold (with_logged s) t (job ∷ ys))
alike-past s t job [] may = alike-refl (with_logged s t job)
alike-past s t job (y ∷ ys) may =
    past-by (nat_le (submit_of job) (submit_of y)) s t job y ys refl (All-head (MayPass s job) y ys may)
    (alike-past s (with_logged s t y) job ys (All-tail (MayPass s job) y ys may))

-- ---- jobs that come in their turn
-- a number that is no higher than the one that takes its place
later-by : (b c : Bool) (last submit : ℕ) → (b ≡ true → last ≤ submit) → last ≤ cond (b && c) submit last
later-by true true last submit below = below refl
later-by true false last submit below = omega arith
later-by false c last submit below = omega arith

-- none that has a place was submitted before the last one that had a place and found the trace not full yet
pub not_before : (s : Settings) (t : Tally) (last : ℕ) (jobs : List LoggedJob) → ComeInTurn s t last jobs → All (λ j. is_placed s j ≡ true → last ≤ submit_of j) jobs
not_before s t last [] comes = All-nil (λ j. is_placed s j ≡ true → last ≤ submit_of j)
not_before s t last (job ∷ jobs) comes =
    let later : last ≤ last_behind s t last job = later-by (is_placed s job) (not (is_full s t)) last (submit_of job) comes.0 in
    All-cons (λ j. is_placed s j ≡ true → last ≤ submit_of j) job jobs comes.0
    (All-weaker (λ j. is_placed s j ≡ true → last_behind s t last job ≤ submit_of j) (λ j. is_placed s j ≡ true → last ≤ submit_of j)
    (λ j after placed. let above = after placed in omega (arith, later, above)) jobs
    (not_before s (with_logged s t job) (last_behind s t last job) jobs comes.1))

-- two jobs that were submitted in one second if they stand on one line
abbrev IsTimed : LoggedJob → LoggedJob → Type 0
IsTimed a b = a.line ≡ b.line → a.account.submit ≡ b.account.submit

-- the jobs behind the first one
timed-rest : (job : LoggedJob) (jobs : List LoggedJob) → AreTimedByLine (job ∷ jobs) → AreTimedByLine jobs
timed-rest job jobs timed =
    All-weaker (λ a. All (IsTimed a) (job ∷ jobs)) (λ a. All (IsTimed a) jobs) (λ a all. All-tail (IsTimed a) job jobs all) jobs
    (All-tail (λ a. All (IsTimed a) (job ∷ jobs)) job jobs timed)

-- the first one and those behind it
timed-first : (job : LoggedJob) (jobs : List LoggedJob) → AreTimedByLine (job ∷ jobs) → All (IsTimed job) jobs
timed-first job jobs timed = All-tail (IsTimed job) job jobs (All-head (λ a. All (IsTimed a) (job ∷ jobs)) job jobs timed)

-- none stands on the line of one before it that was submitted later
other_lines : (s : Settings) (t : Tally) (jobs : List LoggedJob) → AreTimedByLine jobs → AllDiffer submit_of (reject_of s t) line_of jobs
other_lines s t [] timed = tt
other_lines s t (job ∷ jobs) timed = (
  All-weaker (IsTimed job) (Differs submit_of (reject_of s t) line_of job) (λ y is before same. let one = is same in absurd (omega (arith, one, before))) jobs (timed-first job jobs timed),
  other_lines s t jobs (timed-rest job jobs timed),
)

-- a job without a place passes those that were submitted earlier
pass-unplaced : (s : Settings) (job : LoggedJob) (jobs : List LoggedJob) → is_placed s job ≡ false → All (IsTimed job) jobs → All (MayPass s job) jobs
pass-unplaced s job jobs none timed =
    All-weaker (IsTimed job) (MayPass s job) (λ y is less. ((λ same. let one = is (sym same) in absurd (omega (arith, one, less))), inr none)) jobs timed

-- a job that was submitted earlier has no place, if with one it would come too early
may_pass-placed : (s : Settings) (job y : LoggedJob) → (is_placed s y ≡ true → submit_of job ≤ submit_of y) → IsTimed job y → MayPass s job y
may_pass-placed s job y low is less = (
  (λ same. let one = is (sym same) in absurd (omega (arith, one, less))),
  inl (false_from_ne_true (is_placed s y) (λ placed. let above = low placed in absurd (omega (arith, above, less)))),
)

-- a job passes those that were submitted earlier, if with a place they would come too early
pass-placed : (s : Settings) (job : LoggedJob) (jobs : List LoggedJob) → All (λ j. is_placed s j ≡ true → submit_of job ≤ submit_of j) jobs → All (IsTimed job) jobs
    → All (MayPass s job) jobs
pass-placed s job jobs lowest timed k d within = may_pass-placed s job (get_or jobs k d) (lowest k d within) (timed k d within)

-- ---- the same is taken of them as of them in order of submission
-- where the trace is full
alike-full : (s : Settings) (t : Tally) (jobs : List LoggedJob) → is_full s t ≡ true → AreTimedByLine jobs
    → IsAlike (fold (with_logged s) t (ordered submit_of jobs)) (fold (with_logged s) t jobs)
alike-full s t jobs full timed =
    alike-left t (fold (with_logged s) t (ordered submit_of jobs)) (fold (with_logged s) t jobs)
    (t.left ++ map (reject_of s t) (ordered submit_of jobs)) (t.left ++ map (reject_of s t) jobs)
    (left_all s t (ordered submit_of jobs) full) (left_all s t jobs full)
    (IsMoveBy-append line_of t.left (map (reject_of s t) (ordered submit_of jobs)) (map (reject_of s t) jobs)
    (IsMoveBy-images submit_of (reject_of s t) line_of jobs (other_lines s t jobs timed)))

-- where the first job may pass the others
alike-first : (s : Settings) (t : Tally) (job : LoggedJob) (jobs : List LoggedJob) → All (MayPass s job) jobs
    → IsAlike (fold (with_logged s) (with_logged s t job) (ordered submit_of jobs)) (fold (with_logged s) (with_logged s t job) jobs)
    → IsAlike (fold (with_logged s) t (ordered submit_of (job ∷ jobs))) (fold (with_logged s) t (job ∷ jobs))
alike-first s t job jobs may rest =
    alike-trans (fold (with_logged s) t (ordered submit_of (job ∷ jobs))) (fold (with_logged s) t (job ∷ ordered submit_of jobs)) (fold (with_logged s) t (job ∷ jobs))
    (alike-past s t job (ordered submit_of jobs) (All-permutation (MayPass s job) jobs (ordered submit_of jobs) (moved-ordered submit_of jobs) may))
    rest

-- with one job before others, by whether the trace is full and whether that job has a place
alike-by : (full placed : Bool) (s : Settings) (t : Tally) (last : ℕ) (job : LoggedJob) (jobs : List LoggedJob) → is_full s t ≡ full → is_placed s job ≡ placed
    → AreTimedByLine (job ∷ jobs) → ComeInTurn s t last (job ∷ jobs)
    → IsAlike (fold (with_logged s) (with_logged s t job) (ordered submit_of jobs)) (fold (with_logged s) (with_logged s t job) jobs)
    → IsAlike (fold (with_logged s) t (ordered submit_of (job ∷ jobs))) (fold (with_logged s) t (job ∷ jobs))
alike-by true placed s t last job jobs full has timed comes rest = alike-full s t (job ∷ jobs) full timed
alike-by false false s t last job jobs room none timed comes rest = alike-first s t job jobs (pass-unplaced s job jobs none (timed-first job jobs timed)) rest
alike-by false true s t last job jobs room has timed comes rest =
    let is : last_behind s t last job ≡ submit_of job =
    ap (λ b. cond (b && not (is_full s t)) (submit_of job) last) has ∙ ap (λ b. cond (true && not b) (submit_of job) last) room in
    let lowest : All (λ j. is_placed s j ≡ true → submit_of job ≤ submit_of j) jobs =
    subst (λ n. All (λ j. is_placed s j ≡ true → n ≤ submit_of j) jobs) is (not_before s (with_logged s t job) (last_behind s t last job) jobs comes.1) in
    alike-first s t job jobs (pass-placed s job jobs lowest (timed-first job jobs timed)) rest

-- of jobs that come in their turn
pub alike : (s : Settings) (t : Tally) (last : ℕ) (jobs : List LoggedJob) → AreTimedByLine jobs → ComeInTurn s t last jobs
    → IsAlike (fold (with_logged s) t (ordered submit_of jobs)) (fold (with_logged s) t jobs)
alike s t last [] timed comes = alike-refl t
alike s t last (job ∷ jobs) timed comes =
    alike-by (is_full s t) (is_placed s job) s t last job jobs refl refl timed comes
    (alike s (with_logged s t job) (last_behind s t last job) jobs (timed-rest job jobs timed) comes.1)

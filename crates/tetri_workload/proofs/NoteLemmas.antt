-- What follows from what is noted of the jobs that are taken.
use Rattle.std.proofs.Common.{◌≡◌, ◌<◌, ◌≤◌, ◌^◌, ◌∙◌, ◌++◌, ◌∷◌, [], ℕ, List, Bool, true, false, cond, length, decimal, refl, ap, sym, subst, arith, bytes_eq, inl, inr, true≢false}
use Rattle.std.specs.Prelude.{◌&&◌, ◌||◌, ◌==◌, All, Option, Some, None, max, nat_le, nat_lt, not, slice_get}
use Rattle.std.proofs.Math.Nat.{le-max_left, le-max_right}
use Rattle.std.proofs.lemmas.Bool.{false_from_ne_true}
use Rattle.std.proofs.lemmas.Bool.Decides.{nat_tests}
use Rattle.std.proofs.lemmas.Fmt.{decimal_injective}
use Rattle.std.proofs.lemmas.List.{map-append}
use Rattle.std.proofs.lemmas.List.Elements.{All-get_or, All-push, All-weaker}
use Rattle.std.proofs.lemmas.List.Folds.{list_any_none}
use Rattle.std.proofs.lemmas.Option.{get_or_from_slice_get, slice_get_within}
use Rattle.std.proofs.lemmas.Slice.Eq.{bytes_eq-Decides}
use Rattle.tetri_cluster.specs.Names.{is_among, is_name}
use Rattle.tetri_io.proofs.NumberLemmas.{decimal_avoids}
use Rattle.tetri_logs.specs.declared.entry.Cause.TheVariants.{Beyond, Outside, Repeated}
use Rattle.tetri_logs.specs.declared.options.Settings.{Settings}
use Rattle.tetri_logs.specs.declared.placing.Placing.{Placing}
use Rattle.tetri_trace.specs.Scenario.{Submission, job_names}
use Rattle.tetri_workload.specs.Marks.{is_marked, place_of_name}
use Rattle.tetri_workload.specs.Notes.{AreNoted, IsPlainBy, again_name, has_colon}
use Rattle.tetri_workload.specs.Taking.{Tally, again, is_beyond, is_full, is_second, kept, left_out, named, submitted, taken}
use Rattle.tetri_workload.specs.declared.notes.Notes.{Notes}

-- ---- one job more
-- what is said by a second is said by a later one
plain-later : (a b : ℕ) (name : List ℕ) → a ≤ b → IsPlainBy a name → IsPlainBy b name
plain-later a b name less (inl none) = inl none
plain-later a b name less (inr is) = inr (is.0, is.1, is.2, (let below = is.3 in omega (arith, below, less)))

-- of a job that was submitted again, or in whose name no colon stands
plain-by : (again colon : Bool) (latest submit : ℕ) (name : List ℕ) → has_colon name ≡ colon → submit ≤ latest
    → (again ≡ true → (first : List ℕ) × (name ≡ again_name first submit)) → (again || not colon) ≡ true → IsPlainBy latest name
plain-by true colon latest submit name has below was is = inr ((was refl).0, submit, (was refl).1, below)
plain-by false false latest submit name has below was is = inl has
plain-by false true latest submit name has below was is = absurd (true≢false (sym is))

both : (a b : Bool) → (a && b) ≡ true → (a ≡ true) × (b ≡ true)
both true b is = (refl, is)
both false b is = absurd (true≢false (sym is))

pub noted-more : (old new : Notes) (submits : List ℕ) (names : List (List ℕ)) (name : List ℕ) (submit : ℕ) (again : Bool)
    → is_marked new.marks (place_of_name name) ≡ true
    → ((other : ℕ) → is_marked old.marks other ≡ true → is_marked new.marks other ≡ true)
    → new.latest ≡ max old.latest submit
    → new.plain ≡ (old.plain && (again || not (has_colon name)))
    → (again ≡ true → (first : List ℕ) × (name ≡ again_name first submit))
    → AreNoted old submits names → AreNoted new (submits ++ submit ∷ []) (names ++ name ∷ [])
noted-more old new submits names name submit again own others latest plain was noted =
    let later : old.latest ≤ new.latest = subst (λ n. old.latest ≤ n) (sym latest) (le-max_left old.latest submit) in
    let below : submit ≤ new.latest = subst (λ n. submit ≤ n) (sym latest) (le-max_right old.latest submit) in
    record {
      marked = All-push (λ one. is_marked new.marks (place_of_name one) ≡ true) names name
          (All-weaker (λ one. is_marked old.marks (place_of_name one) ≡ true) (λ one. is_marked new.marks (place_of_name one) ≡ true) (λ one is. others (place_of_name one) is) names noted.marked)
          own;
      past = All-push (λ second. second ≤ new.latest) submits submit
          (All-weaker (λ second. second ≤ old.latest) (λ second. second ≤ new.latest) (λ second is. omega (arith, is, later)) submits noted.past)
          below;
      plain = λ is. let parts = both old.plain (again || not (has_colon name)) (sym plain ∙ is) in
          All-push (IsPlainBy new.latest) names name
          (All-weaker (IsPlainBy old.latest) (IsPlainBy new.latest) (λ one was. plain-later old.latest new.latest one later was) names (noted.plain parts.0))
          (plain-by again (has_colon name) new.latest submit name refl below was parts.1);
    }

-- of a job that is taken
pub noted-taken : (n : Notes) (submits more : List ℕ) (old new : List Submission) (name : List ℕ) (p : Placing) (submit : ℕ) → new ≡ old ++ submitted name p ∷ [] → more ≡ submits ++ submit ∷ []
    → AreNoted n (submits ++ submit ∷ []) (job_names old ++ name ∷ []) → AreNoted n more (job_names new)
noted-taken n submits more old new name p submit jobs pushed noted =
    let names : job_names old ++ name ∷ [] ≡ job_names new = sym (ap job_names jobs ∙ map-append (λ j. j.name) old (submitted name p ∷ [])) in
    subst (λ ss. AreNoted n ss (job_names new)) (sym pushed) (subst (AreNoted n (submits ++ submit ∷ [])) names noted)

-- ---- the names of jobs that were submitted again
-- a colon stands before what is behind it
colon-before : (xs ys : List ℕ) → has_colon (xs ++ 58 ∷ ys) ≡ true
colon-before [] ys = refl
colon-before (x ∷ xs) ys = or-by (x == 58) (colon-before xs ys)
  where
    or-by : (b : Bool) {c : Bool} → c ≡ true → (b || c) ≡ true
    or-by true is = refl
    or-by false is = is

abbrev rest_of : List ℕ → List ℕ
rest_of [] = []
rest_of (x ∷ xs) = xs

-- two texts are the same behind their last colons if they are the same with them
same_behind : (ns ms xs ys : List ℕ) → has_colon xs ≡ false → has_colon ys ≡ false → ns ++ 58 ∷ xs ≡ ms ++ 58 ∷ ys → xs ≡ ys
same_behind [] [] xs ys none other same = ap rest_of same
same_behind [] (m ∷ ms) xs ys none other same = absurd (true≢false (sym (colon-before ms ys) ∙ ap has_colon (sym (ap rest_of same)) ∙ none))
same_behind (n ∷ ns) [] xs ys none other same = absurd (true≢false (sym (colon-before ns xs) ∙ ap has_colon (ap rest_of same) ∙ other))
same_behind (n ∷ ns) (m ∷ ms) xs ys none other same = same_behind ns ms xs ys none other (ap rest_of same)

-- no colon stands in a second
plain_second : (second : ℕ) → second < 2 ^ 32 → has_colon (decimal second) ≡ false
plain_second second small = list_any_none (λ b. b == 58) (decimal second) (decimal_avoids 58 second (inr (omega arith)) (omega (arith, small)))

-- two such names are of one second
same_second : (first other : List ℕ) (m n : ℕ) → m < 2 ^ 32 → n < 2 ^ 32 → again_name first m ≡ again_name other n → m ≡ n
same_second first other m n small low same =
    decimal_injective m n (omega (arith, small)) (omega (arith, low))
    (same_behind first other (decimal m) (decimal n) (plain_second m small) (plain_second n low) same)

-- none of these is such a name of a later second
other_name : (latest second : ℕ) (first name : List ℕ) → latest < second → second < 2 ^ 32 → IsPlainBy latest name → bytes_eq (again_name first second) name ≡ false
other_name latest second first name less small (inl none) =
    false_from_ne_true (bytes_eq (again_name first second) name)
    (λ is. let same : again_name first second ≡ name = (bytes_eq-Decides (again_name first second) name).0 is in
    true≢false (sym (colon-before first (decimal second)) ∙ ap has_colon same ∙ none))
other_name latest second first name less small (inr was) =
    false_from_ne_true (bytes_eq (again_name first second) name)
    (λ is. let same : again_name first second ≡ name = (bytes_eq-Decides (again_name first second) name).0 is in
    let low = was.3 in
    let one : second ≡ was.1 = same_second first was.0 second was.1 small (omega (arith, low, less, small)) (same ∙ was.2) in
    absurd (omega (arith, one, low, less)))

pub none_again : (latest second : ℕ) (first : List ℕ) (names : List (List ℕ)) → latest < second → second < 2 ^ 32 → All (IsPlainBy latest) names → is_among (again_name first second) names ≡ false
none_again latest second first names less small plain =
    list_any_none (bytes_eq (again_name first second)) names
    (All-weaker (IsPlainBy latest) (λ name. bytes_eq (again_name first second) name ≡ false) (λ name is. other_name latest second first name less small is) names plain)

-- ---- a job behind a trace that is full
-- no job was submitted in a second behind all
no_second : (submits : List ℕ) (number latest second : ℕ) (found : Option ℕ) → slice_get submits number ≡ found → All (λ s. s ≤ latest) submits → latest < second → is_second found second ≡ false
no_second submits number latest second None at past less = refl
no_second submits number latest second (Some one) at past less =
    let is = get_or_from_slice_get submits number one 0 at in
    let low = All-get_or (λ s. s ≤ latest) submits number 0 (slice_get_within submits number one at) past in
    grind (arith, nat_tests, is, low, less)

kept_beyond : (s : Settings) (t : Tally) (line submit : ℕ) (name set : List ℕ) (p : Placing) → nat_le s.most (length t.jobs) ≡ false → nat_le 100000 (length t.jobs) ≡ true
    → kept s t line submit name set p ≡ left_out t line Beyond
kept_beyond s t line submit name set p few full =
    ap (λ b. cond b (left_out t line Outside) (cond (nat_le 100000 (length t.jobs)) (left_out t line Beyond) (taken t line submit name set p))) few
    ∙ ap (λ b. cond b (left_out t line Beyond) (taken t line submit name set p)) full

same_both : {A : Type 0} (b : Bool) (x y : A) → x ≡ y → cond b x y ≡ y
same_both true x y is = is
same_both false x y is = refl

again_beyond : (s : Settings) (t : Tally) (line submit : ℕ) (name set : List ℕ) (p : Placing) → nat_le s.most (length t.jobs) ≡ false → nat_le 100000 (length t.jobs) ≡ true
    → is_among name (job_names t.jobs) ≡ false → again s t line submit name set p ≡ left_out t line Beyond
again_beyond s t line submit name set p few full none =
    same_both (is_name name) (cond (is_among name (job_names t.jobs)) (left_out t line Repeated) (kept s t line submit name set p)) (left_out t line Beyond)
    (ap (λ b. cond b (left_out t line Repeated) (kept s t line submit name set p)) none ∙ kept_beyond s t line submit name set p few full)

named_beyond : (s : Settings) (t : Tally) (n : Notes) (line submit : ℕ) (name set : List ℕ) (p : Placing) (number : Option ℕ)
    → nat_le s.most (length t.jobs) ≡ false → nat_le 100000 (length t.jobs) ≡ true
    → n.plain ≡ true → n.latest < submit → submit < 2 ^ 32 → AreNoted n t.submits (job_names t.jobs)
    → named s t line submit name set p number ≡ left_out t line Beyond
named_beyond s t n line submit name set p None few full plain less small noted = kept_beyond s t line submit name set p few full
named_beyond s t n line submit name set p (Some number) few full plain less small noted =
    let name_then = again_name name submit in
    ap (λ b. cond b (left_out t line Repeated) (again s t line submit name_then set p))
    (no_second t.submits number n.latest submit (slice_get t.submits number) refl noted.past less)
    ∙ again_beyond s t line submit name_then set p few full (none_again n.latest submit name (job_names t.jobs) less small (noted.plain plain))

-- the trace is full then
chosen : (a b c : Bool) → (a && b) ≡ true → (c || a) ≡ true
chosen true b true is = refl
chosen true b false is = refl
chosen false b c is = absurd (true≢false (sym is))

pub beyond-full : (s : Settings) (t : Tally) → is_beyond s t ≡ true → is_full s t ≡ true
beyond-full s t is = chosen (nat_le 100000 (length t.jobs)) (nat_lt (length t.jobs) s.most) (nat_le s.most (length t.jobs)) is

-- and a job with a place that was submitted behind all that are taken is left out as one more than a trace takes, whatever its name is
pub no_room : (s : Settings) (t : Tally) (n : Notes) (line submit : ℕ) (name set : List ℕ) (p : Placing) (number : Option ℕ)
    → is_beyond s t ≡ true → (n.plain && nat_lt n.latest submit) ≡ true → submit < 2 ^ 32 → AreNoted n t.submits (job_names t.jobs)
    → named s t line submit name set p number ≡ left_out t line Beyond
no_room s t n line submit name set p number beyond before small noted =
    let wanted = both (nat_le 100000 (length t.jobs)) (nat_lt (length t.jobs) s.most) beyond in
    let full = wanted.0 in
    let few : nat_le s.most (length t.jobs) ≡ false = let less = wanted.1 in grind (arith, nat_tests, less) in
    let parts = both n.plain (nat_lt n.latest submit) before in
    let less : n.latest < submit = let test = parts.1 in grind (arith, nat_tests, test) in
    named_beyond s t n line submit name set p number few full parts.0 less small noted

-- The book, one answer after another.
use Rattle.std.proofs.Common.{◌≡◌, ℕ, ◌+◌, ◌<◌, ◌≤◌, Bool, true, false, cond, List, [], ◌∷◌, ◌++◌, length, map, take, drop, Contains, Option, Some, None, refl, sym, ap, ◌∙◌, subst, arith, All, AllPairs, get_or}
use Rattle.std.specs.List.{filter}
use Rattle.std.proofs.lemmas.List.{append-nil, append_assoc, get_or-map, length-map, map-append, take_more}
use Rattle.std.proofs.lemmas.List.Elements.{All-nil, All-same, filter-append}
use Rattle.std.proofs.lemmas.List.Sums.{fold_push}
use Rattle.tetri_base.specs.Lists.{has, Each}
use Rattle.tetri_base.proofs.ListLaws.{Each-append, Each-map}
use Rattle.tetri_strl.specs.declared.grants.Grant.{Grant}
use Rattle.tetri_strl.specs.WellMade.{depth}
use Rattle.tetri_space.specs.declared.instance.Offer.{Offer}
use Rattle.tetri_space.specs.Lawful.{IsLawful, IsLawfulGrant}
use Rattle.tetri_space.specs.Sound.{IsSound}
use Rattle.tetri_space.specs.Space.{Bid, Space, bid}
use Rattle.tetri_space.specs.Total.{total_in}
use Rattle.tetri_space.specs.Trimmed.{IsThriftyForAll}
use Rattle.tetri_space.proofs.InstanceLaws.{each_of, later_jobs, next_bid}
use Rattle.tetri_split.specs.Restricted.{restricted}
use Rattle.tetri_plan.specs.declared.planning.Plan.{Plan}
use Rattle.tetri_reserve.specs.Answers.{EachAnswer, IsAnswer, IsAnswered, booked, carried, carried_on, grants_of, is_booked}
use Rattle.tetri_reserve.specs.Book.{IsBook, IsShallow, kept_on}
use Rattle.tetri_reserve.specs.Meaning.{IsTrueAnswer}
use Rattle.tetri_reserve.specs.Wanted.{wanted, with_bid}
use Rattle.tetri_reserve.specs.declared.answer.Answer.{Answer}
use Rattle.tetri_reserve.specs.declared.answer.AnswerKind.{AnswerKind}
use Rattle.tetri_reserve.proofs.MeaningLemmas.{is_true}
use Rattle.tetri_reserve.proofs.WantedLemmas.{lawful_more, none_kept, shallow_more, sound_more, thrifty_more, total_le, wanted_more, wanted_none}

-- ---- lists of answers
module _ (P : List Answer → Bid → Answer → Type 0) where
  one_more_answer : (earlier : List Answer) (bs : List Bid) (answers : List Answer) (b : Bid) (a : Answer) →
      EachAnswer P earlier bs answers → P (earlier ++ answers) b a → EachAnswer P earlier (bs ++ b ∷ []) (answers ++ a ∷ [])
  one_more_answer earlier [] [] b a h k = (subst (λ e. P e b a) (append-nil earlier) k, tt)
  one_more_answer earlier [] (x ∷ answers) b a h k = absurd h
  one_more_answer earlier (c ∷ bs) [] b a h k = absurd h
  one_more_answer earlier (c ∷ bs) (x ∷ answers) b a h k = (
    h.0,
    one_more_answer (earlier ++ x ∷ []) bs answers b a h.1 (subst (λ e. P e b a) (sym (append_assoc earlier (x ∷ []) answers)) k),
  )

-- the job of an answer, where it books it
abbrev job_if : Bool → ℕ → List ℕ
job_if t job = cond t (job ∷ []) []

booked_more : (answers : List Answer) (a : Answer) → booked (answers ++ a ∷ []) ≡ booked answers ++ job_if (is_booked a.kind) a.job
booked_more answers a =
    ap (map (λ (x : Answer). x.job)) (filter-append (λ (x : Answer). is_booked x.kind) answers (a ∷ []))
    ∙ map-append (λ (x : Answer). x.job) (filter (λ (x : Answer). is_booked x.kind) answers) (filter (λ (x : Answer). is_booked x.kind) (a ∷ []))
    ∙ ap (λ ns. booked answers ++ ns) (by_test (is_booked a.kind))
  where
    by_test : (t : Bool) → map (λ (x : Answer). x.job) (cond t (a ∷ []) []) ≡ job_if t a.job
    by_test true = refl
    by_test false = refl

-- what books a job
record Books (s : Space) (levels : ℕ) (plan : Option Plan) : Type 0 where
  shallow : levels < 64
  lawful : IsLawful s (grants_of plan)
  thrifty : IsThriftyForAll s (grants_of plan)

books : (s : Space) (levels : ℕ) (carry : List Grant) (budget : ℕ) (kind : AnswerKind) (plan : Option Plan) →
    IsAnswered s levels carry budget kind plan → is_booked kind ≡ true → Books s levels plan
books s levels carry budget kind None h e = let deep = ap is_booked h.1 in absurd cc
books s levels carry budget kind (Some p) h e = record { shallow = h.0; lawful = h.1.good.honest.lawful; thrifty = h.1.good.honest.thrifty }

-- ---- the book
-- the bid at this place, between the earlier ones and those of later jobs
pub record IsNext (s : Space) (i : ℕ) (b : Bid) : Type 0 where
  pub front : take (i + 1) s.bids ≡ take i s.bids ++ b ∷ []
  pub rest : drop i s.bids ≡ b ∷ drop (i + 1) s.bids
  pub pending : Contains s.bids b
  pub later : Each (λ (c : Bid). b.job < c.job) (drop (i + 1) s.bids)

pub next_offer : (s : Space) (os : List Offer) (i : ℕ) (o : Offer) → IsSound s → s.bids ≡ map bid os → i < length os → o ≡ get_or os i o → IsNext s i (bid o)
next_offer s os i o sound are lt is =
    let within : i < length (map bid os) = omega (arith, length-map os bid) in
    let here : get_or (map bid os) i (bid o) ≡ bid o = get_or-map bid os i o (bid o) lt ∙ ap bid (sym is) in
    let up = subst (AllPairs (λ (b c : Bid). b.job < c.job)) are sound.ascending in
    record {
      front = ap (take (i + 1)) are ∙ take_more (map bid os) i (bid o) within ∙ ap (λ b. take i (map bid os) ++ b ∷ []) here ∙ sym (ap (λ bs. take i bs ++ bid o ∷ []) are);
      rest = ap (drop i) are ∙ next_bid os i o lt is ∙ sym (ap (λ bs. bid o ∷ drop (i + 1) bs) are);
      pending = subst (λ bs. Contains bs (bid o)) (sym are) (i, within, here);
      later = each_of (λ (c : Bid). o.job < c.job) (drop (i + 1) s.bids) (subst (λ bs. All (λ (c : Bid). o.job < c.job) (drop (i + 1) bs)) (sym are) (later_jobs os i o up lt is));
    }

pub job_pending : (bs : List Bid) (b : Bid) → Contains bs b → Contains (map (λ (c : Bid). c.job) bs) b.job
job_pending bs b at = (
  at.0,
  omega (arith, at.1, length-map bs (λ (c : Bid). c.job)),
  get_or-map (λ (c : Bid). c.job) bs at.0 b b.job at.1 ∙ ap (λ (c : Bid). c.job) at.2,
)

pub first_book : (s : Space) (budget : ℕ) (w : Space) (carry : List Grant) → w ≡ record s { bids = [] } → carry ≡ [] → IsBook s budget 0 [] w carry
first_book s budget w carry w_is carry_is = record {
  jobs = [];
  jobs_are = refl;
  wanted_is = w_is ∙ sym (wanted_none s);
  carry_is = carry_is;
  answered = tt;
  meaning = tt;
  later = tt;
  shallow = All-same IsShallow _ _ (none_kept s.bids) (All-nil IsShallow);
  lawful = subst (IsLawful (wanted s [])) (sym carry_is) (record { grants = All-nil (IsLawfulGrant (wanted s [])); apart = λ j k d lt within. absurd (omega (arith, within)) });
  thrifty = subst (λ (v : Space). IsThriftyForAll v carry) (sym (wanted_none s)) (All-nil _);
}

module _ (s : Space) (budget i : ℕ) (answers : List Answer) (w : Space) (carry : List Grant) (b : Bid) (sound : IsSound s) (next : IsNext s i b)
    (is : IsBook s budget i answers w carry) where
  below : Each (λ n. n < b.job) is.jobs
  below = Each-map (λ n. Each (λ (c : Bid). n < c.job) (drop i s.bids)) (λ n. n < b.job) (λ n h. (subst (Each (λ (c : Bid). n < c.job)) next.rest h).0) is.jobs is.later

  still_later : Each (λ n. Each (λ (c : Bid). n < c.job) (drop (i + 1) s.bids)) is.jobs
  still_later =
      Each-map (λ n. Each (λ (c : Bid). n < c.job) (drop i s.bids)) (λ n. Each (λ (c : Bid). n < c.job) (drop (i + 1) s.bids))
      (λ n h. (subst (Each (λ (c : Bid). n < c.job)) next.rest h).1) is.jobs is.later

  abbrev asked : List ℕ
  asked = is.jobs ++ b.job ∷ []

  asked_is : with_bid w b ≡ wanted s asked
  asked_is = ap (λ (v : Space). with_bid v b) is.wanted_is ∙ wanted_more s is.jobs b below sound next.pending

  -- what is asked of a plan
  pub asks_sound : depth b.expr < 64 → IsSound (with_bid w b)
  asks_sound here = subst IsSound (sym asked_is) (sound_more s is.jobs b below sound next.pending is.shallow here)

  pub asks_lawful : IsLawful (with_bid w b) carry
  asks_lawful = subst (λ (v : Space). IsLawful v carry) (sym asked_is) (lawful_more s is.jobs b below carry is.lawful)

  pub asks_thrifty : IsThriftyForAll (with_bid w b) carry
  asks_thrifty = subst (λ (v : Space). IsThriftyForAll v carry) (sym asked_is) (thrifty_more s is.jobs b below sound next.pending carry is.lawful is.thrifty)

  pub asks_few : (a : List Grant) → total_in (with_bid w b) a ≤ length (with_bid w b).bids
  asks_few a = subst (λ (v : Space). total_in v a ≤ length v.bids) (sym asked_is) (total_le (restricted (has asked) s) a)

  module _ (a : Answer) (v : Space) (held : List Grant) (job : a.job ≡ b.job) (answered : IsAnswered (with_bid w b) (depth b.expr) carry budget a.kind a.plan)
      (v_is : v ≡ kept_on w b a) (held_is : held ≡ carried_on carry a) where
    pub is_answer : IsAnswer s budget answers b a
    is_answer = record {
      job = job;
      answered =
          subst (λ (g : List Grant). IsAnswered (wanted s (booked answers ++ b.job ∷ [])) (depth b.expr) g budget a.kind a.plan) is.carry_is
          (subst (λ (x : Space). IsAnswered x (depth b.expr) carry budget a.kind a.plan) (asked_is ∙ ap (λ ns. wanted s (ns ++ b.job ∷ [])) is.jobs_are) answered);
    }

    all_answered : EachAnswer (IsAnswer s budget) [] (take (i + 1) s.bids) (answers ++ a ∷ [])
    all_answered =
        subst (λ bs. EachAnswer (IsAnswer s budget) [] bs (answers ++ a ∷ [])) (sym next.front)
        (one_more_answer (IsAnswer s budget) [] (take i s.bids) answers b a is.answered is_answer)

    all_true : EachAnswer (IsTrueAnswer s budget) [] (take (i + 1) s.bids) (answers ++ a ∷ [])
    all_true =
        subst (λ bs. EachAnswer (IsTrueAnswer s budget) [] bs (answers ++ a ∷ [])) (sym next.front)
        (one_more_answer (IsTrueAnswer s budget) [] (take i s.bids) answers b a is.meaning (is_true s budget answers b a is_answer))

    carried_is : held ≡ carried (answers ++ a ∷ [])
    carried_is = held_is ∙ ap (λ (g : List Grant). carried_on g a) is.carry_is ∙ sym (fold_push carried_on [] answers a)

    if_booked : is_booked a.kind ≡ true → IsBook s budget (i + 1) (answers ++ a ∷ []) v held
    if_booked e =
        let plan = books (with_bid w b) (depth b.expr) carry budget a.kind a.plan answered e in
        let grants : held ≡ grants_of a.plan = held_is ∙ ap (λ t. cond t (grants_of a.plan) carry) e in
        record {
          jobs = asked;
          jobs_are = ap (λ ns. ns ++ b.job ∷ []) is.jobs_are ∙ sym (booked_more answers a ∙ ap (λ t. booked answers ++ job_if t a.job) e ∙ ap (λ n. booked answers ++ n ∷ []) job);
          wanted_is = v_is ∙ ap {B = Space} (λ t. cond t (with_bid w b) w) e ∙ asked_is;
          carry_is = carried_is;
          answered = all_answered;
          meaning = all_true;
          later = Each-append (λ n. Each (λ (c : Bid). n < c.job) (drop (i + 1) s.bids)) is.jobs (b.job ∷ []) still_later (next.later, tt);
          shallow = shallow_more s is.jobs b below sound next.pending is.shallow plan.shallow;
          lawful = subst (IsLawful (wanted s asked)) (sym grants) (subst (λ (x : Space). IsLawful x (grants_of a.plan)) asked_is plan.lawful);
          thrifty = subst (IsThriftyForAll (wanted s asked)) (sym grants) (subst (λ (x : Space). IsThriftyForAll x (grants_of a.plan)) asked_is plan.thrifty);
        }

    if_not : is_booked a.kind ≡ false → IsBook s budget (i + 1) (answers ++ a ∷ []) v held
    if_not e =
        let grants : held ≡ carry = held_is ∙ ap (λ t. cond t (grants_of a.plan) carry) e in
        record {
          jobs = is.jobs;
          jobs_are = is.jobs_are ∙ sym (booked_more answers a ∙ ap (λ t. booked answers ++ job_if t a.job) e ∙ append-nil (booked answers));
          wanted_is = v_is ∙ ap {B = Space} (λ t. cond t (with_bid w b) w) e ∙ is.wanted_is;
          carry_is = carried_is;
          answered = all_answered;
          meaning = all_true;
          later = still_later;
          shallow = is.shallow;
          lawful = subst (IsLawful (wanted s is.jobs)) (sym grants) is.lawful;
          thrifty = subst (IsThriftyForAll (wanted s is.jobs)) (sym grants) is.thrifty;
        }

    pub next_book : IsBook s budget (i + 1) (answers ++ a ∷ []) v held
    next_book = by_test (is_booked a.kind) refl
      where
        by_test : (t : Bool) → is_booked a.kind ≡ t → IsBook s budget (i + 1) (answers ++ a ∷ []) v held
        by_test true e = if_booked e
        by_test false e = if_not e

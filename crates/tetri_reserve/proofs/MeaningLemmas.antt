-- Answers are true.
use Rattle.std.proofs.Common.{◌≡◌, ℕ, ◌<◌, ◌≤◌, List, [], ◌∷◌, ◌++◌, length, get_or, Option, Some, None, sym, subst, arith, All}
use Rattle.std.specs.Option.{IsSomeAnd}
use Rattle.std.proofs.lemmas.List.{length-map}
use Rattle.std.proofs.lemmas.List.Elements.{All-nil, filter_passes}
use Rattle.tetri_base.specs.Lists.{has}
use Rattle.tetri_strl.specs.declared.grants.Grant.{Grant}
use Rattle.tetri_space.specs.Lawful.{IsLawful, IsLawfulGrant}
use Rattle.tetri_space.specs.Space.{Bid, Space}
use Rattle.tetri_space.specs.Total.{bid_worth}
use Rattle.tetri_space.proofs.InstanceLaws.{all_of, each_of}
use Rattle.tetri_split.specs.Restricted.{grants_to, restricted}
use Rattle.tetri_split.proofs.SplitLaws.{bid_worth-kept, lawful-kept}
use Rattle.tetri_plan.specs.declared.planning.Plan.{Plan}
use Rattle.tetri_reserve.specs.Answers.{EachAnswer, IsAnswer, IsAnswered, IsShort, Says, grants_of}
use Rattle.tetri_reserve.specs.Laws.{AnswersAreTrue}
use Rattle.tetri_reserve.specs.Meaning.{IsTrueAnswer}
use Rattle.tetri_reserve.specs.Wanted.{AreServed, wanted, wanted_bid}
use Rattle.tetri_reserve.specs.declared.answer.Answer.{Answer}
use Rattle.tetri_reserve.specs.declared.answer.AnswerKind.{AnswerKind}
use Rattle.tetri_reserve.specs.declared.answer.AnswerKind.TheVariants.{Admitted, Refused, Undecided}
use Rattle.tetri_reserve.proofs.WantedLemmas.{all_served, lawful_there, lawful_wanted_whole, served_all, total_wanted}

-- ---- facts of each answer
module _ (P Q : List Answer → Bid → Answer → Type 0) (f : (earlier : List Answer) (b : Bid) (a : Answer) → P earlier b a → Q earlier b a) where
  each_answer : (earlier : List Answer) (bs : List Bid) (answers : List Answer) → EachAnswer P earlier bs answers → EachAnswer Q earlier bs answers
  each_answer earlier [] [] h = tt
  each_answer earlier [] (a ∷ answers) h = h
  each_answer earlier (b ∷ bs) [] h = h
  each_answer earlier (b ∷ bs) (a ∷ answers) h = (f earlier b a h.0, each_answer (earlier ++ a ∷ []) bs answers h.1)

-- ---- what the answer about wanted jobs means
module _ (s : Space) (jobs : List ℕ) (levels budget : ℕ) (carry : List Grant) where
  abbrev part : Space
  part = restricted (has jobs) s

  abbrev Answered : AnswerKind → Option Plan → Type 0
  Answered kind plan = IsAnswered (wanted s jobs) levels carry budget kind plan

  abbrev says : (p : Plan) (kind other : AnswerKind) → kind ≡ other → Says (length (wanted s jobs).bids) p kind → Says (length (wanted s jobs).bids) p other
  says p kind other e h = subst (Says (length (wanted s jobs).bids) p) e h

  lawful : (kind : AnswerKind) (plan : Option Plan) → Answered kind plan → IsLawful s (grants_of plan)
  lawful kind None h = record { grants = All-nil (IsLawfulGrant s); apart = λ j k d lt within. absurd (omega (arith, within)) }
  lawful kind (Some p) h = lawful_wanted_whole s jobs p.grants h.1.good.honest.lawful

  admitted : (kind : AnswerKind) (plan : Option Plan) → Answered kind plan → kind ≡ Admitted → AreServed s jobs (grants_of plan)
  admitted kind None h e = let deep = h.1 in absurd cc
  admitted kind (Some p) h e =
      let value : p.value ≡ length (wanted s jobs).bids = says p kind Admitted e h.2 in
      let good = h.1.good.honest in
      all_of (λ b. 1 ≤ bid_worth p.grants b) part.bids
      (all_served p.grants part.bids (omega (arith, value, good.attained, total_wanted part p.grants, length-map part.bids wanted_bid)))

  refused : (kind : AnswerKind) (plan : Option Plan) → Answered kind plan → kind ≡ Refused → (g : List Grant) → IsLawful s g → AreServed s jobs g → ⊥
  refused kind None h e g lawful served = let deep = h.1 in absurd cc
  refused kind (Some p) h e g lawful served =
      let bound : p.bound < length (wanted s jobs).bids = says p kind Refused e h.2 in
      let own = grants_to (has jobs) g in
      let passes = filter_passes (λ (b : Bid). has jobs b.job) s.bids in
      let still : All (λ b. 1 ≤ bid_worth own b) part.bids =
      (λ k d lt. subst (λ n. 1 ≤ n) (sym (bid_worth-kept (has jobs) g (get_or part.bids k d) (passes k d lt))) (served k d lt)) in
      let all = served_all own part.bids (each_of (λ b. 1 ≤ bid_worth own b) part.bids still) in
      let most = h.1.good.bounded own (lawful_there part own (lawful-kept (has jobs) s g lawful)) in
      omega (arith, bound, most, total_wanted part own, all, length-map part.bids wanted_bid)

  undecided : (kind : AnswerKind) (plan : Option Plan) → Answered kind plan → kind ≡ Undecided → IsSomeAnd plan (IsShort (wanted s jobs) budget)
  undecided kind None h e = let deep = h.1 in absurd cc
  undecided kind (Some p) h e = let n = says p kind Undecided e h.2 in h.1.short (omega (arith, n.0, n.1))

pub is_true : (s : Space) (budget : ℕ) (earlier : List Answer) (b : Bid) (a : Answer) → IsAnswer s budget earlier b a → IsTrueAnswer s budget earlier b a
is_true s budget earlier b a h = record {
  lawful = lawful s _ _ budget _ a.kind a.plan h.answered;
  admitted = admitted s _ _ budget _ a.kind a.plan h.answered;
  refused = refused s _ _ budget _ a.kind a.plan h.answered;
  undecided = undecided s _ _ budget _ a.kind a.plan h.answered;
}

pub answers_are_true : AnswersAreTrue
answers_are_true s budget answers h = each_answer (IsAnswer s budget) (IsTrueAnswer s budget) (is_true s budget) [] s.bids answers h

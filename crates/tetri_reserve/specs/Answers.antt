-- What is answered for each job of an instance: whether it can be served together with those that are booked.
use Rattle.std.specs.Prelude.{◌≡◌, ◌⊎◌, ℕ, ◌<◌, ◌≤◌, Bool, true, false, if◌then◌else◌, List, [], ◌∷◌, ◌++◌, map, filter, fold, length, Option, Some, None}
use Rattle.tetri_cert.specs.declared.plan_mark.PlanMark.TheVariants.{Spent, Wide}
use Rattle.tetri_strl.specs.declared.grants.Grant.{Grant}
use Rattle.tetri_strl.specs.WellMade.{depth}
use Rattle.tetri_space.specs.Space.{Bid, Space}
use Rattle.tetri_space.specs.Total.{total_in}
use Rattle.tetri_claims.specs.Good.{IsGood}
use Rattle.tetri_compile.specs.Flat.{column_count, row_count}
use Rattle.tetri_plan.specs.Chosen.{IsChosen, IsEarnedFor}
use Rattle.tetri_plan.specs.Plans.{leaves_open, planned_of}
use Rattle.tetri_plan.specs.declared.planning.Plan.{Plan}
use Rattle.tetri_reserve.specs.Wanted.{wanted}
use Rattle.tetri_reserve.specs.declared.answer.Answer.{Answer}
use Rattle.tetri_reserve.specs.declared.answer.AnswerKind.{AnswerKind}
use Rattle.tetri_reserve.specs.declared.answer.AnswerKind.TheVariants.{Admitted, Refused, Undecided, Deep}

-- ---- the book that answers make
-- the answer books its job
abbrev pub is_booked : AnswerKind → Bool
is_booked Admitted = true
is_booked Refused = false
is_booked Undecided = false
is_booked Deep = false

-- the jobs that answers book, in their order
abbrev pub booked : List Answer → List ℕ
booked answers = map (λ a. a.job) (filter (λ a. is_booked a.kind) answers)

-- the grants of a plan, none where there is no plan
abbrev pub grants_of : Option Plan → List Grant
grants_of None = []
grants_of (Some p) = p.grants

-- the grants of an answer's plan where it books its job, else the earlier ones
abbrev pub carried_on : List Grant → Answer → List Grant
carried_on earlier a = if is_booked a.kind then grants_of a.plan else earlier

-- the grants of the plan that booked the last job, none at first
abbrev pub carried : List Answer → List Grant
carried answers = fold carried_on [] answers

-- ---- an answer
-- what a plan for so many wanted jobs says: all of them can be served, not all of them can, or neither is known
abbrev pub Says : ℕ → Plan → AnswerKind → Type 0
Says n p Admitted = p.value ≡ n
Says n p Refused = p.bound < n
Says n p Undecided = (p.value < n) × (n ≤ p.bound)
Says n p Deep = ⊥

-- the search left a node open when its budget was spent, or the instance's program is too large for a search
abbrev pub IsShort : Space → ℕ → Plan → Type 0
IsShort s budget p = ((p.mark ≡ Spent) × (leaves_open p.certificate ≡ true) × (p.nodes ≡ budget)) ⊎ ((p.mark ≡ Wide) × ((2000 < column_count s) ⊎ (2000 < row_count s)))

-- The plan is good and the chosen one for the wanted jobs, with this carry, nothing given and this budget; its tree is that of a search
-- which knew the worth of the carry; where its value is below its bound it says why; and nobody was heard.
pub record IsPlanOf (s : Space) (carry : List Grant) (budget : ℕ) (p : Plan) : Type 0 where
  pub good : IsGood s (total_in s carry) (planned_of p)
  pub chosen : IsChosen s carry [] budget (planned_of p)
  pub low : p.low ≡ total_in s carry
  pub earned : IsEarnedFor s (total_in s carry) budget p.certificate
  pub short : p.value < p.bound → IsShort s budget p
  pub unheard : p.heard.items ≡ []

-- What is answered about wanted jobs, the last of which has an expression of this depth: `Deep` and no plan exactly where the depth is
-- 64, since the barrier would make it 65; else a plan, and what it says.
abbrev pub IsAnswered : Space → ℕ → List Grant → ℕ → AnswerKind → Option Plan → Type 0
IsAnswered s levels carry budget kind None = (levels ≡ 64) × (kind ≡ Deep)
IsAnswered s levels carry budget kind (Some p) = (levels < 64) × IsPlanOf s carry budget p × Says (length s.bids) p kind

-- the answer for a job behind earlier answers: it is wanted together with the jobs that they book, with the grants carried over of the
-- plan that booked the last of these
pub record IsAnswer (s : Space) (budget : ℕ) (earlier : List Answer) (b : Bid) (a : Answer) : Type 0 where
  pub job : a.job ≡ b.job
  pub answered : IsAnswered (wanted s (booked earlier ++ b.job ∷ [])) (depth b.expr) (carried earlier) budget a.kind a.plan

-- ---- all answers
-- one answer for each of these jobs, in order, and a fact of each beside the answers before it
module _ (P : List Answer → Bid → Answer → Type 0) where
  abbrev pub EachAnswer : List Answer → List Bid → List Answer → Type 0
  EachAnswer earlier [] [] = Unit {0}
  EachAnswer earlier [] (a ∷ answers) = ⊥
  EachAnswer earlier (b ∷ bs) [] = ⊥
  EachAnswer earlier (b ∷ bs) (a ∷ answers) = P earlier b a × EachAnswer (earlier ++ a ∷ []) bs answers

-- the answers of an instance, one for each of its jobs in order
abbrev pub AreAnswers : Space → ℕ → List Answer → Type 0
AreAnswers s budget answers = EachAnswer (IsAnswer s budget) [] s.bids answers

-- What answers mean for the instance itself.
use Rattle.std.specs.Prelude.{◌≡◌, ◌++◌, [], ◌∷◌, ℕ, List, IsSomeAnd}
use Rattle.tetri_strl.specs.declared.grants.Grant.{Grant}
use Rattle.tetri_space.specs.Lawful.{IsLawful}
use Rattle.tetri_space.specs.Space.{Bid, Space}
use Rattle.tetri_reserve.specs.Answers.{EachAnswer, IsShort, booked, grants_of}
use Rattle.tetri_reserve.specs.Wanted.{AreServed, wanted}
use Rattle.tetri_reserve.specs.declared.answer.Answer.{Answer}
use Rattle.tetri_reserve.specs.declared.answer.AnswerKind.TheVariants.{Admitted, Refused, Undecided}

-- The plan's grants are lawful in the instance. Where the job is admitted, each booked job and this one are worth something by them. Where
-- it is refused, no lawful allotment makes each of these worth something. Where neither is known, the search's budget was spent with
-- a node left open, or the program of the wanted jobs is too large for a search.
pub record IsTrueAnswer (s : Space) (budget : ℕ) (earlier : List Answer) (b : Bid) (a : Answer) : Type 0 where
  pub lawful : IsLawful s (grants_of a.plan)
  pub admitted : a.kind ≡ Admitted → AreServed s (booked earlier ++ b.job ∷ []) (grants_of a.plan)
  pub refused : a.kind ≡ Refused → (g : List Grant) → IsLawful s g → AreServed s (booked earlier ++ b.job ∷ []) g → ⊥
  pub undecided : a.kind ≡ Undecided → IsSomeAnd a.plan (IsShort (wanted s (booked earlier ++ b.job ∷ [])) budget)

-- all answers are true
abbrev pub AreTrue : Space → ℕ → List Answer → Type 0
AreTrue s budget answers = EachAnswer (IsTrueAnswer s budget) [] s.bids answers

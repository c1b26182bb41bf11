-- What holds of wanted jobs and of answers.
use Rattle.std.specs.Prelude.{◌≡◌, ℕ, List, nat_le}
use Rattle.tetri_base.specs.Lists.{count, has}
use Rattle.tetri_strl.specs.declared.grants.Grant.{Grant}
use Rattle.tetri_space.specs.Space.{Space}
use Rattle.tetri_space.specs.Total.{bid_worth, total_in}
use Rattle.tetri_split.specs.Restricted.{restricted}
use Rattle.tetri_reserve.specs.Answers.{AreAnswers}
use Rattle.tetri_reserve.specs.Meaning.{AreTrue}
use Rattle.tetri_reserve.specs.Wanted.{wanted}
use Rattle.tetri_reserve.specs.declared.answer.Answer.{Answer}

-- what an allotment is worth where jobs are wanted is how many of them it makes worth something
abbrev pub TotalsCountWantedJobs : Type 0
TotalsCountWantedJobs = (s : Space) (jobs : List ℕ) (a : List Grant) → total_in (wanted s jobs) a ≡ count (λ b. nat_le 1 (bid_worth a b)) (restricted (has jobs) s).bids

-- the answers of an instance are true, whoever gives them
abbrev pub AnswersAreTrue : Type 0
AnswersAreTrue = (s : Space) (budget : ℕ) (answers : List Answer) → AreAnswers s budget answers → AreTrue s budget answers

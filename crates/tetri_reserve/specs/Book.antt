-- Booked jobs as an instance, one more, and the book behind some answers.
use Rattle.std.specs.Prelude.{◌≡◌, ◌<◌, ℕ, if◌then◌else◌, List, [], take, drop, All}
use Rattle.tetri_base.specs.Lists.{has, Each}
use Rattle.tetri_strl.specs.declared.grants.Grant.{Grant}
use Rattle.tetri_strl.specs.WellMade.{depth}
use Rattle.tetri_space.specs.Lawful.{IsLawful}
use Rattle.tetri_space.specs.Space.{Bid, Space}
use Rattle.tetri_space.specs.Trimmed.{IsThriftyForAll}
use Rattle.tetri_split.specs.Restricted.{restricted}
use Rattle.tetri_reserve.specs.Answers.{EachAnswer, IsAnswer, booked, carried, is_booked}
use Rattle.tetri_reserve.specs.Meaning.{IsTrueAnswer}
use Rattle.tetri_reserve.specs.Wanted.{wanted, with_bid}
use Rattle.tetri_reserve.specs.declared.answer.Answer.{Answer}

-- the wanted jobs behind the answer for this one
abbrev pub kept_on : Space → Bid → Answer → Space
kept_on s b a = if is_booked a.kind then with_bid s b else s

-- the expression is less than 64 deep, so that a barrier can stand around it
abbrev pub IsShallow : Bid → Type 0
IsShallow b = depth b.expr < 64

-- What the book is behind the answers for the first jobs of an instance, so many of them: it wants the booked jobs, each of an earlier
-- job than those that have no answer yet, and carries the grants that serve them. The answers are true.
pub record IsBook (s : Space) (budget i : ℕ) (answers : List Answer) (w : Space) (carry : List Grant) : Type 0 where
  pub jobs : List ℕ
  pub jobs_are : jobs ≡ booked answers
  pub wanted_is : w ≡ wanted s jobs
  pub carry_is : carry ≡ carried answers
  pub answered : EachAnswer (IsAnswer s budget) [] (take i s.bids) answers
  pub meaning : EachAnswer (IsTrueAnswer s budget) [] (take i s.bids) answers
  pub later : Each (λ n. Each (λ (b : Bid). n < b.job) (drop i s.bids)) jobs
  pub shallow : All IsShallow (restricted (has jobs) s).bids
  pub lawful : IsLawful (wanted s jobs) carry
  pub thrifty : IsThriftyForAll (wanted s jobs) carry

-- the book stands behind some answers for the first jobs, so many of them
abbrev pub IsBookAt : Space → ℕ → ℕ → Space → List Grant → Type 0
IsBookAt s budget i w carry = (answers : List Answer) × IsBook s budget i answers w carry

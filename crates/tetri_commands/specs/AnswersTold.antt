-- What was written of the answers for the jobs of a trace's first slot.
use Rattle.std.specs.Prelude.{◌≡◌, ℕ, List, Option, length}
use Rattle.std.specs.Io.KnownBytes.{append_known}
use Rattle.tetri_cycles.specs.Texts.{StoppedBehind, StoppedInNext}
use Rattle.tetri_reserve.specs.Answers.{booked}
use Rattle.tetri_reserve.specs.declared.answer.Answer.{Answer}
use Rattle.tetri_trace.specs.Scenario.{Scenario}
use Rattle.tetri_commands.specs.Answered.{AreFirstAnswers, AreTraceAnswers, NextAnswersText, first_instance, whole_text}
use Rattle.tetri_commands.specs.AnswerText.{answers_text}

-- All answers were written, which book so many jobs.
pub record WroteAll (t : Scenario) (count : ℕ) (before now : Option (List ℕ)) : Type 0 where
  pub answers : List Answer
  pub are : AreTraceAnswers t answers
  pub counted : count ≡ length (booked answers)
  pub written : now ≡ append_known before (answers_text t (first_instance t) answers)

-- All answers and their count were written.
pub record WroteAnswers (t : Scenario) (before now : Option (List ℕ)) : Type 0 where
  pub answers : List Answer
  pub are : AreTraceAnswers t answers
  pub written : now ≡ append_known before (whole_text t answers)

-- some first answers, and their texts
pub record AreAnswersTold (t : Scenario) (past : List Answer) (text : List ℕ) : Type 0 where
  pub are : AreFirstAnswers t past
  pub told : text ≡ answers_text t (first_instance t) past

-- the writing stopped behind the texts of some first answers, in the next text
abbrev pub StoppedInAnswersText : Scenario → Option (List ℕ) → Option (List ℕ) → Type 0
StoppedInAnswersText t = StoppedInNext (List Answer) (AreAnswersTold t) (NextAnswersText t)

-- the writing stopped between two texts
abbrev pub StoppedBetweenAnswers : Scenario → Option (List ℕ) → Option (List ℕ) → Type 0
StoppedBetweenAnswers t = StoppedBehind (List Answer) (AreAnswersTold t)

-- The answers for the jobs of a trace's first slot.
use Rattle.std.specs.Prelude.{◌≡◌, ℕ, List, [], ◌∷◌, ◌++◌, length, take}
use Rattle.tetri_reserve.specs.Answers.{AreAnswers, EachAnswer, IsAnswer}
use Rattle.tetri_reserve.specs.Meaning.{AreTrue, IsTrueAnswer}
use Rattle.tetri_reserve.specs.declared.answer.Answer.{Answer}
use Rattle.tetri_space.specs.Space.{Space}
use Rattle.tetri_state.specs.Planning.{instance_at}
use Rattle.tetri_state.specs.Snapshot.{opening_state}
use Rattle.tetri_trace.specs.Scenario.{Scenario}
use Rattle.tetri_commands.specs.AnswerText.{answer_text, answers_text, count_text}

-- what slot 0 of the trace plans for, once it has begun
abbrev pub first_instance : Scenario → Space
first_instance t = instance_at t (opening_state t)

-- One answer for each job of the instance of slot 0, in order, made with the trace's budget: whether the job can be served together with
-- those booked before it. Each is true.
pub record AreTraceAnswers (t : Scenario) (answers : List Answer) : Type 0 where
  pub answered : AreAnswers (first_instance t) t.header.budget answers
  pub meaning : AreTrue (first_instance t) t.header.budget answers

-- The first of these answers: one for each of as many first jobs, in order.
pub record AreFirstAnswers (t : Scenario) (answers : List Answer) : Type 0 where
  pub answered : EachAnswer (IsAnswer (first_instance t) t.header.budget) [] (take (length answers) (first_instance t).bids) answers
  pub meaning : EachAnswer (IsTrueAnswer (first_instance t) t.header.budget) [] (take (length answers) (first_instance t).bids) answers

-- all lines
abbrev pub whole_text : Scenario → List Answer → List ℕ
whole_text t answers = answers_text t (first_instance t) answers ++ count_text answers

-- The text that comes next behind those of some first answers: that of the answer for the next job, or the last line behind all.
pub data NextAnswersText (t : Scenario) (past : List Answer) : List ℕ → Type 0 where
  answer : (a : Answer) → AreFirstAnswers t (past ++ a ∷ []) → NextAnswersText t past (answer_text t (first_instance t) a)
  count : length past ≡ length (first_instance t).bids → NextAnswersText t past (count_text past)

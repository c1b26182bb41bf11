-- The lines of answers.
use Rattle.std.specs.Prelude.{ℕ, List, [], ◌++◌, flat_map, length, map, Option, Some, None, codes, decimal}
use Rattle.tetri_plan.specs.declared.planning.Plan.{Plan}
use Rattle.tetri_report.specs.Text.{job_line, plan_text}
use Rattle.tetri_reserve.specs.Answers.{booked}
use Rattle.tetri_reserve.specs.declared.answer.Answer.{Answer}
use Rattle.tetri_reserve.specs.declared.answer.AnswerKind.{AnswerKind}
use Rattle.tetri_reserve.specs.declared.answer.AnswerKind.TheVariants.{Admitted, Refused, Undecided, Deep}
use Rattle.tetri_space.specs.Space.{Space}
use Rattle.tetri_state.specs.Launch.{start_of}
use Rattle.tetri_trace.specs.Scenario.{Scenario}

-- the word of each kind of answer
abbrev pub word_of : AnswerKind → List ℕ
word_of Admitted = codes "admitted"
word_of Refused = codes "refused"
word_of Undecided = codes "undecided"
word_of Deep = codes "deep"

-- how many jobs are booked, of how many
unfoldable pub booked_line : ℕ → ℕ → List ℕ
booked_line count jobs = codes "booked " ++ decimal count ++ codes " of " ++ decimal jobs ++ codes "\n"

-- The lines of the answers for the jobs of an instance.
module _ (t : Scenario) (i : Space) where
  -- the lines of a plan, whose grants have the starts of their leaves; none without a plan
  abbrev pub shown_text : Option Plan → List ℕ
  shown_text None = []
  shown_text (Some p) = plan_text t p.value p.bound p.mark p.nodes p.grants (map (start_of i) p.grants) p.certificate

  -- what is answered for a job, and the plan that shows it
  abbrev pub answer_text : Answer → List ℕ
  answer_text a = job_line t (word_of a.kind) a.job ++ shown_text a.plan

  abbrev pub answers_text : List Answer → List ℕ
  answers_text answers = flat_map answer_text answers

-- the last line, of all answers
abbrev pub count_text : List Answer → List ℕ
count_text answers = booked_line (length (booked answers)) (length answers)

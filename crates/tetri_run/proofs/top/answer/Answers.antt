use Rattle.tetri_run.proofs.top.answer.Goals as goal

pub returns-in-Plan-clause-answers : goal.returns-in-Plan-clause-answers
returns-in-Plan-clause-answers g c = rw c.in-Plan.is c.run_plan.ensures.advised

pub returns-in-Plan-clause-complete : goal.returns-in-Plan-clause-complete
returns-in-Plan-clause-complete g c = rw c.in-Plan.is (λ reads content t told is writes. c.run_plan.ensures.complete content t told is reads writes)

pub returns-in-Check-clause-answers : goal.returns-in-Check-clause-answers
returns-in-Check-clause-answers g c =
    rw c.in-Check.is (record { found = c.run_check.ensures.check; silent = c.run_check.ensures.silent; bad_trace = c.run_check.ensures.bad_trace })

pub returns-in-Check-clause-complete : goal.returns-in-Check-clause-complete
returns-in-Check-clause-complete g c = rw c.in-Check.is (λ reads. record {
  accepts = λ content lines t told is told_lines accepted writes. c.run_check.ensures.accepts content lines t told is told_lines accepted reads writes;
  rejects = λ content lines t told is told_lines not. c.run_check.ensures.rejects content lines t told is told_lines not reads;
})

pub returns-in-Load-clause-answers : goal.returns-in-Load-clause-answers
returns-in-Load-clause-answers g c = rw c.in-Load.is c.run_load.ensures.promise

pub returns-in-Load-clause-complete : goal.returns-in-Load-clause-complete
returns-in-Load-clause-complete g c = rw c.in-Load.is (λ reads. c.run_load.ensures.complete)

pub returns-in-Parts-clause-answers : goal.returns-in-Parts-clause-answers
returns-in-Parts-clause-answers g c = rw c.in-Parts.is c.run_parts.ensures.promise

pub returns-in-Parts-clause-complete : goal.returns-in-Parts-clause-complete
returns-in-Parts-clause-complete g c = rw c.in-Parts.is (λ reads content t told is writes. c.run_parts.ensures.complete content t told is reads writes)

pub returns-in-Tight-clause-answers : goal.returns-in-Tight-clause-answers
returns-in-Tight-clause-answers g c = rw c.in-Tight.is c.run_tight.ensures.promise

pub returns-in-Tight-clause-complete : goal.returns-in-Tight-clause-complete
returns-in-Tight-clause-complete g c = rw c.in-Tight.is (λ reads content t told is writes. c.run_tight.ensures.complete content t told is reads writes)

pub returns-in-Admit-clause-answers : goal.returns-in-Admit-clause-answers
returns-in-Admit-clause-answers g c = rw c.in-Admit.is c.run_admit.ensures.promise

pub returns-in-Admit-clause-complete : goal.returns-in-Admit-clause-complete
returns-in-Admit-clause-complete g c = rw c.in-Admit.is (λ reads content t told is writes. c.run_admit.ensures.complete content t told is reads writes)

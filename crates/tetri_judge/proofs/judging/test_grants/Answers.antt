use Rattle.tetri_judge.proofs.judging.test_grants.Goals as goal

pub returns-in-Err : goal.returns-in-Err
returns-in-Err c = λ certificate budget. record { fails = (c.lawful.ensures.exact c.in-Err.unlawful).0 c.in-Err.is; passes = tt }

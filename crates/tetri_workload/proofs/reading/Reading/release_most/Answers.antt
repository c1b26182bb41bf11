use Rattle.tetri_workload.proofs.reading.Reading.release_most.Goals as goal

pub returns-then-is_full-clause-read : goal.returns-then-is_full-clause-read
returns-then-is_full-clause-read c = λ o nodes es given. c.in_ok-release-2.ensures.read o nodes es (c.in_ok-release.ensures.read o nodes es given)

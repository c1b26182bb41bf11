use Rattle.tetri_sooner.proofs.sooner.SoonerChooser.plan.Goals as goal

pub returns-clause-good : goal.returns-clause-good
returns-clause-good g c = c.in_ok-moved.ensures.good _ c.in_ok-plan.ensures.good

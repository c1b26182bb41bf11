use Rattle.tetri_advice.proofs.AdviceLaws.{given_lawful}
use Rattle.tetri_by_swift.proofs.by_swift.BySwiftChooser.plan.Goals as goal

pub plan_in_turns-requires-clause-given : goal.plan_in_turns-requires-clause-given
plan_in_turns-requires-clause-given g c = given_lawful _ _ _ _ _ c.in_ok-given.ensures.asked

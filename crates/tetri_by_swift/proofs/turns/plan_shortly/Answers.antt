use Rattle.std.proofs.Common.{inl}
use Rattle.tetri_plan.specs.Plans.{planned_of}
use Rattle.tetri_space.specs.Space.{space}
use Rattle.tetri_by_swift.proofs.RightLemmas.{certified_at}
use Rattle.tetri_by_swift.proofs.turns.plan_shortly.Goals as goal

pub returns-clause-certified : goal.returns-clause-certified
returns-clause-certified c = λ e.
    certified_at (space c.args.inst.now) c.in_ok-short.short c.args.budget (planned_of c.in_ok-plan.plan) (inl e) c.in_ok-plan.ensures.certified

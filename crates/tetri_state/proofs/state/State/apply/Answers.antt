use Rattle.std.proofs.Common.{◌∙◌, sym, subst}
use Rattle.tetri_state.specs.Reached.{IsReached, between}
use Rattle.tetri_state.proofs.ReachedLemmas.{after_reached}
use Rattle.tetri_state.proofs.ReadyLemmas.{launch_is_after}
use Rattle.tetri_state.proofs.state.State.apply.Goals as goal

pub returns-clause-after : goal.returns-clause-after
returns-clause-after c = λ t a launch. c.launch.ensures ∙ launch_is_after t c.args.self.now a c.args.prepared launch

pub returns-clause-reached : goal.returns-clause-reached
returns-clause-reached c = λ t a reached launch.
    subst (IsReached t between) (sym (c.launch.ensures ∙ launch_is_after t c.args.self.now a c.args.prepared launch))
    (after_reached t c.args.self.now a reached launch.plan)

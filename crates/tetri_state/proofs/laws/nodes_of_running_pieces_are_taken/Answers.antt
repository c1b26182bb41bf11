use Rattle.tetri_trace.specs.Scenario.{scenario}
use Rattle.tetri_state.proofs.InstanceLemmas.{not_free}
use Rattle.tetri_state.proofs.LaunchLemmas.{free_where_covered}
use Rattle.tetri_state.proofs.ReachedLemmas.{ahead_begun}
use Rattle.tetri_state.proofs.laws.nodes_of_running_pieces_are_taken.Goals as goal

pub returns-clause-not_free : goal.returns-clause-not_free
returns-clause-not_free c = λ s p n reached running on free.
    let t = scenario c.args.trace.now in
    not_free t s (ahead_begun t s c.requires reached) p n running on free

pub returns-clause-not_granted : goal.returns-clause-not_granted
returns-clause-not_granted c = λ s p n a g l reached running on lawful at leaf covers granted.
    let t = scenario c.args.trace.now in
    not_free t s (ahead_begun t s c.requires reached) p n running on (free_where_covered t s a g l n lawful at leaf covers granted)

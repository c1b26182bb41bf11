use Rattle.std.proofs.lemmas.List.Elements.{Contains-append_left}
use Rattle.tetri_trace.specs.Scenario.{scenario}
use Rattle.tetri_state.specs.After.{new_pieces}
use Rattle.tetri_state.specs.Planning.{instance_of}
use Rattle.tetri_state.proofs.RunOnLemmas.{runs_on_unless_told}
use Rattle.tetri_state.proofs.laws.running_pieces_run_on_unless_told.Goals as goal

pub returns-clause-stays : goal.returns-clause-stays
returns-clause-stays c = λ s a p at.
    let t = scenario c.args.trace.now in
    Contains-append_left s.pieces (new_pieces t (instance_of t s) a) p at

pub returns-clause-runs_on : goal.returns-clause-runs_on
returns-clause-runs_on c = λ s p at. runs_on_unless_told (scenario c.args.trace.now) s p at

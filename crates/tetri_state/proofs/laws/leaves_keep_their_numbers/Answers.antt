use Rattle.tetri_trace.specs.Scenario.{scenario}
use Rattle.tetri_state.proofs.OfferedLemmas.{one_leaf}
use Rattle.tetri_state.proofs.laws.leaves_keep_their_numbers.Goals as goal

pub returns : goal.returns
returns c = λ job now later l m arrived early at bt same. one_leaf (scenario c.args.trace.now) c.requires job now later l m arrived early at bt same

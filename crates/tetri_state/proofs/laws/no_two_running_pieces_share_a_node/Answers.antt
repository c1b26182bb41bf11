use Rattle.tetri_trace.specs.Scenario.{scenario}
use Rattle.tetri_state.proofs.PieceLemmas.{share_pairs}
use Rattle.tetri_state.proofs.ReachedLemmas.{apart_at}
use Rattle.tetri_state.proofs.laws.no_two_running_pieces_share_a_node.Goals as goal

pub returns : goal.returns
returns c = λ m s reached. share_pairs s.pieces (apart_at (scenario c.args.trace.now) c.requires m s reached)

use Rattle.tetri_trace.specs.Scenario.{scenario}
use Rattle.tetri_chart.proofs.SpanLemmas.{tells_pieces}
use Rattle.tetri_chart.proofs.laws.pictures_tell_pieces.Goals as goal

pub returns : goal.returns
returns c = λ asked blocks. tells_pieces (scenario c.args.trace.now) blocks

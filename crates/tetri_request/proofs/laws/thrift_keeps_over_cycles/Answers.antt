use Rattle.tetri_request.proofs.ThriftLemmas.{keeps_thrift}
use Rattle.tetri_request.proofs.laws.thrift_keeps_over_cycles.Goals as goal

pub returns : goal.returns
returns c = keeps_thrift c.args.ask.now c.args.arrival c.requires

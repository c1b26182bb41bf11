use Rattle.tetri_run.proofs.EndedLemmas.{said_of}
use Rattle.tetri_run.proofs.ended.conclude.Goals as goal

pub returns-clause-said : goal.returns-clause-said
returns-clause-said g c = λ quiet.
    said_of c.args.status.now (g.K.Sink.written c.args.errors.now) (g.K.Sink.written c.say-said.new.sink) c.say-said.result quiet
    c.say-said.ensures.ok c.say-said.ensures.failed c.say-said.ensures.memory c.say-said.ensures.numbered

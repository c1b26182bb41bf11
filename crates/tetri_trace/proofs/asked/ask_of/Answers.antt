use Rattle.std.proofs.Common.{arith, length}
use Rattle.tetri_notice.specs.Asks.{ask_text}
use Rattle.tetri_trace.proofs.Demands.{ask_sound}
use Rattle.tetri_trace.proofs.asked.ask_of.Goals as goal

pub returns-clause-good : goal.returns-clause-good
returns-clause-good c =
    ask_sound (ask_text c.args.ask) (length c.prefer_of.new.reader.sets) c.in_ok-set.set c.in_ok-prefer.prefer c.requires c.in_ok-prefer.ensures.limits
    (omega (arith, c.in_ok-set.ensures.known, c.in_ok-prefer.ensures.adds.more)) c.in_ok-prefer.ensures.known

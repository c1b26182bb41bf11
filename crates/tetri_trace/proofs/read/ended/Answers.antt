use Rattle.std.proofs.Common.{Ok, ap, refl, sym}
use Rattle.tetri_trace.proofs.read.ended.Goals as goal

pub returns-in-Ok-clause-exact : goal.returns-in-Ok-clause-exact
returns-in-Ok-clause-exact c = rw c.in-Some.is (ap Ok (sym c.in-Ok.ensures.same))

pub returns-in-Ok-clause-sound : goal.returns-in-Ok-clause-sound
returns-in-Ok-clause-sound c = c.in-Ok.ensures.sound

pub returns-in-Err-clause-exact : goal.returns-in-Err-clause-exact
returns-in-Err-clause-exact c = rw (c.fault_at.ensures, c.in-Err.ensures.memory) tt

pub returns-in-None-clause-exact : goal.returns-in-None-clause-exact
returns-in-None-clause-exact c = rw (c.fault_at-in-None.ensures, c.in-None.is) refl

use Rattle.std.proofs.Common.{◌≡◌, map}
use Rattle.tetri_trace.specs.Scenario.{submission}
use Rattle.tetri_make.specs.Generated.{made_of, state_at}
use Rattle.tetri_make.proofs.MadeLemmas.{IsMade}
use Rattle.tetri_make.proofs.making.draw_arrivals.Given as goal

abbrev pub invariant-loop-slot : goal.invariant-loop-slot
invariant-loop-slot l = record {
  state : l.generator.state ≡ state_at l.number l.slot;
  sets : l.sets ≡ (made_of l.number l.slot).sets;
  jobs : map submission l.jobs ≡ (made_of l.number l.slot).submissions;
  events : l.events.items ≡ (made_of l.number l.slot).events;
  made : IsMade (made_of l.number l.slot) l.slot;
}

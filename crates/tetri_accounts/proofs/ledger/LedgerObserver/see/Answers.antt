use Rattle.tetri_report.specs.Block.{headed}
use Rattle.tetri_trace.specs.Scenario.{scenario}
use Rattle.tetri_accounts.proofs.SlotLemmas.{taken}
use Rattle.tetri_accounts.proofs.ledger.LedgerObserver.see.Goals as goal

pub take-requires : goal.take-requires
take-requires c = c.requires.shown.2.sound

pub returns : goal.returns
returns c = record {
  saw = λ s certificate shown.
      taken (scenario c.args._trace.now) s (headed c.args.head.now certificate) c.args.state.now c.args.self.now c.take.new.self c.args.slot shown
      c.in_ok-take.ensures.running c.in_ok-take.ensures.closed c.in_ok-take.ensures.gone c.in_ok-take.ensures.cycles;
}

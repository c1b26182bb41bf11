use Rattle.tetri_trace.specs.Scenario.{scenario}
use Rattle.tetri_accounts.proofs.AccountLemmas.{report_told}
use Rattle.tetri_accounts.proofs.account.account_report.Goals as goal

pub returns-in-Ok-close-clause-tells : goal.returns-in-Ok-close-clause-tells
returns-in-Ok-close-clause-tells g c = λ lines told_lines.
    report_told (scenario c.in-Ok.kept) lines c.new-ledger.result c.check_seen.new.observer c.in-Ok-close.account c.new-ledger.ensures
    (c.in-Ok.ensures.seen lines told_lines) c.in-Ok-close.ensures

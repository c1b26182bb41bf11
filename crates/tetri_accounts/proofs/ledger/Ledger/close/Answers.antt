use Rattle.std.proofs.Common.{◌++◌, refl}
use Rattle.tetri_trace.specs.Scenario.{scenario}
use Rattle.tetri_accounts.proofs.AccountLemmas.{rows_told, run_told}
use Rattle.tetri_accounts.proofs.ledger.Ledger.close.Goals as goal

pub returns : goal.returns
returns c = λ first bs fresh seen.
    let t = scenario c.args.trace.now in
    let launches = c.args.self.closed.items ++ c.args.self.running.items in
    run_told t bs first c.args.self fresh seen (record { rows = c.in_ok-rows.rows; cycles = c.args.self.cycles })
    (rows_told t bs first c.args.self fresh seen launches _ c.in_ok-rows.rows.items refl refl c.in_ok-rows.ensures.one_each c.in_ok-rows.ensures.in_order) refl

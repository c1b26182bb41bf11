use Rattle.tetri_trace.specs.Scenario.{scenario}
use Rattle.tetri_accounts.proofs.AccountLemmas.{policy_told}
use Rattle.tetri_accounts.proofs.account.account_policy.Goals as goal

pub returns : goal.returns
returns c =
    policy_told c.args.policy (scenario c.args.trace.now) c.new-ledger.result c.observe_policy.new.observer c.in_ok-account.account c.new-ledger.ensures
    c.in_ok-observe_policy.ensures c.in_ok-account.ensures

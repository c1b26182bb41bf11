-- What an account says of a run.
use Rattle.std.specs.Prelude.{◌≡◌, ℕ, List, length}
use Rattle.tetri_policy.specs.Run.{ArePolicyCycles}
use Rattle.tetri_policy.specs.declared.policy.Policy.{Policy}
use Rattle.tetri_report.specs.Block.{Block}
use Rattle.tetri_run.specs.Check.{IsAccepted}
use Rattle.tetri_run.specs.Run.{in_order}
use Rattle.tetri_state.specs.Snapshot.{opening_state}
use Rattle.tetri_trace.specs.Scenario.{Scenario}
use Rattle.tetri_accounts.specs.Runs.{AreRows, notes}
use Rattle.tetri_accounts.specs.declared.account.Account.{Account}

-- It tells of the run with these cycles.
pub record TellsRun (t : Scenario) (bs : List Block) (a : Account) : Type 0 where
  pub rows : AreRows t bs a.rows.items
  pub cycles : a.cycles.items ≡ notes t (opening_state t) bs

-- The report is accepted, and it tells of its run.
pub record TellsReport (t : Scenario) (report : List ℕ) (a : Account) : Type 0 where
  pub accepted : IsAccepted t report
  pub tells : TellsRun t (in_order accepted.past) a

-- It tells of the run of the trace by a policy, all slots of it.
pub record TellsPolicy (p : Policy) (t : Scenario) (a : Account) : Type 0 where
  pub cycles : List Block
  pub run : ArePolicyCycles p t (opening_state t) cycles
  pub whole : length cycles ≡ t.header.until
  pub tells : TellsRun t cycles a

-- What a ledger makes of a cycle.
use Rattle.std.specs.Prelude.{◌≡◌, [], ◌∷◌, ◌++◌}
use Rattle.tetri_report.specs.Block.{Block}
use Rattle.tetri_state.specs.Begin.{occurring}
use Rattle.tetri_state.specs.Snapshot.{Snapshot}
use Rattle.tetri_trace.specs.Scenario.{Scenario}
use Rattle.tetri_accounts.specs.Rows.{departing, leaving, staying}
use Rattle.tetri_accounts.specs.Runs.{launches, note_of}
use Rattle.tetri_accounts.specs.declared.ledger.Ledger.{Ledger}

-- A cycle that begins in this state was taken into the ledger.
pub record IsTaken (t : Scenario) (s : Snapshot) (b : Block) (old new : Ledger) : Type 0 where
  pub running : new.running.items ≡ staying (occurring t s) s.now old.running.items ++ launches t s b
  pub closed : new.closed.items ≡ old.closed.items ++ leaving (occurring t s) s.now old.running.items
  pub gone : new.gone.items ≡ old.gone.items ++ departing (occurring t s) s.now
  pub cycles : new.cycles.items ≡ old.cycles.items ++ note_of t s b ∷ []

-- nothing was taken into it
pub record IsFresh (l : Ledger) : Type 0 where
  pub running : l.running.items ≡ []
  pub closed : l.closed.items ≡ []
  pub gone : l.gone.items ≡ []
  pub cycles : l.cycles.items ≡ []

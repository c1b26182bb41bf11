-- How an observer goes on by a cycle.
use Rattle.std.proofs.Common.{◌≡◌, List, [], ◌∷◌, ◌++◌, refl, subst}
use Rattle.tetri_report.specs.Block.{Block}
use Rattle.tetri_state.specs.Snapshot.{Snapshot}
use Rattle.tetri_trace.specs.Scenario.{Scenario}
use Rattle.tetri_cycles.specs.Observed.{Observed, behind, next}

module _ (t : Scenario) where
  -- the state behind one cycle more
  pub behind_last : (s : Snapshot) (bs : List Block) (b : Block) → behind t s (bs ++ b ∷ []) ≡ next t (behind t s bs) b
  behind_last s [] b = refl
  behind_last s (c ∷ bs) b = behind_last (next t s c) bs b

  -- cycles were seen, and then one more
  pub observed_last : {Observer : Type 0} (saw : Scenario → Snapshot → Block → Observer → Observer → Type 0) (s : Snapshot) (bs : List Block) (b : Block) (old middle new : Observer) →
      Observed saw t s bs old middle → saw t (behind t s bs) b middle new → Observed saw t s (bs ++ b ∷ []) old new
  observed_last saw s [] b old middle new seen last = (new, (subst (λ o. saw t s b o new) seen last, refl))
  observed_last saw s (c ∷ bs) b old middle new seen last = (seen.0, (seen.1.0, observed_last saw (next t s c) bs b seen.0 middle new seen.1.1 last))

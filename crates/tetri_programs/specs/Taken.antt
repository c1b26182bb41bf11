-- What an observer takes of a cycle that it is shown.
use Rattle.std.specs.Prelude.{◌≡◌, List, IsSomeAnd}
use Rattle.tetri_cluster.specs.declared.cluster.NodeText.{NodeText}
use Rattle.tetri_space.specs.Space.{Space}
use Rattle.tetri_programs.specs.Exported.{IsExportOf}
use Rattle.tetri_programs.specs.declared.watching.Watching.{Watching}

-- Of a cycle with this instance, over these nodes, what is exported is taken where the cycle is the one that is asked for, and nothing else changes.
pub record IsTaken (nodes : List NodeText) (i : Space) (old new : Watching) : Type 0 where
  pub cycle : new.cycle ≡ old.cycle
  pub format : new.format ≡ old.format
  pub here : i.now ≡ old.cycle → IsSomeAnd new.exported (IsExportOf old.format nodes i)
  pub other : ¬ (i.now ≡ old.cycle) → new.exported ≡ old.exported

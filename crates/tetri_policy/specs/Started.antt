-- A job that starts with placements, where marks tell what is held.
use Rattle.std.specs.Prelude.{◌≡◌, ℕ, List, ◌++◌}
use Rattle.tetri_strl.specs.declared.grants.Grant.{Grant}
use Rattle.tetri_space.specs.Space.{Space}
use Rattle.tetri_advice.specs.Fit.{Placement, grants_of}
use Rattle.tetri_greedy.specs.Held.{TellsOf}

-- these are the grants of a job's placements, and the marks tell what is held with them
pub record Starts (s : Space) (job : ℕ) (held ps : List Placement) (masks : List ℕ) (grants : List Grant) : Type 0 where
  pub grants_are : grants ≡ grants_of job ps
  pub tells : TellsOf s (held ++ ps) masks

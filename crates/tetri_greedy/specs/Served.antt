-- One job served.
use Rattle.std.specs.Prelude.{◌≡◌, ℕ, List, ◌++◌}
use Rattle.tetri_strl.specs.declared.grants.Grant.{Grant}
use Rattle.tetri_space.specs.Space.{Bid, Space}
use Rattle.tetri_advice.specs.Fit.{Placement, fit, grants_of}
use Rattle.tetri_greedy.specs.Held.{TellsOf}

-- a job got its fit beside what is held, and these marks tell what is held then
pub record IsServed (s : Space) (held : List Placement) (b : Bid) (masks : List ℕ) (before after : List Grant) : Type 0 where
  pub grants : after ≡ before ++ grants_of b.job (fit s b.job held b.expr)
  pub tells : TellsOf s (held ++ fit s b.job held b.expr) masks

-- The placements of one job as two lists.
use Rattle.std.specs.Prelude.{◌≡◌, ℕ, List, [], ◌∷◌, ◌++◌}
use Rattle.tetri_strl.specs.declared.expr.Leaf.{Leaf}
use Rattle.tetri_strl.specs.declared.grants.Grant.{Grant}
use Rattle.tetri_strl.specs.Tree.{Tree}
use Rattle.tetri_space.specs.Space.{Space}
use Rattle.tetri_advice.specs.Fit.{Placement, fit_beside, grant_of}
use Rattle.tetri_space.specs.Slots.{is_marked}

-- a job with its placements, in order
pub record Fitted : Type 0 where
  pub job : ℕ
  pub placements : List Placement

-- a leaf with the nodes of its grant
abbrev pub placement_of : Leaf → Grant → Placement
placement_of l g = record { leaf = l; nodes = g.nodes }

-- each leaf with its grant
abbrev pub placements_of : List Leaf → List Grant → List Placement
placements_of [] gs = []
placements_of (l ∷ ls) [] = []
placements_of (l ∷ ls) (g ∷ gs) = placement_of l g ∷ placements_of ls gs

-- there is one grant of the job for each leaf
abbrev pub AreGrantsOf : ℕ → List Leaf → List Grant → Type 0
AreGrantsOf job [] [] = Unit {0}
AreGrantsOf job (l ∷ ls) (g ∷ gs) = (g ≡ grant_of job (placement_of l g)) × AreGrantsOf job ls gs
AreGrantsOf job _ _ = ⊥

-- with more placements
abbrev pub grown : Fitted → List Placement → Fitted
grown f ps = record { job = f.job; placements = f.placements ++ ps }

-- with the fit of an expression beside marks, as the last placements
abbrev pub with_fit : Space → List ℕ → Fitted → Tree → Fitted
with_fit s masks f t = grown f (fit_beside s f.job (is_marked masks s.now) f.placements t)

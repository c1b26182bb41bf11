-- What a waiting job can start with in a slot beside what is held: the fit of what is left of its offer without the leaves that start in
-- other slots.
use Rattle.std.specs.Prelude.{ℕ, ◌+◌, nat_le, if◌then◌else◌, Bool, List, [], ◌∷◌, Option, Some, None}
use Rattle.std.specs.List.{range_with_len}
use Rattle.tetri_strl.specs.declared.expr.Leaf.{Leaf}
use Rattle.tetri_strl.specs.Prune.{pruned}
use Rattle.tetri_strl.specs.Tree.{Tree}
use Rattle.tetri_space.specs.Space.{Bid, Space}
use Rattle.tetri_advice.specs.Fit.{Placement, fit_beside, fit_worth, is_held}

-- placements that are worth something, and else none
abbrev pub if_worth : ℕ → List Placement → List Placement
if_worth worth ps = if nat_le 1 worth then ps else []

-- `taken` tells which nodes other jobs hold in some slot of a leaf
module _ (s : Space) (job : ℕ) (taken : Leaf → ℕ → Bool) where
  -- the fit of an expression, where it is worth something
  abbrev pub worthy_fit : Tree → List Placement
  worthy_fit t = if_worth (fit_worth job t (fit_beside s job taken [] t)) (fit_beside s job taken [] t)

  abbrev pub fit_left : Option Tree → List Placement
  fit_left None = []
  fit_left (Some t) = worthy_fit t

-- what the job can start with in the slot beside what is held, and nothing where it cannot start there
abbrev pub start_at : Space → List Placement → Bid → ℕ → List Placement
start_at s held b slot = fit_left s b.job (is_held held) (pruned slot (slot + 1) b.expr)

-- what the job can start with now
abbrev pub start_now : Space → List Placement → Bid → List Placement
start_now s held b = start_at s held b s.now

-- the first of these placements that are any
abbrev pub or_else : List Placement → List Placement → List Placement
or_else [] later = later
or_else (p ∷ ps) later = p ∷ ps

-- what the job can start with in the first of these slots in which it can start
abbrev pub first_start : Space → List Placement → Bid → List ℕ → List Placement
first_start s held b [] = []
first_start s held b (slot ∷ slots) = or_else (start_at s held b slot) (first_start s held b slots)

-- what is reserved for a job: what it can start with in the first slot of the window in which it can start
abbrev pub reserved : Space → List Placement → Bid → List Placement
reserved s held b = first_start s held b (range_with_len s.now s.window)

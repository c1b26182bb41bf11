-- The first grant that earns nothing, over all jobs.
use Rattle.std.specs.Prelude.{ℕ, min, ◌||◌, Bool, false, List, [], ◌∷◌, Option, Some, None}
use Rattle.tetri_strl.specs.declared.grants.Grant.{Grant}
use Rattle.tetri_strl.specs.Trim.{first_waste, idle, wastes}
use Rattle.tetri_strl.specs.Worth.{leaf_worth}
use Rattle.tetri_space.specs.Space.{Bid}

-- the lesser of two places, where there are any
abbrev pub lesser : Option ℕ → Option ℕ → Option ℕ
lesser None second = second
lesser (Some m) None = Some m
lesser (Some m) (Some n) = Some (min m n)

-- the least place at which a grant earns the job nothing whose grant it is
abbrev pub first_wasted : List Bid → List Grant → Option ℕ
first_wasted [] a = None
first_wasted (b ∷ bs) a = lesser (first_waste a b.job b.expr) (first_wasted bs a)

-- the idle leaves of a job by these grants
abbrev pub idle_of : List Grant → Bid → List ℕ
idle_of a b = idle (leaf_worth a b.job) b.expr

-- whether the grant is of a job whose idle leaves, listed at its place, have the grant's leaf
abbrev pub is_idle_among : List Bid → List (List ℕ) → Grant → Bool
is_idle_among [] ls g = false
is_idle_among (b ∷ bs) [] g = false
is_idle_among (b ∷ bs) (ns ∷ ls) g = wastes b.job ns g || is_idle_among bs ls g

-- Policies: which of the waiting jobs of an instance start now, where nothing is searched. Bids stand in the order in which jobs came.
use Rattle.std.specs.Prelude.{List, [], ◌∷◌, ◌++◌}
use Rattle.tetri_strl.specs.declared.grants.Grant.{Grant}
use Rattle.tetri_space.specs.Space.{Bid, Space}
use Rattle.tetri_space.specs.Trimmed.{all_trimmed}
use Rattle.tetri_advice.specs.Fit.{Placement, grants_of}
use Rattle.tetri_policy.specs.Start.{reserved, start_now}
use Rattle.tetri_policy.specs.declared.policy.Policy.{Policy}
use Rattle.tetri_policy.specs.declared.policy.Policy.TheVariants.{FirstCome, Backfill}

-- the second where there are placements, and else the first
abbrev pub if_any : List Placement → List Grant → List Grant → List Grant
if_any [] nothing something = nothing
if_any (p ∷ ps) nothing something = something

-- each job in turn starts with what it can, until the first that cannot start
abbrev pub first_come : Space → List Placement → List Bid → List Grant
first_come s held [] = []
first_come s held (b ∷ bs) =
    if_any (start_now s held b) [] (grants_of b.job (start_now s held b) ++ first_come s (held ++ start_now s held b) bs)

-- each job in turn starts with what it can, and those that cannot start are passed over
abbrev pub each_start : Space → List Placement → List Bid → List Grant
each_start s held [] = []
each_start s held (b ∷ bs) = grants_of b.job (start_now s held b) ++ each_start s (held ++ start_now s held b) bs

-- each job in turn starts with what it can; the first that cannot start gets what is reserved for it, and the others start beside that
abbrev pub backfilled : Space → List Placement → List Bid → List Grant
backfilled s held [] = []
backfilled s held (b ∷ bs) =
    if_any (start_now s held b) (each_start s (held ++ reserved s held b) bs)
    (grants_of b.job (start_now s held b) ++ backfilled s (held ++ start_now s held b) bs)

-- the starts of a policy
abbrev pub starts_by : Policy → Space → List Grant
starts_by FirstCome s = first_come s [] s.bids
starts_by Backfill s = backfilled s [] s.bids

-- the grants of a policy: of its starts what earns something
abbrev pub policy_grants : Policy → Space → List Grant
policy_grants p s = all_trimmed s (starts_by p s)

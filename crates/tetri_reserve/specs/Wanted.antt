-- The question whether some jobs of an instance can all be served together.
use Rattle.std.specs.Prelude.{ℕ, ◌≤◌, List, [], ◌∷◌, ◌++◌, All, map}
use Rattle.tetri_base.specs.Lists.{has}
use Rattle.tetri_strl.specs.declared.grants.Grant.{Grant}
use Rattle.tetri_strl.specs.Tree.{barrier}
use Rattle.tetri_space.specs.Space.{Bid, Space}
use Rattle.tetri_space.specs.Total.{bid_worth}
use Rattle.tetri_split.specs.Restricted.{restricted}

-- the same job, worth 1 where it is worth something, and else 0
abbrev pub wanted_bid : Bid → Bid
wanted_bid b = record { job = b.job; expr = barrier b.expr 1 }

-- the same instance, with each job worth 1 where it is worth something, and else 0
abbrev pub each_wanted : Space → Space
each_wanted s = record s { bids = map wanted_bid s.bids }

-- The instance with these jobs alone, each behind a barrier at 1. What an allotment is worth in all there is how many of the jobs it
-- makes worth something.
abbrev pub wanted : Space → List ℕ → Space
wanted s jobs = each_wanted (restricted (has jobs) s)

-- an instance of wanted jobs, and one more job
abbrev pub with_bid : Space → Bid → Space
with_bid s b = record s { bids = s.bids ++ wanted_bid b ∷ [] }

-- each of these jobs of the instance is worth something by the allotment
abbrev pub AreServed : Space → List ℕ → List Grant → Type 0
AreServed s jobs a = All (λ b. 1 ≤ bid_worth a b) (restricted (has jobs) s).bids

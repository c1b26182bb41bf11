-- What is launched after a plan.
use Rattle.std.specs.Prelude.{ℕ, ◌==◌, ◌&&◌, List, map, filter, Bool, Option, Some, None, sum_by}
use Rattle.std.specs.List.{list_any}
use Rattle.tetri_strl.specs.declared.expr.Leaf.{Leaf}
use Rattle.tetri_strl.specs.declared.grants.Grant.{Grant}
use Rattle.tetri_space.specs.Space.{Bid, Space, leaf_in}
use Rattle.tetri_space.specs.Total.{bid_worth}

abbrev pub start_or_0 : Option Leaf → ℕ
start_or_0 None = 0
start_or_0 (Some l) = l.start

-- the slot at which a grant's leaf starts
abbrev pub start_of : Space → Grant → ℕ
start_of s g = start_or_0 (leaf_in s.bids g.job g.leaf)

-- the job has a grant that starts at the present slot
abbrev pub starts_now : Space → List Grant → ℕ → Bool
starts_now s a job = list_any (λ g. g.job == job && start_of s g == s.now) a

abbrev pub launched_bids : Space → List Grant → List Bid
launched_bids s a = filter (λ b. starts_now s a b.job) s.bids

-- the jobs that are launched, ascending
abbrev pub launched_in : Space → List Grant → List ℕ
launched_in s a = map (λ b. b.job) (launched_bids s a)

-- what they are worth together at their launch
abbrev pub worth_launched : Space → List Grant → ℕ
worth_launched s a = sum_by (bid_worth a) (launched_bids s a)

-- Jobs by a number that says when they are served.
use Rattle.std.specs.Prelude.{◌≡◌, ℕ, ◌+◌, ◌-◌, ◌^◌, ◌<◌, Bool, nat_lt, All, List, map, filter, length, slice_index_or}
use Rattle.tetri_strl.specs.declared.expr.Leaf.{Leaf}
use Rattle.tetri_strl.specs.Prune.{starts_in}
use Rattle.tetri_strl.specs.Worth.{greatest_of}
use Rattle.tetri_space.specs.Space.{Bid, Space}
use Rattle.tetri_advice.specs.Creeds.{creed_order, deadline, window_top}
use Rattle.tetri_advice.specs.declared.creed.Creed.{Creed}
use Rattle.tetri_advice.specs.declared.creed.Creed.TheVariants.{Deadline, Worth}
use Rattle.tetri_greedy.specs.declared.order.Ranked.{Ranked}

-- one more than the greatest start of the leaves that start in a range of slots, and 0 where none does
abbrev pub past_last_start : ℕ → ℕ → List Leaf → ℕ
past_last_start from to ls = greatest_of (map (λ l. l.start + 1) (filter (starts_in from to) ls))

-- a job of a lesser rank is served first
abbrev pub rank_of : Creed → Space → Bid → ℕ
rank_of Deadline s b = deadline s b
rank_of Worth s b = 2 ^ 64 - 1 - window_top s b

-- the first comes first by its rank
abbrev pub is_lower : Ranked → Ranked → Bool
is_lower a b = nat_lt a.rank b.rank

-- the job at the place that is ranked
abbrev pub job_at : List Bid → Bid → Ranked → Bid
job_at bs d r = slice_index_or bs r.place d

-- jobs at their places are ranked by a creed
pub record IsRanked (c : Creed) (s : Space) (r : Ranked) : Type 0 where
  pub within : r.place < length s.bids
  pub rank : (d : Bid) → r.rank ≡ rank_of c s (job_at s.bids d r)
  pub small : (d : Bid) → window_top s (job_at s.bids d r) < 2 ^ 64

-- these are the jobs as they stand in the instance, each ranked
pub record AreRanked (c : Creed) (s : Space) (rs : List Ranked) : Type 0 where
  pub each : All (IsRanked c s) rs
  pub jobs : (d : Bid) → map (job_at s.bids d) rs ≡ s.bids

-- these are the jobs in the order of a creed
pub record AreInOrder (c : Creed) (s : Space) (rs : List Ranked) : Type 0 where
  pub within : All (λ r. r.place < length s.bids) rs
  pub jobs : (d : Bid) → map (job_at s.bids d) rs ≡ creed_order c s

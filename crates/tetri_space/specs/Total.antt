-- Totals over the jobs of an instance.
use Rattle.std.specs.Prelude.{ℕ, ◌+◌, List, sum_by}
use Rattle.tetri_strl.specs.declared.grants.Grant.{Grant}
use Rattle.tetri_strl.specs.Worth.{worth_of, top_of}
use Rattle.tetri_space.specs.Space.{Bid, Space}

-- what an allotment is worth to one job
abbrev pub bid_worth : List Grant → Bid → ℕ
bid_worth a b = worth_of a b.job b.expr

-- the top of one job's expression
abbrev pub bid_top : ℕ → ℕ → Bid → ℕ
bid_top from to b = top_of from to b.expr

-- what an allotment is worth to all jobs together
abbrev pub total_in : Space → List Grant → ℕ
total_in s a = sum_by (bid_worth a) s.bids

-- the tops over the window of all jobs together
abbrev pub tops_in : Space → ℕ
tops_in s = sum_by (bid_top s.now (s.now + s.window)) s.bids

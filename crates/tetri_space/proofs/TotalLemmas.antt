-- Totals stay small.
use Rattle.std.proofs.Common.{ℕ, ◌+◌, ◌*◌, ◌≤◌, List, length, get_or, All, le_trans}
use Rattle.std.proofs.Math.Nat.{mul-le-mul_right}
use Rattle.std.proofs.lemmas.List.Sums.{sum_by-le}
use Rattle.std.specs.List.{sum_by}
use Rattle.tetri_strl.specs.declared.grants.Grant.{Grant}
use Rattle.tetri_strl.specs.Worth.{leaf_worth, leaf_top}
use Rattle.tetri_strl.specs.WellMade.{PEAK}
use Rattle.tetri_strl.proofs.ExprLaws.{worth_le_limit, leaf_worth_le, leaf_top_le}
use Rattle.tetri_space.specs.Space.{Bid, Space}
use Rattle.tetri_space.specs.Sound.{IsSoundBid, IsSound}
use Rattle.tetri_space.specs.Total.{bid_worth, bid_top, total_in, tops_in}

sum_limit : (f : Bid → ℕ) (bs : List Bid) → All (λ b. f b ≤ PEAK) bs → length bs ≤ 100000 → sum_by f bs ≤ 100000 * PEAK
sum_limit f bs small few = le_trans (sum_by-le f PEAK bs small) (mul-le-mul_right PEAK few)

bid_worth_le : (s : Space) (a : List Grant) (b : Bid) → IsSoundBid s b → bid_worth a b ≤ PEAK
bid_worth_le s a b good = worth_le_limit (leaf_worth a b.job) (leaf_worth_le a b.job) b.expr good.well_made.sound

bid_top_le : (s : Space) (from to : ℕ) (b : Bid) → IsSoundBid s b → bid_top from to b ≤ PEAK
bid_top_le s from to b good = worth_le_limit (leaf_top from to) (leaf_top_le from to) b.expr good.well_made.sound

-- no total is above 10^17
pub total_limit : (s : Space) (a : List Grant) → IsSound s → total_in s a ≤ 100000000000000000
total_limit s a sound =
    sum_limit (bid_worth a) s.bids (λ k d at. bid_worth_le s a (get_or s.bids k d) (sound.sound_bids k d at)) sound.few_jobs

pub tops_limit : (s : Space) → IsSound s → tops_in s ≤ 100000000000000000
tops_limit s sound =
    sum_limit (bid_top s.now (s.now + s.window)) s.bids
    (λ k d at. bid_top_le s s.now (s.now + s.window) (get_or s.bids k d) (sound.sound_bids k d at)) sound.few_jobs

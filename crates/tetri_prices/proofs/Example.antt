-- The usual worked example, priced: of two nodes with a tag and two without, a job wants two with the tag, or any two for longer.
use Rattle.std.proofs.Common.{◌≡◌, ℕ, false, true, [], ◌∷◌, refl}
use Rattle.tetri_strl.specs.declared.expr.Leaf.{Leaf}
use Rattle.tetri_strl.specs.Tree.{barrier, greatest, join, least, more, none, one, scale, Tree}
use Rattle.tetri_space.specs.Space.{Bid, Space}
use Rattle.tetri_space.specs.Partitions.{partitions}
use Rattle.tetri_prices.specs.Gain.{gain}
use Rattle.tetri_prices.specs.Priced.{cost_for, gain_for, listed, priced_bound}

abbrev tagged : Leaf
tagged = record { num = 0; set = 0; k = 2; start = 0; dur = 2; v = 4; linear = false }

abbrev any_three : Leaf
any_three = record { num = 1; set = 1; k = 3; start = 0; dur = 3; v = 6; linear = true }

abbrev usual : Space
usual = record {
  now = 0;
  window = 4;
  nodes = 4;
  sets = (0 ∷ 1 ∷ []) ∷ (0 ∷ 1 ∷ 2 ∷ 3 ∷ []) ∷ [];
  busy_until = 0 ∷ 0 ∷ 0 ∷ 0 ∷ [];
  drained = false ∷ false ∷ false ∷ false ∷ [];
  closures = [];
  bids = record { job = 0; expr = join greatest (more (one tagged) (more (one any_three) none)) } ∷ [];
}

-- a price of 1 for the tagged nodes in each slot, in halves
abbrev halves : ℕ → ℕ → ℕ
halves = listed 0 ((1 ∷ 1 ∷ 1 ∷ 1 ∷ []) ∷ (0 ∷ 0 ∷ 0 ∷ 0 ∷ []) ∷ [])

without_prices : priced_bound usual 1 (λ p t. 0) ≡ 6
without_prices = refl

-- two of it in two slots each: 2 * 4 - 4
tagged_gain : gain_for usual (partitions usual) halves tagged 2 ≡ 4
tagged_gain = refl

-- two at no cost, and one at three slots: 3 * (2 * 2) - 3
three_gain : gain_for usual (partitions usual) halves any_three 2 ≡ 9
three_gain = refl

-- 9 and 8 halves
with_prices : priced_bound usual 2 halves ≡ 8
with_prices = refl

abbrev half_gain : Tree → ℕ
half_gain t = gain (cost_for usual (partitions usual) halves) (gain_for usual (partitions usual) halves) t 2

-- a factor counts for the worth, and not for the nodes: 2 * 3 * 4 - 4
scaled_gain : half_gain (scale (one tagged) 3) ≡ 20
scaled_gain = refl

-- 2 * 4 - 4, and nothing where the part cannot reach its least worth
barred_gain : half_gain (barrier (one tagged) 4) ≡ 4
barred_gain = refl

high_gain : half_gain (barrier (one tagged) 5) ≡ 0
high_gain = refl

-- Of two nodes, one job wants one of each, together worth 5, and two jobs want one each, worth 4.
abbrev single : ℕ → ℕ → ℕ → Leaf
single num set v = record { num = num; set = set; k = 1; start = 0; dur = 1; v = v; linear = false }

abbrev alone : ℕ → ℕ → Bid
alone job set = record { job = job; expr = one (single 0 set 4) }

abbrev pair : Space
pair = record {
  now = 0;
  window = 1;
  nodes = 2;
  sets = (0 ∷ []) ∷ (1 ∷ []) ∷ [];
  busy_until = 0 ∷ 0 ∷ [];
  drained = false ∷ false ∷ [];
  closures = [];
  bids = record { job = 0; expr = join least (more (one (single 0 0 5)) (more (one (single 1 1 5)) none)) } ∷ alone 1 0 ∷ alone 2 1 ∷ [];
}

-- at a price of 4 the whole supply costs 8, and nobody gains: neither part of the pair pays for the other
pair_bound : priced_bound pair 1 (listed 0 ((4 ∷ []) ∷ (4 ∷ []) ∷ [])) ≡ 8
pair_bound = refl

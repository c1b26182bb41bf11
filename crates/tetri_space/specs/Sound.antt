-- Which instances are sound.
use Rattle.std.specs.Prelude.{◌≡◌, ◌<◌, ◌≤◌, All, AllPairs, length}
use Rattle.tetri_strl.specs.declared.expr.Leaf.{Leaf}
use Rattle.tetri_strl.specs.Tree.{leaves}
use Rattle.tetri_strl.specs.WellMade.{IsWellMade}
use Rattle.tetri_space.specs.Closed.{AreSoundClosures}
use Rattle.tetri_space.specs.Space.{Bid, Space, set_of}

-- the leaf's set is there, and its nodes are
pub record HasKnownSet (s : Space) (l : Leaf) : Type 0 where
  pub known : l.set < length s.sets
  pub there : All (λ n. n < s.nodes) (set_of s l)

-- the expression is well made, and its sets are known
pub record IsSoundBid (s : Space) (b : Bid) : Type 0 where
  pub well_made : IsWellMade b.expr
  pub known_sets : All (HasKnownSet s) (leaves b.expr)

-- the limits of an instance: slots, nodes, closures of these nodes, and jobs that ascend and ask
-- for what is there
pub record IsSound (s : Space) : Type 0 where
  pub early : s.now ≤ 10000
  pub some_slots : 1 ≤ s.window
  pub few_slots : s.window ≤ 64
  pub some_nodes : 1 ≤ s.nodes
  pub few_nodes : s.nodes ≤ 4096
  pub all_known : length s.busy_until ≡ s.nodes
  pub all_marked : length s.drained ≡ s.nodes
  pub busy_within : All (λ t. t ≤ 30000) s.busy_until
  pub sound_closures : AreSoundClosures s.nodes s.closures
  pub few_jobs : length s.bids ≤ 100000
  pub ascending : AllPairs (λ a b. a.job < b.job) s.bids
  pub sound_bids : All (IsSoundBid s) s.bids

-- Grants whose nodes are held by masks of slots.
use Rattle.std.specs.Prelude.{◌≡◌, ℕ, false, List, Some}
use Rattle.std.specs.List.{list_any}
use Rattle.tetri_strl.specs.declared.expr.Leaf.{Leaf}
use Rattle.tetri_strl.specs.declared.grants.Grant.{Grant}
use Rattle.tetri_space.specs.Lawful.{IsLawfulGrant}
use Rattle.tetri_space.specs.Slots.{is_marked, marked, slots_of}
use Rattle.tetri_space.specs.Space.{Space, leaf_in}

-- The grant is lawful by itself, none of its nodes was held in a slot of its leaf, and now they
-- are.
pub record IsTaken (s : Space) (before : List ℕ) (g : Grant) (after : List ℕ) : Type 0 where
  pub leaf : Leaf
  pub found : leaf_in s.bids g.job g.leaf ≡ Some leaf
  pub lawful : IsLawfulGrant s g
  pub open_nodes : list_any (is_marked before s.now leaf) g.nodes ≡ false
  pub held : after ≡ marked before (slots_of s.now leaf) g.nodes

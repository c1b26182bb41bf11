-- What is kept from one text over the nodes of a cluster to the next.
use Rattle.std.specs.Prelude.{ℕ, ◌≡◌, ◌<◌, List, [], length, slice_index_or, Some, Vec}
use Rattle.std.specs.List.{AllByRecursion}
use Rattle.tetri_cluster.specs.declared.cluster.NodeText.{NodeText}
use Rattle.tetri_cluster.specs.Sets.{AreSets}
use Rattle.tetri_parse.specs.SetText.{nodes_in}

-- the nodes of a cluster, and the sets that texts have named so far
pub record NamedSets : Type 0 where
  pub nodes : List NodeText
  pub sets : List (List ℕ)

-- a text names the set of this number among sets that differ
pub record NamesSet (nodes : List NodeText) (sets : List (List ℕ)) (text : List ℕ) (set : ℕ) : Type 0 where
  pub lawful : AreSets sets
  pub known : set < length sets
  pub named : nodes_in nodes text ≡ Some (slice_index_or sets set [])

-- each text names the set of the number beside it
abbrev pub IsTrueIndex : {A : Type 0} → List NodeText → List (List ℕ) → List (Vec ℕ A × ℕ) → Type 0
IsTrueIndex nodes sets index = AllByRecursion (λ e. NamesSet nodes sets e.0.items e.1) index

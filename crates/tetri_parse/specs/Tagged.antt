-- Nodes that have tags.
use Rattle.std.specs.Prelude.{ℕ, ◌≡◌, List, All, true}
use Rattle.std.specs.List.{AllByRecursion}
use Rattle.tetri_cluster.specs.declared.cluster.NodeText.{NodeText}
use Rattle.tetri_cluster.specs.Names.{is_among}
use Rattle.tetri_cluster.specs.Cluster.{tags_at, knows_tag}

-- some node of the cluster has the tag, and each of these has it
pub record HaveTag (cluster : List NodeText) (nodes tag : List ℕ) : Type 0 where
  pub known : knows_tag cluster tag ≡ true
  pub each : All (λ n. is_among tag (tags_at cluster n) ≡ true) nodes

-- the same of each of the tags
abbrev pub HaveTags : List NodeText → List ℕ → List (List ℕ) → Type 0
HaveTags cluster nodes tags = AllByRecursion (HaveTag cluster nodes) tags

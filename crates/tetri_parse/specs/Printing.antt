-- The text that is printed of a tree.
use Rattle.std.specs.Prelude.{◌≡◌, ℕ, ◌-◌, Bool, true, false, if◌then◌else◌, List, [], ◌∷◌, ◌++◌, All, length, map, flat_map, slice_index_or, codes, decimal}
use Rattle.std.specs.List.{range_with_len}
use Rattle.tetri_strl.specs.declared.expr.Leaf.{Leaf}
use Rattle.tetri_strl.specs.Aligned.{EachLeaf}
use Rattle.tetri_strl.specs.Tree.{Operator, greatest, least, added, Tree, one, join, scale, barrier, Trees, none, more}
use Rattle.tetri_cluster.specs.declared.cluster.NodeText.{NodeText}
use Rattle.tetri_cluster.specs.Names.{differ, is_name}
use Rattle.tetri_cluster.specs.Cluster.{name_at, names_of}
use Rattle.tetri_cluster.specs.Sets.{AreSets, has_nodes}

abbrev pub after_comma : List ℕ → List ℕ
after_comma text = 44 ∷ text

-- texts with commas between
abbrev pub with_commas : List (List ℕ) → List ℕ
with_commas [] = []
with_commas (text ∷ texts) = text ++ flat_map after_comma texts

-- whether a set has all nodes of a cluster of so many
abbrev pub is_every : ℕ → List ℕ → Bool
is_every count nodes = has_nodes nodes (range_with_len 0 count)

-- a set: a star where it has all nodes, else their names in braces
unfoldable pub set_text : List NodeText → List ℕ → List ℕ
set_text cluster nodes = if is_every (length cluster) nodes then codes "*" else codes "{" ++ with_commas (map (name_at cluster) nodes) ++ codes "}"

-- the nodes that are printed by their names
abbrev pub HasNames : List NodeText → List ℕ → Type 0
HasNames cluster nodes = is_every (length cluster) nodes ≡ false → All (λ n. is_name (name_at cluster n) ≡ true) nodes

abbrev pub leaf_word : Bool → List ℕ
leaf_word true = codes "LnCk("
leaf_word false = codes "nCk("

-- the numbers of a leaf
unfoldable pub numbers_text : ℕ → ℕ → ℕ → ℕ → List ℕ
numbers_text k start dur v = codes "," ++ decimal k ++ codes "," ++ decimal start ++ codes "," ++ decimal dur ++ codes "," ++ decimal v ++ codes ")"

abbrev pub join_word : Operator → List ℕ
join_word greatest = codes "max("
join_word least = codes "min("
join_word added = codes "sum("

abbrev pub nodes_of : List (List ℕ) → Leaf → List ℕ
nodes_of sets l = slice_index_or sets l.set []

module _ (arrival : ℕ) (cluster : List NodeText) (sets : List (List ℕ)) where
  -- a leaf, whose start is told from the arrival on
  unfoldable pub leaf_text : Leaf → List ℕ
  leaf_text l = leaf_word l.linear ++ set_text cluster (nodes_of sets l) ++ numbers_text l.k (l.start - arrival) l.dur l.v

  abbrev mutual
    pub text_of : Tree → List ℕ
    text_of (one l) = leaf_text l
    text_of (join op ts) = join_word op ++ with_commas (texts_of ts) ++ codes ")"
    text_of (scale t s) = codes "scale(" ++ text_of t ++ codes "," ++ decimal s ++ codes ")"
    text_of (barrier t v) = codes "barrier(" ++ text_of t ++ codes "," ++ decimal v ++ codes ")"

    pub texts_of : Trees → List (List ℕ)
    texts_of none = []
    texts_of (more t ts) = text_of t ∷ texts_of ts

-- what a printed leaf tells: its nodes have names, the names of nodes differ, and so do the sets
pub record IsNamed (cluster : List NodeText) (sets : List (List ℕ)) (l : Leaf) : Type 0 where
  pub nodes : HasNames cluster (nodes_of sets l)
  pub apart : differ (names_of cluster) ≡ true
  pub lawful : AreSets sets

-- each leaf tells so
abbrev pub AreNamed : List NodeText → List (List ℕ) → Tree → Type 0
AreNamed cluster sets t = EachLeaf (IsNamed cluster sets) t

-- The text of a set, and the nodes that it means.
use Rattle.std.specs.Prelude.{ℕ, ◌<◌, All, ◌==◌, Bool, true, false, if◌then◌else◌, List, [], ◌∷◌, length, filter, fold, map, nat_eq, Option, Some, None, option_map, option_and_then, Result, Ok, Err}
use Rattle.std.specs.List.{list_any, range_with_len}
use Rattle.std.specs.List.Sorted.{IsStrictlyIncreasing}
use Rattle.tetri_cluster.specs.declared.cluster.NodeText.{NodeText}
use Rattle.tetri_cluster.specs.Names.{is_among, number_of}
use Rattle.tetri_cluster.specs.Cluster.{names_of, tags_at, knows_tag}
use Rattle.tetri_parse.specs.declared.fault.Miss.{Miss}
use Rattle.tetri_parse.specs.declared.set_text.Part as code
use Rattle.tetri_parse.specs.declared.set_text.Part.TheVariants as parts
use Rattle.tetri_base.specs.ResultSteps.{◌>>=◌}
use Rattle.tetri_parse.specs.Rows.{row_at}
use Rattle.tetri_parse.specs.Tokens.{skip_blanks, missing, name_at, goes_on_at}

-- all nodes, those with a tag, or those with one of these names
pub data Part : Type 0 where
  every : Part
  tagged : List ℕ → Part
  listed : List (List ℕ) → Part

-- what a part says
abbrev pub part_of : code.Part → Part
part_of parts.Every = every
part_of (parts.Tagged tag) = tagged tag.now
part_of (parts.Listed names) = listed (map (λ name. name.now) names.items)

-- names with commas between, or none, up to the closing brace
abbrev pub listed_first : List ℕ → Result (Part × List ℕ) Miss
listed_first [] = Err (missing [])
listed_first (b ∷ bs) = if b == 125 then Ok (listed [], bs) else (row_at name_at (goes_on_at 125) (length (b ∷ bs)) (b ∷ bs) >>= λ names. Ok (listed names.0, names.1))

abbrev pub part_first : List ℕ → Result (Part × List ℕ) Miss
part_first [] = Err (missing [])
part_first (b ∷ bs) =
    if b == 42 then Ok (every, bs) else if b == 123 then listed_first (skip_blanks bs) else (name_at (b ∷ bs) >>= λ name. Ok (tagged name.0, name.1))

-- a part of a set, and what stands behind it
unfoldable pub part_at : List ℕ → Result (Part × List ℕ) Miss
part_at text = part_first (skip_blanks text)

abbrev pub and_first : List ℕ → List ℕ → Bool × List ℕ
and_first [] text = (false, text)
and_first (b ∷ bs) text = if b == 38 then (true, bs) else (false, text)

-- whether another part follows
abbrev pub and_at : List ℕ → Bool × List ℕ
and_at text = and_first (skip_blanks text) text

-- the parts of a set, and what stands behind them
abbrev pub parts_at : List ℕ → Result (List Part × List ℕ) Miss
parts_at text = row_at part_at (λ t. Ok (and_at t)) (length text) text

-- the nodes with these names, none where one is no node's name
abbrev pub numbers_of : List NodeText → List (List ℕ) → Option (List ℕ)
numbers_of cluster [] = Some []
numbers_of cluster (name ∷ names) = option_and_then (λ n. option_map (λ ns. n ∷ ns) (numbers_of cluster names)) (number_of name (names_of cluster))

-- what is left of nodes in a part, none where it names what is not there
abbrev pub narrowed : List NodeText → Option (List ℕ) → Part → Option (List ℕ)
narrowed cluster None part = None
narrowed cluster (Some nodes) every = Some nodes
narrowed cluster (Some nodes) (tagged tag) = if knows_tag cluster tag then Some (filter (λ n. is_among tag (tags_at cluster n)) nodes) else None
narrowed cluster (Some nodes) (listed names) = option_map (λ chosen. filter (λ n. list_any (nat_eq n) chosen) nodes) (numbers_of cluster names)

-- the nodes that all parts share, ascending; none where a part names what is not there
abbrev pub shared_nodes : List NodeText → List Part → Option (List ℕ)
shared_nodes cluster parts = fold (narrowed cluster) (Some (range_with_len 0 (length cluster))) parts

-- the nodes of the set that stands first, and what stands behind it
unfoldable pub set_at : List NodeText → List ℕ → Result (Option (List ℕ) × List ℕ) Miss
set_at cluster text = do
  parts ← parts_at text
  Ok (shared_nodes cluster parts.0, parts.1)

-- what stands behind the set that stands first
abbrev pub set_end : List ℕ → Result (List ℕ) Miss
set_end text = parts_at text >>= λ parts. Ok parts.1

abbrev pub said_nodes : Result (Option (List ℕ) × List ℕ) Miss → Option (List ℕ)
said_nodes (Ok set) = set.0
said_nodes (Err m) = None

-- the nodes that a text names, none where it names what is not there or is no set's text
unfoldable pub nodes_in : List NodeText → List ℕ → Option (List ℕ)
nodes_in cluster text = said_nodes (set_at cluster text)

-- nodes of a cluster of this many, ascending without repeats
pub record IsNodeSet (count : ℕ) (nodes : List ℕ) : Type 0 where
  pub ascending : IsStrictlyIncreasing nodes
  pub within : All (λ n. n < count) nodes

-- Nodes that differ, and which of them are in a set.
use Rattle.std.specs.Prelude.{ℕ, ◌+◌, ◌==◌, ◌&&◌, Bool, true, false, not, List, [], ◌∷◌, length, map, min, nat_lt, Some, if◌then◌else◌}
use Rattle.tetri_cluster.specs.Names.{is_among}
use Rattle.tetri_cluster.specs.declared.cluster.NodeText.{NodeText}
use Rattle.tetri_io.specs.Words.{parts_at}
use Rattle.tetri_logs.specs.declared.entry.LoggedJob.{LoggedJob}
use Rattle.tetri_logs.specs.declared.options.Options.{Options}

-- whether nodes differ: these are given
abbrev pub are_mixed : List NodeText → Bool
are_mixed nodes = not (length nodes == 0)

-- the tags of a set's text
abbrev pub tags_in : List ℕ → List (List ℕ)
tags_in set = if length set == 0 then [] else parts_at 38 set

abbrev pub has_all : NodeText → List (List ℕ) → Bool
has_all node [] = true
has_all node (tag ∷ tags) = if is_among tag node.tags then has_all node tags else false

-- the numbers of the nodes that have all of these tags, where the first node has this number; a trace has 4,096 nodes at most
abbrev pub members_from : ℕ → List NodeText → List (List ℕ) → List ℕ
members_from number [] tags = []
members_from number (node ∷ nodes) tags =
    if nat_lt number 4096 && has_all node tags then number ∷ members_from (number + 1) nodes tags else members_from (number + 1) nodes tags

-- the nodes in a set
abbrev pub members : List NodeText → List ℕ → List ℕ
members nodes set = members_from 0 nodes (tags_in set)

-- a job with how many nodes are in its set
abbrev pub settled : List NodeText → LoggedJob → LoggedJob
settled nodes job = record job { account = record job.account { room = Some (length (members nodes job.set)) } }

-- the same of all jobs, where nodes differ
abbrev pub settled_all : List NodeText → List LoggedJob → List LoggedJob
settled_all nodes jobs = if are_mixed nodes then map (settled nodes) jobs else jobs

-- with as many nodes as are given, where these differ
abbrev pub fitted : List NodeText → Options → Options
fitted nodes o = if are_mixed nodes then record o { nodes = Some (min (length nodes) 4097) } else o

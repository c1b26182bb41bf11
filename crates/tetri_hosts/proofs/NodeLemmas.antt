-- What lines make of the nodes so far.
use Rattle.std.proofs.Common.{◌≡◌, ◌+◌, ◌∷◌, [], ℕ, List, Bool, true, false, cond, length, map, get_or, set, ap, refl, arith, length-append}
use Rattle.std.specs.Prelude.{Option, Some, None, ◌==◌, fold}
use Rattle.std.proofs.Math.Seq.{map-set_same}
use Rattle.tetri_cluster.specs.Cluster.{names_of}
use Rattle.tetri_cluster.specs.Names.{number_of}
use Rattle.tetri_cluster.specs.declared.cluster.NodeText.{NodeText}
use Rattle.tetri_hosts.specs.Columns.{node_line_of}
use Rattle.tetri_hosts.specs.Nodes.{Told, no_nodes, with_fate, with_line, with_read, with_told_at}
use Rattle.tetri_hosts.specs.declared.node.NodeLine.{NodeLine}
use Rattle.tetri_hosts.specs.declared.nodes.NodeFate.{NodeFate}
use Rattle.tetri_hosts.specs.declared.nodes.NodeFate.TheVariants.{Node, Blank, Unread}

-- other tags leave the names
pub names-kept : (ns : List NodeText) (i : ℕ) (n : NodeText) (tags : List (List ℕ)) → n ≡ get_or ns i n → map (λ m. m.name) (set ns i (record { name = n.name; tags = tags })) ≡ map (λ m. m.name) ns
names-kept ns i n tags e = let changed : NodeText = record { name = n.name; tags = tags } in map-set_same (λ (m : NodeText). m.name) ns i changed n (ap (λ (m : NodeText). m.name) e)

one_fate : (t : Told) (fate : NodeFate) → length (with_fate t fate).fates ≡ length t.fates + 1
one_fate t fate = omega (arith, length-append t.fates (fate ∷ []))

fates_of : (t : Told) (l : NodeLine) (place : Option ℕ) → (with_told_at t l place).fates ≡ t.fates
fates_of t l None = refl
fates_of t l (Some place) = refl

read_fate : (t : Told) (l : Option NodeLine) → length (with_read t l).fates ≡ length t.fates + 1
read_fate t None = one_fate t Unread
read_fate t (Some l) = omega (arith, one_fate t Node, ap length (fates_of (with_fate t Node) l (number_of l.name (names_of t.nodes))))

by_test : (b : Bool) (t : Told) (l : Option NodeLine) → length (cond b (with_fate t Blank) (with_read t l)).fates ≡ length t.fates + 1
by_test true t l = one_fate t Blank
by_test false t l = read_fate t l

line_fate : (t : Told) (line : List ℕ) → length (with_line t line).fates ≡ length t.fates + 1
line_fate t line = by_test (length line == 0) t (node_line_of line)

-- each line has a fate
pub all_fates : (t : Told) (lines : List (List ℕ)) → length (fold with_line t lines).fates ≡ length t.fates + length lines
all_fates t [] = omega arith
all_fates t (line ∷ lines) = omega (arith, all_fates (with_line t line) lines, line_fate t line)

pub each_fate : (lines : List (List ℕ)) → length (fold with_line no_nodes lines).fates ≡ length lines
each_fate lines = omega (arith, all_fates no_nodes lines)

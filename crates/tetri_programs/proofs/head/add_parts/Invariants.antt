use Rattle.std.proofs.Common.{◌≡◌, ◌++◌, string_bytes}
use Rattle.std.specs.Prelude.{flat_map}
use Rattle.std.specs.List.{range_with_len}
use Rattle.tetri_programs.specs.Head.{node_names, part_text}
use Rattle.tetri_space.specs.Partitions.{part_at, parts_of}
use Rattle.tetri_programs.proofs.head.add_parts.Given as goal

abbrev pub invariant-loop-part : goal.invariant-loop-part
invariant-loop-part l =
    string_bytes l.out
    ≡ string_bytes l.initial.out
    ++ flat_map (λ k. part_text l.mark k (node_names l.cluster (part_at (parts_of l.parts).groups k))) (range_with_len 0 l.part)

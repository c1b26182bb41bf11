use Rattle.std.proofs.Common.{◌≡◌, ◌++◌, map, drop}
use Rattle.std.specs.Prelude.{option_map}
use Rattle.tetri_parse.specs.SetText.{numbers_of}
use Rattle.tetri_parse.proofs.nodes.numbers.Given as goal

abbrev pub invariant-loop-name : goal.invariant-loop-name
invariant-loop-name l =
    option_map (λ ns. l.numbers.items ++ ns) (numbers_of l.cluster (map (λ n. n.now) (drop l.name-index l.names))) ≡ numbers_of l.cluster (map (λ n. n.now) l.names)

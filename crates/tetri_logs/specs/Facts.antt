-- What the comments of a log say of its cluster.
use Rattle.std.specs.Prelude.{ℕ, List, [], ◌∷◌, Option, Some, None, option_and_then, if◌then◌else◌, bytes_eq, codes}
use Rattle.tetri_logs.specs.Words.{count_in}
use Rattle.tetri_logs.specs.declared.comments.Fact.{Fact}
use Rattle.tetri_logs.specs.declared.comments.Fact.TheVariants.{Nodes, Processors, Start}

abbrev pub fact_named : List ℕ → ℕ → Option Fact
fact_named key number = if bytes_eq key (codes "MaxNodes:") then Some (Nodes number) else (if bytes_eq key (codes "MaxProcs:") then Some (Processors number) else (if bytes_eq key (codes "UnixStartTime:") then Some (Start number) else None))

-- a key with a number behind it
abbrev pub fact_in : List (List ℕ) → Option Fact
fact_in [] = None
fact_in (key ∷ []) = None
fact_in (key ∷ value ∷ more) = option_and_then (fact_named key) (count_in value)

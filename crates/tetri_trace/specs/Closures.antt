-- The closures of a trace.
use Rattle.std.specs.Prelude.{ℕ, List, [], ◌∷◌, Option, Some}
use Rattle.tetri_base.specs.OptionSteps.{◌>>=◌}
use Rattle.tetri_cluster.specs.Names.{number_of}
use Rattle.tetri_notice.specs.declared.closures.ClosureText.{ClosureText}
use Rattle.tetri_space.specs.declared.closure.Closure.{Closure}

-- the closures with the numbers of their nodes, where each node is there
abbrev pub closures_at : List (List ℕ) → List ClosureText → Option (List Closure)
closures_at names [] = Some []
closures_at names (c ∷ cs) = number_of c.node names >>= λ node. closures_at names cs >>= λ closures. Some ((record { node = node; from = c.from; to = c.to }) ∷ closures)

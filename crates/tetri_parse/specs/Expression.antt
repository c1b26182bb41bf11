-- What the text of an expression or of a set says, or its first fault.
use Rattle.std.specs.Prelude.{ℕ, ◌-◌, ◌==◌, if◌then◌else◌, List, length, None, Result, Ok, Err}
use Rattle.tetri_base.specs.ResultSteps.{◌>>=◌}
use Rattle.tetri_strl.specs.Tree.{Tree}
use Rattle.tetri_cluster.specs.declared.cluster.NodeText.{NodeText}
use Rattle.tetri_parse.specs.declared.fault.Fault.{Fault}
use Rattle.tetri_parse.specs.declared.fault.Fault.TheVariants.{Trailing}
use Rattle.tetri_parse.specs.declared.fault.Miss.{Miss}
use Rattle.tetri_parse.specs.Tokens.{skip_blanks, missed}
use Rattle.tetri_parse.specs.SetText.{set_at}
use Rattle.tetri_parse.specs.Grammar.{whole_at}
use Rattle.tetri_parse.specs.Settling.{settled, settled_set}

-- a fault with how many bytes of a text of this length stand before it
abbrev pub from_start : {A : Type 0} → ℕ → Result A Miss → Result A (ℕ × Fault)
from_start count (Ok x) = Ok x
from_start count (Err m) = Err (count - m.left, m.fault)

-- both passes
unfoldable pub expression_left : List ℕ → ℕ → ℕ → List NodeText → List (List ℕ) → Result (Tree × List (List ℕ)) Miss
expression_left text unit arrival cluster sets = do
  spelled ← whole_at cluster text
  settled unit arrival None spelled sets

-- the tree that a text says and the sets afterwards, or its first fault
abbrev pub expression : List ℕ → ℕ → ℕ → List NodeText → List (List ℕ) → Result (Tree × List (List ℕ)) (ℕ × Fault)
expression text unit arrival cluster sets = from_start (length text) (expression_left text unit arrival cluster sets)

unfoldable pub node_set_left : List ℕ → List NodeText → List (List ℕ) → Result (ℕ × List (List ℕ)) Miss
node_set_left text cluster sets = do
  set ← set_at cluster (skip_blanks text)
  if length (skip_blanks set.1) == 0 then settled_set (length (skip_blanks text)) set.0 sets else Err (missed Trailing (skip_blanks set.1))

-- the number of the set that a text says and the sets afterwards, or its first fault
abbrev pub node_set : List ℕ → List NodeText → List (List ℕ) → Result (ℕ × List (List ℕ)) (ℕ × Fault)
node_set text cluster sets = from_start (length text) (node_set_left text cluster sets)

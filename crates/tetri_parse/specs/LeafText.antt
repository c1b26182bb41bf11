-- A leaf as its text says it.
use Rattle.std.specs.Prelude.{ℕ, Bool, List, Option}

-- its numbers, the nodes that its set names (none where it names what is not there), and how many bytes of the text were left at its word, its set and its value
pub record LeafText : Type 0 where
  pub num : ℕ
  pub linear : Bool
  pub nodes : Option (List ℕ)
  pub k : ℕ
  pub start : ℕ
  pub dur : ℕ
  pub v : ℕ
  pub left : ℕ
  pub set_left : ℕ
  pub value_left : ℕ

-- The numbers of an expression, each behind its comma.
use Rattle.std.specs.Prelude.{ℕ, ◌≤◌, List, length, Result, Ok}
use Rattle.tetri_strl.specs.WellMade.{PEAK}
use Rattle.tetri_base.specs.ResultSteps.{◌>>=◌}
use Rattle.tetri_parse.specs.declared.fault.Miss.{Miss}
use Rattle.tetri_parse.specs.declared.reading.LeafNumbers.{LeafNumbers}
use Rattle.tetri_parse.specs.Tokens.{skip_blanks, mark_at, number_at}

-- a number within its limits behind a comma, and what stands behind it
abbrev pub comma_number_at : ℕ → ℕ → List ℕ → Result (ℕ × List ℕ) Miss
comma_number_at low high text = mark_at 44 text >>= λ t. number_at low high t

-- the last number of an expression behind its comma, and what stands behind the closing parenthesis
unfoldable pub last_number_at : List ℕ → Result (ℕ × List ℕ) Miss
last_number_at text = do
  comma ← mark_at 44 text
  number ← number_at 0 PEAK comma
  close ← mark_at 41 number.1
  Ok (number.0, close)

-- the value of a leaf behind its comma, how many bytes were left at it, and what stands behind the closing parenthesis
unfoldable pub leaf_value_at : List ℕ → Result ((ℕ × ℕ) × List ℕ) Miss
leaf_value_at text = do
  d ← mark_at 44 text
  v ← number_at 0 PEAK (skip_blanks d)
  close ← mark_at 41 v.1
  Ok ((v.0, length (skip_blanks d)), close)

-- the numbers of a leaf behind its set, and what stands behind the closing parenthesis
unfoldable pub leaf_numbers_at : List ℕ → Result (LeafNumbers × List ℕ) Miss
leaf_numbers_at text = do
  k ← comma_number_at 1 4096 text
  start ← comma_number_at 0 10000 k.1
  dur ← comma_number_at 1 10000 start.1
  value ← leaf_value_at dur.1
  Ok (record { k = k.0; start = start.0; dur = dur.0; v = value.0.0; value_left = value.0.1 }, value.1)

-- the limits of a leaf's numbers
pub record AreLeafNumbers (n : LeafNumbers) : Type 0 where
  pub some_nodes : 1 ≤ n.k
  pub few_nodes : n.k ≤ 4096
  pub within : n.start ≤ 10000
  pub some_slots : 1 ≤ n.dur
  pub few_slots : n.dur ≤ 10000
  pub small : n.v ≤ PEAK

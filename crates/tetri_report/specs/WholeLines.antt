-- Texts that are whole lines, none of them long.
use Rattle.std.specs.Prelude.{◌≡◌, ◌≢◌, ◌≤◌, ℕ, List, [], ◌∷◌, ◌++◌, All, flat_map, length}

-- a line with its line feed
abbrev pub with_feed : List ℕ → List ℕ
with_feed line = line ++ 10 ∷ []

-- at most 1,048,576 bytes, none of which is a line feed
pub record IsShortLine (line : List ℕ) : Type 0 where
  pub short : length line ≤ 1048576
  pub whole : All (λ b. b ≢ 10) line

-- The text is such lines, each with a line feed behind it.
pub record IsOfShortLines (text : List ℕ) : Type 0 where
  pub lines : List (List ℕ)
  pub short : All IsShortLine lines
  pub text_is : text ≡ flat_map with_feed lines

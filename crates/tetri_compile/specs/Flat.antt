-- The program of an instance as whole numbers by column.
use Rattle.std.specs.Prelude.{◌≡◌, ℕ, ◌==◌, if◌then◌else◌, List, [], ◌∷◌, length, map, ◌-ℤ◌, pos}
use Rattle.std.specs.List.{range_with_len}
use lib.IntN.{ℤ}
use Rattle.tetri_ip.specs.declared.programs.Program.{Program}
use Rattle.tetri_ip.specs.declared.programs.Row.{Row}
use Rattle.tetri_ip.specs.declared.programs.Term.{Term}
use Rattle.tetri_base.specs.Lists.{sum_of}
use Rattle.tetri_space.specs.Space.{Space}
use Rattle.tetri_compile.specs.declared.compiling.Compiled.{Compiled}
use Rattle.tetri_compile.specs.declared.compiling.Count.{Count}
use Rattle.tetri_compile.specs.Forms.{Form, Limit}
use Rattle.tetri_compile.specs.declared.outline.Tally.{Tally}
use Rattle.tetri_compile.specs.Draft.{Draft, draft}

-- a row of a program: the terms are at most the right side
pub record FlatRow : Type 0 where
  pub terms : List Term
  pub right : ℤ

-- a program as plain lists
pub record FlatProgram : Type 0 where
  pub costs : List ℤ
  pub lower : List ℤ
  pub upper : List ℤ
  pub rows : List FlatRow

abbrev pub plain_row : Row → FlatRow
plain_row r = record { terms = r.terms.items; right = r.right }

-- what a program says
abbrev pub plain : Program → FlatProgram
plain p = record {
  costs = p.costs.items;
  lower = p.lower.items;
  upper = p.upper.items;
  rows = map plain_row p.rows.items;
}

-- how many times a column stands in a form
abbrev pub coefficient : Form → ℕ → ℕ
coefficient f j = sum_of (λ s. if s.column == j then s.by else 0) f

-- the differences of the coefficients at these columns, without those that are 0
abbrev pub terms_at : Form → Form → List ℕ → List Term
terms_at most under [] = []
terms_at most under (j ∷ js) =
    if coefficient most j == coefficient under j then terms_at most under js
    else record { column = j; by = pos (coefficient most j) -ℤ pos (coefficient under j) } ∷ terms_at most under js

-- a limit over n columns
abbrev pub flat_row : ℕ → Limit → FlatRow
flat_row n r = record { terms = terms_at r.most r.under (range_with_len 0 n); right = pos r.plus }

abbrev pub flat : Draft → FlatProgram
flat d = record {
  costs = map (λ j. pos (coefficient d.objective j)) (range_with_len 0 (length d.uppers));
  lower = map (λ u. pos 0) d.uppers;
  upper = map pos d.uppers;
  rows = map (flat_row (length d.uppers)) d.rows;
}

-- the integer program of an instance
abbrev pub program_of : Space → FlatProgram
program_of s = flat (draft s)

abbrev pub count_of : Tally → Count
count_of c = record { column = c.column; job = c.job; leaf = c.leaf.num; part = c.part }

-- the columns that count nodes, ascending
abbrev pub counts_in : Space → List Count
counts_in s = map count_of (draft s).tallies

-- the numbers of columns and of rows
abbrev pub column_count : Space → ℕ
column_count s = length (draft s).uppers

abbrev pub row_count : Space → ℕ
row_count s = length (draft s).rows

-- the program and the counts are those of the instance
pub record IsCompiled (s : Space) (c : Compiled) : Type 0 where
  pub program : plain c.program ≡ program_of s
  pub counts : c.counts.items ≡ counts_in s

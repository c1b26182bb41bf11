-- A program in free MPS, column by column. Since programs in MPS look for the least, what a column earns is a cost below 0.
use Rattle.std.specs.Prelude.{ℕ, ◌+◌, ◌==◌, List, [], ◌∷◌, ◌++◌, codes, cond, flat_map, length, pos, unsigned_abs}
use Rattle.std.specs.List.{filter, range_with_len}
use lib.IntN.{ℤ}
use lib.Signed.{lt_z}
use Rattle.tetri_ip.specs.declared.programs.Term.{Term}
use Rattle.tetri_ip.specs.Points.{number_at}
use Rattle.tetri_compile.specs.Flat.{FlatProgram, FlatRow}
use Rattle.tetri_export.specs.declared.entries.Entry.{Entry}
use Rattle.tetri_export.specs.Lines.{entry_line, gain_line, limit_line, loss_line, lower_line, right_line, upper_line}
use Rattle.tetri_export.specs.Lp.{name_at, row_at}

-- the terms of a row of this number
abbrev pub row_entries : ℕ → List Term → List Entry
row_entries k [] = []
row_entries k (t ∷ ts) = record { row = k; column = t.column; by = t.by } ∷ row_entries k ts

-- those of rows of which the first has this number
abbrev pub entries_from : ℕ → List FlatRow → List Entry
entries_from k [] = []
entries_from k (r ∷ rs) = row_entries k r.terms ++ entries_from (k + 1) rs

-- the entries of a column
abbrev pub entries_at : List Entry → ℕ → List Entry
entries_at es j = filter (λ e. e.column == j) es

abbrev pub entry_text : List (List ℕ) → List ℕ → Entry → List ℕ
entry_text names column e = entry_line column (name_at names e.row) e.by

abbrev pub cost_text : List ℕ → ℤ → List ℕ
cost_text column by = cond (lt_z (pos 0) by) (gain_line column (unsigned_abs by)) (loss_line column (unsigned_abs by))

-- what a column costs, and the rows that it stands in
abbrev pub column_text : List (List ℕ) → List ℕ → ℤ → List Entry → List ℕ
column_text names column by es = cost_text column by ++ flat_map (entry_text names column) es

abbrev pub columns_text : List (List ℕ) → List (List ℕ) → List ℤ → List Entry → List ℕ
columns_text columns names cs es =
    flat_map (λ k. column_text names (name_at columns k) (number_at cs k) (entries_at es k)) (range_with_len 0 (length cs))

abbrev pub limits_text : List (List ℕ) → ℕ → List ℕ
limits_text names n = flat_map (λ k. limit_line (name_at names k)) (range_with_len 0 n)

abbrev pub rights_text : List (List ℕ) → List FlatRow → List ℕ
rights_text names rs = flat_map (λ k. right_line (name_at names k) (row_at rs k).right) (range_with_len 0 (length rs))

-- from where to where a column goes
abbrev pub bound_lines : List ℕ → ℤ → ℤ → List ℕ
bound_lines name lower upper = lower_line name lower ++ upper_line name upper

abbrev pub boxes_text : List (List ℕ) → List ℤ → List ℤ → List ℕ
boxes_text columns ls us =
    flat_map (λ k. bound_lines (name_at columns k) (number_at ls k) (number_at us k)) (range_with_len 0 (length ls))

abbrev pub rows_section : List (List ℕ) → ℕ → List ℕ
rows_section names n = codes "NAME cycle FREE\nROWS\n N value\n L none\n" ++ limits_text names n

abbrev pub columns_section : List (List ℕ) → List (List ℕ) → List ℤ → List Entry → List ℕ
columns_section columns names cs es =
    codes "COLUMNS\n WHOLE 'MARKER' 'INTORG'\n nothing value 0\n" ++ columns_text columns names cs es

abbrev pub rights_section : List (List ℕ) → List FlatRow → List ℕ
rights_section names rs = codes " END 'MARKER' 'INTEND'\nRHS\n RIGHT none 0\n" ++ rights_text names rs

abbrev pub bounds_section : List (List ℕ) → List ℤ → List ℤ → List ℕ
bounds_section columns ls us = codes "BOUNDS\n LO BOUND nothing 0\n UP BOUND nothing 0\n" ++ boxes_text columns ls us

-- The sections of a program, whose columns and rows have these names. There is one more column, `nothing`, which is 0, and
-- one more row, `none`, in which no column stands: not every reader takes an empty section.
unfoldable pub mps_text : List (List ℕ) → List (List ℕ) → FlatProgram → List ℕ
mps_text columns names p =
    rows_section names (length p.rows)
    ++ columns_section columns names p.costs (entries_from 0 p.rows)
    ++ rights_section names p.rows
    ++ bounds_section columns p.lower p.upper
    ++ codes "ENDATA\n"

-- A program in LP format: each term and each bound in a line of its own.
use Rattle.std.specs.Prelude.{ℕ, List, [], ◌∷◌, ◌++◌, codes, cond, flat_map, length, pos, slice_index_or, unsigned_abs}
use Rattle.std.specs.List.{range_with_len}
use lib.IntN.{ℤ}
use lib.Signed.{lt_z}
use Rattle.tetri_ip.specs.declared.programs.Term.{Term}
use Rattle.tetri_ip.specs.Points.{number_at, term_at}
use Rattle.tetri_compile.specs.Flat.{FlatProgram, FlatRow}
use Rattle.tetri_export.specs.Plain.{added_text, box_text, empty_row_text, name_text, right_text, row_name_text, taken_text}

-- the name at a place, and none past the end
abbrev pub name_at : List (List ℕ) → ℕ → List ℕ
name_at names k = slice_index_or names k []

-- the row at a place, and an empty one past the end
abbrev pub row_at : List FlatRow → ℕ → FlatRow
row_at rows k = slice_index_or rows k (record { terms = []; right = pos 0 })

-- so many times a column
abbrev pub times_text : ℤ → List ℕ → List ℕ
times_text by name =
    cond (lt_z by (pos 0)) (taken_text (unsigned_abs by) name) (added_text (unsigned_abs by) name)

abbrev pub term_text : List (List ℕ) → Term → List ℕ
term_text names t = times_text t.by (name_at names t.column)

abbrev pub terms_text : List (List ℕ) → List Term → List ℕ
terms_text names ts = flat_map (λ k. term_text names (term_at ts k)) (range_with_len 0 (length ts))

-- the name of a row before its terms
abbrev pub head_text : List ℕ → List Term → List ℕ
head_text name [] = empty_row_text name
head_text name (t ∷ ts) = row_name_text name

abbrev pub row_text : List (List ℕ) → List ℕ → FlatRow → List ℕ
row_text columns name r =
    head_text name r.terms ++ terms_text columns r.terms ++ right_text r.right

abbrev pub rows_text : List (List ℕ) → List (List ℕ) → List FlatRow → List ℕ
rows_text columns names rs =
    flat_map (λ k. row_text columns (name_at names k) (row_at rs k)) (range_with_len 0 (length rs))

-- what the columns cost
abbrev pub costs_text : List (List ℕ) → List ℤ → List ℕ
costs_text columns cs =
    flat_map (λ k. times_text (number_at cs k) (name_at columns k)) (range_with_len 0 (length cs))

-- the bounds of the columns
abbrev pub boxes_text : List (List ℕ) → List ℤ → List ℤ → List ℕ
boxes_text columns ls us =
    flat_map (λ k. box_text (number_at ls k) (name_at columns k) (number_at us k))
    (range_with_len 0 (length ls))

-- the columns again, since each is a whole number
abbrev pub whole_text : List (List ℕ) → ℕ → List ℕ
whole_text columns n = flat_map (λ k. name_text (name_at columns k)) (range_with_len 0 n)

abbrev pub objective_text : List (List ℕ) → List ℤ → List ℕ
objective_text columns cs = codes "Maximize\n value: 0 nothing\n" ++ costs_text columns cs

abbrev pub limits_text : List (List ℕ) → List (List ℕ) → List FlatRow → List ℕ
limits_text columns names rs =
    codes "Subject To\n none: 0 nothing <= 0\n" ++ rows_text columns names rs

abbrev pub bounds_text : List (List ℕ) → List ℤ → List ℤ → List ℕ
bounds_text columns ls us = codes "Bounds\n 0 <= nothing <= 0\n" ++ boxes_text columns ls us

abbrev pub generals_text : List (List ℕ) → ℕ → List ℕ
generals_text columns n = codes "Generals\n nothing\n" ++ whole_text columns n

-- The sections of a program, whose columns and rows have these names. There is one more column, `nothing`, which is 0, and
-- one more row, `none`, of that column: not every reader takes an empty section.
unfoldable pub lp_text : List (List ℕ) → List (List ℕ) → FlatProgram → List ℕ
lp_text columns names p =
    objective_text columns p.costs
    ++ limits_text columns names p.rows
    ++ bounds_text columns p.lower p.upper
    ++ generals_text columns (length p.costs)
    ++ codes "End\n"

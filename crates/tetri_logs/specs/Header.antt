-- The columns that sacct prints, by the names in its header.
use Rattle.std.specs.Prelude.{ℕ, ◌+◌, ◌-◌, ◌||◌, List, [], ◌∷◌, length, Bool, Option, Some, None, is_some, if◌then◌else◌, bytes_eq, codes}
use Rattle.tetri_base.specs.OptionSteps.{◌>>=◌}
use Rattle.tetri_logs.specs.Lines.{ends_empty}
use Rattle.tetri_logs.specs.declared.header.Header.{Header}

-- the number of the first column with a name, where the first of these has the number `at`
abbrev pub column_from : ℕ → List ℕ → List (List ℕ) → Option ℕ
column_from at name [] = None
column_from at name (x ∷ xs) = if bytes_eq x name then Some at else column_from (at + 1) name xs

-- the number of the column with a name, counted from 1
abbrev pub column : List ℕ → List (List ℕ) → Option ℕ
column name names = column_from 1 name names

-- the first of two numbers that is there
abbrev pub either : Option ℕ → Option ℕ → Option ℕ
either (Some one) other = Some one
either None other = other

-- the column of a job's identifier, in which arrays are told where it is JobID
abbrev pub id_column : List (List ℕ) → Option ℕ
id_column names = either (column (codes "JobID") names) (column (codes "JobIDRaw") names)

abbrev pub is_id : List ℕ → Bool
is_id name = bytes_eq name (codes "JobID") || bytes_eq name (codes "JobIDRaw")

-- a line with an identifier among its names is a header
abbrev pub is_header : List (List ℕ) → Bool
is_header names = is_some (id_column names)

-- a bar at the line's end begins no column
abbrev pub column_count : List (List ℕ) → ℕ
column_count names = if ends_empty names then length names - 1 else length names

-- the columns that a header names, in any order, if all are there that are needed
unfoldable pub header_in : List (List ℕ) → Option Header
header_in names = do
  id ← id_column names
  submit ← column (codes "Submit") names
  start ← column (codes "Start") names
  end ← column (codes "End") names
  nodes ← column (codes "NNodes") names
  limit ← either (column (codes "TimelimitRaw") names) (column (codes "Timelimit") names)
  state ← column (codes "State") names
  Some (record {
    count = column_count names;
    id = id;
    submit = submit;
    start = start;
    end = end;
    nodes = nodes;
    limit = limit;
    in_minutes = is_some (column (codes "TimelimitRaw") names);
    state = state;
    processors = either (column (codes "NCPUS") names) (column (codes "AllocCPUS") names);
    partitions = column (codes "Partition") names;
    constraints = column (codes "Constraints") names;
  })

-- A line of sacct.
use Rattle.std.specs.Prelude.{ℕ, ◌+◌, ◌-◌, ◌*◌, ◌==◌, ◌&&◌, ◌||◌, Bool, not, List, [], length, map, min, nat_lt, slice_index, take, Option, Some, None, is_none, option_map, ok_or, Result, Ok, Err, if◌then◌else◌, bytes_eq, codes}
use Rattle.std.specs.List.{list_any, starts_with}
use Rattle.tetri_base.specs.ResultSteps.{◌>>=◌}
use Rattle.tetri_io.specs.Numbers.{digits_below}
use Rattle.tetri_io.specs.Words.{parts_at}
use Rattle.tetri_logs.specs.Account.{account_of, positive}
use Rattle.tetri_logs.specs.Limits.{limit_in}
use Rattle.tetri_logs.specs.Swf.{refused}
use Rattle.tetri_logs.specs.Tasks.{before_bracket}
use Rattle.tetri_logs.specs.Times.{seconds_in}
use Rattle.tetri_logs.specs.Words.{count_in, word_at}
use Rattle.tetri_logs.specs.declared.account.Account.{Account}
use Rattle.tetri_logs.specs.declared.entry.Cause.{Cause}
use Rattle.tetri_logs.specs.declared.entry.Cause.TheVariants.{Unreadable, Step, NoNodes, Backwards}
use Rattle.tetri_logs.specs.declared.header.Header.{Header}

-- the line without the carriage return at its end
abbrev pub without_return : List ℕ → List ℕ
without_return line = if slice_index line (length line - 1) == 13 then take (length line - 1) line else line

-- what stands in a line between its bars
abbrev pub row_of : List ℕ → List (List ℕ)
row_of line = parts_at 124 (without_return line)

-- what stands in a column, counted from 1
abbrev pub cell : List (List ℕ) → ℕ → List ℕ
cell row column = word_at row (column - 1)

-- what stands in a column, where it is told
abbrev pub told_cell : List (List ℕ) → Option ℕ → List ℕ
told_cell row None = []
told_cell row (Some column) = cell row column

-- as many columns as the header names; a bar at the line's end may be there
abbrev pub is_row : Header → List (List ℕ) → Bool
is_row h row = length row == h.count || (length row - 1 == h.count && length (word_at row h.count) == 0)

-- the identifier of a step has a point, and is no list of tasks
abbrev pub is_step : List ℕ → Bool
is_step id = list_any (λ b. b == 46) id && is_none (before_bracket id)

-- a point in the place of a plus
abbrev pub pointed : ℕ → ℕ
pointed b = if b == 43 then 46 else b

-- the name that an identifier gives: a part of a heterogeneous job has a plus in it
abbrev pub id_name : List ℕ → List ℕ
id_name id = if list_any (λ b. b == 43) id then map pointed id else id

abbrev pub is_unknown : List ℕ → Bool
is_unknown text = bytes_eq text (codes "Unknown") || bytes_eq text (codes "None") || length text == 0

-- the moment that has to be there, in a column
abbrev pub needed_moment : ℕ → List ℕ → Result ℕ Cause
needed_moment column text = ok_or (seconds_in text) (Unreadable column)

-- a moment in a column, where it is known
abbrev pub moment_in : ℕ → List ℕ → Result (Option ℕ) Cause
moment_in column text = if is_unknown text then Ok None else needed_moment column text >>= λ moment. Ok (Some moment)

-- a number, which may be printed as 4K for 4096
abbrev pub exact_count : List ℕ → Option ℕ
exact_count text = if slice_index text (length text - 1) == 75 then option_map (λ n. n * 1024) (digits_below 4194304 (take (length text - 1) text)) else count_in text

-- how many nodes a job has, one at least
abbrev pub nodes_in : ℕ → List ℕ → Result ℕ Cause
nodes_in column text = if length text == 0 then Err NoNodes else ok_or (exact_count text) (Unreadable column) >>= λ nodes. if nodes == 0 then Err NoNodes else Ok nodes

-- how many processors a job asked for, where it is known
abbrev pub processors_in : Option ℕ → List (List ℕ) → Option ℕ
processors_in None row = None
processors_in (Some column) row = positive (exact_count (cell row column))

-- the seconds from one moment to another, where both are known
abbrev pub elapsed : Option ℕ → Option ℕ → Result (Option ℕ) Cause
elapsed (Some from) (Some to) = if nat_lt to from then Err Backwards else Ok (Some (to - from))
elapsed (Some from) None = Ok None
elapsed None to = Ok None

-- a reason may stand behind the state
abbrev pub is_cancelled : List ℕ → Bool
is_cancelled state = starts_with (λ x y. x == y) state (codes "CANCELLED")

-- what the columns of a line say of a job
unfoldable pub sacct_account : Header → List (List ℕ) → Result Account Cause
sacct_account h row = do
  whole ← refused (not (is_row h row)) (Unreadable (min (length row) h.count + 1))
  job ← refused (is_step (cell row h.id)) Step
  submit ← needed_moment h.submit (cell row h.submit)
  start ← moment_in h.start (cell row h.start)
  end ← moment_in h.end (cell row h.end)
  limit ← limit_in h.in_minutes h.limit (cell row h.limit)
  nodes ← nodes_in h.nodes (cell row h.nodes)
  ran ← elapsed start end
  wait ← elapsed (Some submit) end
  Ok (account_of (record { submit = submit; nodes = Some nodes; processors = processors_in h.processors row; limit = limit; ran = ran; wait = wait; cancelled = is_cancelled (cell row h.state) }))

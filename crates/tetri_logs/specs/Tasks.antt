-- The tasks of an array that wait, which stand in one line as 14_[1,3,7-9], with a step as 14_[0-10:2], and as 14_[4-9%2] where two may run at once.
use Rattle.std.specs.Prelude.{ℕ, ◌+◌, ◌-◌, ◌*◌, ◌/◌, ◌==◌, ◌&&◌, ◌||◌, Bool, nat_le, nat_lt, List, [], ◌∷◌, ◌++◌, decimal, flat_map, length, map, slice_index, take, Option, Some, None, is_some, unwrap_or, if◌then◌else◌}
use Rattle.std.specs.List.{range_with_len}
use Rattle.tetri_base.specs.Lists.{sum_of}
use Rattle.tetri_base.specs.OptionSteps.{◌>>=◌}
use Rattle.tetri_io.specs.Words.{parts_at}
use Rattle.tetri_logs.specs.Words.{count_in}
use Rattle.tetri_logs.specs.declared.tasks.Run.{Run}
use Rattle.tetri_logs.specs.declared.tasks.TheConstants.{MOST_TASKS}

-- ---- a part of a list: a task, or the tasks from one to another, all or by a step
abbrev pub run_between : ℕ → ℕ → ℕ → Option Run
run_between first last step = if step == 0 || nat_lt last first then None else Some (record { first = first; step = step; more = (last - first) / step })

-- the tasks from one on, to the task that stands before the step
abbrev pub run_to : ℕ → List (List ℕ) → Option Run
run_to first [] = None
run_to first (last ∷ []) = count_in last >>= λ l. run_between first l 1
run_to first (last ∷ step ∷ []) = count_in last >>= λ l. count_in step >>= λ s. run_between first l s
run_to first (last ∷ step ∷ other ∷ more) = None

abbrev pub run_from : List ℕ → List ℕ → Option Run
run_from first last = count_in first >>= λ f. run_to f (parts_at 58 last)

abbrev pub run_alone : List ℕ → Option Run
run_alone task = count_in task >>= λ t. run_between t t 1

abbrev pub run_by : List (List ℕ) → Option Run
run_by [] = None
run_by (task ∷ []) = run_alone task
run_by (first ∷ last ∷ []) = run_from first last
run_by (first ∷ last ∷ other ∷ more) = None

abbrev pub run_in : List ℕ → Option Run
run_in part = run_by (parts_at 45 part)

-- each part of a list
abbrev pub runs_of : List (List ℕ) → Option (List Run)
runs_of [] = Some []
runs_of (part ∷ parts) = run_in part >>= λ run. runs_of parts >>= λ runs. Some (run ∷ runs)

-- ---- the identifiers of the tasks, as 14_3
abbrev pub run_ids : List ℕ → Run → List (List ℕ)
run_ids front run = map (λ k. front ++ decimal (run.first + k * run.step)) (range_with_len 0 (run.more + 1))

abbrev pub task_count : List Run → ℕ
task_count runs = sum_of (λ run. run.more + 1) runs

-- the tasks of a list in its order, where they are not too many
abbrev pub ids_in : List ℕ → List ℕ → Option (List (List ℕ))
ids_in front list = runs_of (parts_at 44 list) >>= λ runs. if nat_le (task_count runs) MOST_TASKS then Some (flat_map (run_ids front) runs) else None

-- ---- the identifier of a line
-- the text before a bracket that ends it
abbrev pub before_bracket : List ℕ → Option (List ℕ)
before_bracket text = if slice_index text (length text - 1) == 93 then Some (take (length text - 1) text) else None

-- the number of an array before its tasks, as 14_
abbrev pub is_array : List ℕ → Bool
is_array front = slice_index front (length front - 1) == 95 && is_some (count_in (take (length front - 1) front))

-- the list before the number of tasks that may run at once, if there is one
abbrev pub list_by : List (List ℕ) → Option (List ℕ)
list_by [] = None
list_by (list ∷ []) = Some list
list_by (list ∷ most ∷ []) = if is_some (count_in most) then Some list else None
list_by (list ∷ most ∷ other ∷ more) = None

abbrev pub ids_inside : List ℕ → List ℕ → Option (List (List ℕ))
ids_inside front inside = if is_array front then (list_by (parts_at 37 inside) >>= λ list. ids_in front list) else None

abbrev pub task_ids_by : List (List ℕ) → Option (List (List ℕ))
task_ids_by [] = None
task_ids_by (id ∷ []) = None
task_ids_by (front ∷ inside ∷ []) = ids_inside front inside
task_ids_by (front ∷ inside ∷ other ∷ more) = None

-- the tasks that an identifier stands for, if it stands for some
abbrev pub task_ids : List ℕ → Option (List (List ℕ))
task_ids id = before_bracket id >>= λ text. task_ids_by (parts_at 91 text)

-- the jobs that an identifier stands for: these tasks, or the job alone
abbrev pub ids_of : List ℕ → List (List ℕ)
ids_of id = unwrap_or (task_ids id) (id ∷ [])

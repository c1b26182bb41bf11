-- A line of the Standard Workload Format.
use Rattle.std.specs.Prelude.{ℕ, ◌+◌, ◌==◌, ◌||◌, Bool, true, false, not, List, [], ◌∷◌, length, min, Option, Some, None, Result, Ok, Err, if◌then◌else◌, bytes_eq, codes}
use Rattle.tetri_base.specs.ResultSteps.{◌>>=◌}
use Rattle.tetri_logs.specs.Account.{account_of, positive}
use Rattle.tetri_logs.specs.Words.{amount, count_in, needed, word_at}
use Rattle.tetri_io.specs.Words.{is_blank}
use Rattle.tetri_logs.specs.declared.account.Account.{Account}
use Rattle.tetri_logs.specs.declared.entry.Cause.{Cause}
use Rattle.tetri_logs.specs.declared.entry.Cause.TheVariants.{Unreadable, Step, NoNodes}

-- whether the first byte that is no blank begins a comment, or there is none
abbrev pub is_comment : List ℕ → Bool
is_comment [] = true
is_comment (b ∷ bs) = if is_blank b then is_comment bs else b == 59

-- the partition of a job by its number, or nothing where it is not known
abbrev pub swf_partition : List (List ℕ) → List ℕ
swf_partition words = if bytes_eq (word_at words 15) (codes "-1") then [] else word_at words 15

-- whether a number is known, and is this one
abbrev pub is_known_as : ℕ → Option ℕ → Bool
is_known_as n None = false
is_known_as n (Some m) = m == n

-- the status of a part of a job
abbrev pub is_part : Option ℕ → Bool
is_part status = is_known_as 2 status || is_known_as 3 status || is_known_as 4 status

-- the processors that a job asked for, or else those that it was given
abbrev pub width_of : Option ℕ → Option ℕ → Result ℕ Cause
width_of asked given = by (positive asked) (positive given)
  where
    by : Option ℕ → Option ℕ → Result ℕ Cause
    by (Some width) second = Ok width
    by None (Some width) = Ok width
    by None None = Err NoNodes

-- left out for this cause where the test passes
abbrev pub refused : Bool → Cause → Result (Unit {0}) Cause
refused true cause = Err cause
refused false cause = Ok tt

-- What 18 words say of a job: its number, when it was submitted, how long it waited and ran, on how many processors, how many it asked
-- for, for how long, and how it ended. A part of a job needs nothing but its status: when it was submitted may stand with the first alone.
unfoldable pub swf_account : List (List ℕ) → Result Account Cause
swf_account words = do
  whole ← refused (not (length words == 18)) (Unreadable (min (length words) 18 + 1))
  job ← refused (is_part (count_in (word_at words 10))) Step
  number ← needed 1 (word_at words 0)
  submit ← needed 2 (word_at words 1)
  wait ← amount 3 (word_at words 2)
  ran ← amount 4 (word_at words 3)
  given ← amount 5 (word_at words 4)
  asked ← amount 8 (word_at words 7)
  limit ← amount 9 (word_at words 8)
  status ← amount 11 (word_at words 10)
  width ← width_of asked given
  Ok (account_of (record { submit = submit; nodes = None; processors = Some width; limit = limit; ran = ran; wait = wait; cancelled = is_known_as 5 status }))

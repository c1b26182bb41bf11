-- The seconds of a limit.
use Rattle.std.specs.Prelude.{ℕ, ◌+◌, ◌*◌, ◌==◌, ◌&&◌, ◌||◌, Bool, List, length, slice_index, take, drop, nat_lt, Option, Some, None, option_map, ok_or, Result, Ok, if◌then◌else◌, bytes_eq, codes, position}
use Rattle.tetri_base.specs.OptionSteps.{◌>>=◌}
use Rattle.tetri_io.specs.Numbers.{digits_below}
use Rattle.tetri_logs.specs.Times.{part}
use Rattle.tetri_logs.specs.declared.entry.Cause.{Cause}
use Rattle.tetri_logs.specs.declared.entry.Cause.TheVariants.{Unreadable}

-- whether the marks of 01:30:00 stand where they belong
abbrev pub has_clock_marks : List ℕ → Bool
has_clock_marks text = length text == 8 && slice_index text 2 == 58 && slice_index text 5 == 58

-- the seconds of so many days and a time of a day, if it is one
abbrev pub seconds_from : ℕ → ℕ → ℕ → ℕ → Option ℕ
seconds_from days hours minutes seconds =
    if nat_lt hours 24 && nat_lt minutes 60 && nat_lt seconds 60 then Some (((days * 24 + hours) * 60 + minutes) * 60 + seconds) else None

unfoldable pub clock_seconds : ℕ → List ℕ → Option ℕ
clock_seconds days text = do
  hours ← part text 0 2
  minutes ← part text 3 5
  seconds ← part text 6 8
  seconds_from days hours minutes seconds

abbrev pub clock_from : ℕ → List ℕ → Option ℕ
clock_from days text = if has_clock_marks text then clock_seconds days text else None

-- the seconds of a time as 01:30:00, or as 2-01:30:00 with days before it
abbrev pub clock_by : Option ℕ → List ℕ → Option ℕ
clock_by None text = clock_from 0 text
clock_by (Some i) text = digits_below 49000 (take i text) >>= λ days. clock_from days (drop (i + 1) text)

abbrev pub clock_in : List ℕ → Option ℕ
clock_in text = clock_by (position (λ b. b == 45) text) text

-- the seconds of so many minutes
abbrev pub minutes_in : List ℕ → Option ℕ
minutes_in text = option_map (λ minutes. minutes * 60) (digits_below 67108864 text)

abbrev pub is_unlimited : List ℕ → Bool
is_unlimited text = bytes_eq text (codes "UNLIMITED") || bytes_eq text (codes "Partition_Limit") || length text == 0

-- the seconds of a limit in a column, where it is known
abbrev pub limit_in : Bool → ℕ → List ℕ → Result (Option ℕ) Cause
limit_in in_minutes column text = if is_unlimited text then Ok None else ok_or (option_map Some (if in_minutes then minutes_in text else clock_in text)) (Unreadable column)

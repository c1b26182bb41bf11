-- The moment that a text is.
use Rattle.std.specs.Prelude.{◌≡◌, ℕ, ◌+◌, ◌-◌, ◌*◌, ◌<◌, ◌==◌, ◌&&◌, ◌^◌, Bool, List, length, slice_index, slice_range, nat_lt, Option, Some, None, if◌then◌else◌}
use Rattle.std.specs.Char.{is_ascii_digit}
use Rattle.tetri_base.specs.OptionSteps.{◌>>=◌}
use Rattle.tetri_io.specs.Numbers.{digits_below}
use Rattle.tetri_logs.specs.Calendar.{is_date, seconds_of}
use Rattle.tetri_logs.specs.declared.calendar.Date.{Date}
use Rattle.tetri_logs.specs.declared.times.Day.{Day}

-- the number that the digits of a part of a text are
abbrev pub part : List ℕ → ℕ → ℕ → Option ℕ
part text from to = digits_below 10000 (slice_range text from to)

-- whether the marks of 2024-05-01T12:34:56 stand where they belong
abbrev pub has_marks : List ℕ → Bool
has_marks text =
    length text == 19 && slice_index text 4 == 45 && slice_index text 7 == 45 && slice_index text 10 == 84 && slice_index text 13 == 58 && slice_index text 16 == 58

unfoldable pub date_in : List ℕ → Option Date
date_in text = do
  year ← part text 0 4
  month ← part text 5 7
  day ← part text 8 10
  hour ← part text 11 13
  minute ← part text 14 16
  second ← part text 17 19
  Some (record { year = year; month = month; day = day; hour = hour; minute = minute; second = second })

-- seconds, if there are less than 2^32
abbrev pub small : ℕ → Option ℕ
small seconds = if nat_lt seconds (2 ^ 32) then Some seconds else None

-- the seconds from 1970 to a date, if there are less than 2^32
abbrev pub date_seconds : Date → Option ℕ
date_seconds d = if is_date d then small (seconds_of d) else None

abbrev pub seconds_in : List ℕ → Option ℕ
seconds_in text = if has_marks text then date_in text >>= date_seconds else None

-- what a byte is as a digit, or 100
abbrev pub digit_or_100 : ℕ → ℕ
digit_or_100 b = if is_ascii_digit b then b - 48 else 100

-- a number, if it has no more than two digits
abbrev pub below_100 : ℕ → Option ℕ
below_100 n = if nat_lt n 100 then Some n else None

-- the seconds from 1970 to the beginning of a day, if there is such a day
abbrev pub midnight : ℕ → ℕ → ℕ → Option ℕ
midnight year month day =
    let date : Date = record { year = year; month = month; day = day; hour = 0; minute = 0; second = 0 } in if is_date date then Some (seconds_of date) else None

-- the same of a text that is a day, as 2024-05-01
unfoldable pub day_start : List ℕ → Option ℕ
day_start text = do
  year ← part text 0 4
  month ← part text 5 7
  day ← part text 8 10
  midnight year month day

-- the seconds from 1970 to a time of the day that begins after so many, if there is such a time and there are less than 2^32
abbrev pub on_clock : ℕ → ℕ → ℕ → ℕ → Option ℕ
on_clock start hour minute second = if nat_lt hour 24 && nat_lt minute 60 && nat_lt second 60 then small (start + ((hour * 60 + minute) * 60 + second)) else None

-- the same of the time in a text that is a moment
unfoldable pub on_day : ℕ → List ℕ → Option ℕ
on_day start text = do
  hour ← part text 11 13
  minute ← part text 14 16
  second ← part text 17 19
  on_clock start hour minute second

-- the text is a day, which begins after so many seconds, or it has not as many bytes as one
abbrev pub IsDay : Day → Type 0
IsDay d = (length d.text.now ≡ 10 → day_start d.text.now ≡ Some d.start) × (d.start < 2 ^ 40)

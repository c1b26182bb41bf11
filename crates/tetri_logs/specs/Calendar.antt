-- The seconds of a date, by the calendar in which a year that 4 divides has a day more, but for those that 100 and not 400 divides.
use Rattle.std.specs.Prelude.{ℕ, ◌+◌, ◌-◌, ◌*◌, ◌/◌, ◌%◌, ◌==◌, ◌&&◌, ◌||◌, Bool, not, nat_le, nat_lt, slice_index, if◌then◌else◌}
use Rattle.tetri_logs.specs.declared.calendar.Date.{Date}
use Rattle.tetri_logs.specs.declared.calendar.TheConstants.{BEFORE, BEFORE_1970}

abbrev pub is_leap : ℕ → Bool
is_leap year = (year % 4 == 0 && not (year % 100 == 0)) || year % 400 == 0

abbrev pub month_length : ℕ → ℕ → ℕ
month_length year month =
    if month == 2 then (if is_leap year then 29 else 28) else (if month == 4 || month == 6 || month == 9 || month == 11 then 30 else 31)

abbrev pub is_day : Date → Bool
is_day d = nat_le 1970 d.year && nat_le d.year 9999 && nat_le 1 d.month && nat_le d.month 12 && nat_le 1 d.day && nat_le d.day (month_length d.year d.month)

abbrev pub is_time : Date → Bool
is_time d = nat_lt d.hour 24 && nat_lt d.minute 60 && nat_lt d.second 60

abbrev pub is_date : Date → Bool
is_date d = is_day d && is_time d

-- how many leap years there are up to a year
abbrev pub leaps : ℕ → ℕ
leaps year = year / 4 + year / 400 - year / 100

-- the days from the year 0 to a year
abbrev pub days_before_year : ℕ → ℕ
days_before_year year = 365 * year + leaps (year - 1)

-- the days of a year before a month
abbrev pub days_before_month : ℕ → ℕ → ℕ
days_before_month year month = if is_leap year && nat_lt 2 month then slice_index BEFORE (month - 1) + 1 else slice_index BEFORE (month - 1)

-- the seconds from 1970 to a date
abbrev pub seconds_of : Date → ℕ
seconds_of d = let hours = (days_before_year d.year + days_before_month d.year d.month + d.day - 1 - BEFORE_1970) * 24 + d.hour in (hours * 60 + d.minute) * 60 + d.second

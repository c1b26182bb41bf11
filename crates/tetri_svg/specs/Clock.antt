-- Clock times of slots, in UTC.
use Rattle.std.specs.Prelude.{ℕ, ◌+◌, ◌-◌, ◌*◌, ◌/◌, ◌%◌, nat_le, nat_lt, if◌then◌else◌}
use Rattle.tetri_svg.specs.declared.clock.Clock.{Clock}
use Rattle.tetri_svg.specs.declared.clock.Date.{Date}

-- the seconds since 1970 as a slot begins
abbrev pub time_of : Clock → ℕ → ℕ
time_of c slot = c.epoch + slot * c.slot_seconds

-- the day since 1970, and the minute of the day
abbrev pub day_of : ℕ → ℕ
day_of time = time / 86400

abbrev pub minute_of : ℕ → ℕ
minute_of time = time % 86400 / 60

-- Days from the first of March of the year 0 on, by eras of 400 years, which have 146,097 days: the era of a day, and the day of its era.
abbrev pub era_of : ℕ → ℕ
era_of day = (day + 719468) / 146097

abbrev pub era_day : ℕ → ℕ
era_day day = (day + 719468) % 146097

-- the year of the era, which begins in March, of a day of it
abbrev pub era_year : ℕ → ℕ
era_year day = (day - day / 1460 + day / 36524 - day / 146096) / 365

-- the day of that year
abbrev pub year_day : ℕ → ℕ
year_day day = day - (era_year day * 365 + era_year day / 4 - era_year day / 100)

-- the month of that year, of which March is 0, of a day of it
abbrev pub march_month : ℕ → ℕ
march_month day = (day * 5 + 2) / 153

-- the month of the calendar
abbrev pub month_of : ℕ → ℕ
month_of month = if nat_lt month 10 then month + 3 else month - 9

-- the day of the month, of a day of the year that begins in March
abbrev pub month_day : ℕ → ℕ
month_day day = day - (march_month day * 153 + 2) / 5 + 1

-- the year of the calendar, of a year that begins in March and a month of the calendar
abbrev pub year_of : ℕ → ℕ → ℕ
year_of year month = if nat_le month 2 then year + 1 else year

-- the date of a day since 1970, by the Gregorian calendar
abbrev pub date_of : ℕ → Date
date_of day = record {
  year = year_of (era_of day * 400 + era_year (era_day day)) (month_of (march_month (year_day (era_day day))));
  month = month_of (march_month (year_day (era_day day)));
  day = month_day (year_day (era_day day));
}

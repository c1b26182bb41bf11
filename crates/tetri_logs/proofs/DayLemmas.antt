-- A moment by its day and its time.
use Rattle.std.proofs.Common.{◌≡◌, ℕ, ◌+◌, ◌*◌, ◌-◌, ◌≤◌, Bool, true, false, List, take, drop, length, Option, Some, None, cond, refl, sym, ap, ◌++◌, ap₂, ◌∙◌, arith}
use Rattle.std.specs.Prelude.{◌==◌, ◌&&◌, bytes_eq, codes, nat_lt}
use Rattle.std.specs.List.{slice_range}
use Rattle.std.proofs.lemmas.Bool.Decides.{nat_tests}
use Rattle.std.proofs.lemmas.Bool.{and_parts, le-ltb, ltb-false}
use Rattle.std.proofs.lemmas.List.{drop-take, take-append-drop, take_rest}
use Rattle.std.proofs.Math.Seq.{take-take}
use Rattle.std.proofs.lemmas.Slice.Eq.{bytes_eq-Decides}
use Rattle.tetri_base.specs.OptionSteps.{◌>>=◌}
use Rattle.tetri_io.specs.Numbers.{digits_below}
use Rattle.tetri_logs.specs.Calendar.{is_day, is_time, seconds_of, days_before_year, days_before_month}
use Rattle.tetri_logs.specs.declared.calendar.Date.{Date}
use Rattle.tetri_logs.specs.declared.calendar.TheConstants.{BEFORE_1970}
use Rattle.tetri_logs.specs.Sacct.{is_unknown}
use Rattle.tetri_logs.specs.Times.{below_100, date_in, date_seconds, day_start, has_marks, midnight, on_clock, on_day, part, seconds_in, small}

abbrev date_of : ℕ → ℕ → ℕ → ℕ → ℕ → ℕ → Date
date_of year month day hour minute second = record { year = year; month = month; day = day; hour = hour; minute = minute; second = second }

-- the seconds of a date are those to its day and those of its time
clock_apart : (days hour minute second : ℕ) → ((days * 24 + hour) * 60 + minute) * 60 + second ≡ ((days * 24 + 0) * 60 + 0) * 60 + 0 + ((hour * 60 + minute) * 60 + second)
clock_apart days hour minute second = omega arith

seconds_apart : (year month day hour minute second : ℕ)
    → seconds_of (date_of year month day hour minute second) ≡ seconds_of (date_of year month day 0 0 0) + ((hour * 60 + minute) * 60 + second)
seconds_apart year month day hour minute second = clock_apart (days_before_year year + days_before_month year month + day - 1 - BEFORE_1970) hour minute second

by_tests : (is_day is_time : Bool) (start all clock : ℕ) → all ≡ start + clock
    → cond (is_day && is_time) (small all) None ≡ (cond (is_day && true) (Some start) None >>= λ n. cond is_time (small (n + clock)) None)
by_tests true true start all clock e = ap small e
by_tests true false start all clock e = refl
by_tests false time start all clock e = refl

date_apart : (year month day hour minute second : ℕ)
    → date_seconds (date_of year month day hour minute second) ≡ (midnight year month day >>= λ start. on_clock start hour minute second)
date_apart year month day hour minute second =
    let d = date_of year month day hour minute second in
    by_tests (is_day d) (is_time d) (seconds_of (date_of year month day 0 0 0)) (seconds_of d) ((hour * 60 + minute) * 60 + second) (seconds_apart year month day hour minute second)

-- where there is no time, there is no moment
no_time : (o : Option ℕ) → ◌≡◌ {A = Option ℕ} None (o >>= λ start. None)
no_time None = refl
no_time (Some start) = refl

by_parts : (year month day hour minute second : Option ℕ)
    → ((do y ← year; mo ← month; d ← day; h ← hour; mi ← minute; s ← second; Some (date_of y mo d h mi s)) >>= date_seconds)
    ≡ ((do y ← year; mo ← month; d ← day; midnight y mo d) >>= λ start. (do h ← hour; mi ← minute; s ← second; on_clock start h mi s))
by_parts None month day hour minute second = refl
by_parts (Some y) None day hour minute second = refl
by_parts (Some y) (Some mo) None hour minute second = refl
by_parts (Some y) (Some mo) (Some d) None minute second = no_time (midnight y mo d)
by_parts (Some y) (Some mo) (Some d) (Some h) None second = no_time (midnight y mo d)
by_parts (Some y) (Some mo) (Some d) (Some h) (Some mi) None = no_time (midnight y mo d)
by_parts (Some y) (Some mo) (Some d) (Some h) (Some mi) (Some s) = date_apart y mo d h mi s

-- what stands in the first bytes of a text stands in the text
part_before : (xs : List ℕ) (from count more : ℕ) → count ≤ more → slice_range (take (from + more) xs) from (from + count) ≡ slice_range xs from (from + count)
part_before xs from count more few =
    let long : from + count - from ≡ count = omega arith in
    ap (λ n. take n (drop from (take (from + more) xs))) long
    ∙ ap (take count) (drop-take from more xs)
    ∙ take-take count more (drop from xs) few
    ∙ ap (λ n. take n (drop from xs)) (sym long)

day_before : (xs : List ℕ) → day_start (take 10 xs) ≡ (do y ← part xs 0 4; mo ← part xs 5 7; d ← part xs 8 10; midnight y mo d)
unfolding day_start
day_before xs =
    let digits = digits_below 10000 in
    let by : List ℕ → List ℕ → List ℕ → Option ℕ = λ a b c. (do y ← digits a; mo ← digits b; d ← digits c; midnight y mo d) in
    ap (λ a. by a (slice_range (take 10 xs) 5 7) (slice_range (take 10 xs) 8 10)) (part_before xs 0 4 10 (omega arith))
    ∙ ap (λ b. by (slice_range xs 0 4) b (slice_range (take 10 xs) 8 10)) (part_before xs 5 2 5 (omega arith))
    ∙ ap (λ c. by (slice_range xs 0 4) (slice_range xs 5 7) c) (part_before xs 8 2 2 (omega arith))

-- the seconds to a moment, by its day
pub by_day : (xs : List ℕ) → has_marks xs ≡ true → seconds_in xs ≡ (day_start (take 10 xs) >>= λ start. on_day start xs)
unfolding on_day date_in
by_day xs marks =
    ap (λ b. cond b (date_in xs >>= date_seconds) None) marks
    ∙ by_parts (part xs 0 4) (part xs 5 7) (part xs 8 10) (part xs 11 13) (part xs 14 16) (part xs 17 19)
    ∙ sym (ap (λ o. o >>= λ start. on_day start xs) (day_before xs))

-- the seconds to a time of a day, where a number is none if it has more than two digits
abbrev timed : ℕ → Option ℕ → Option ℕ → Option ℕ → Option ℕ
timed start hour minute second = do h ← hour; mi ← minute; s ← second; on_clock start h mi s

no_minute : (hour second : Bool) (o : Option ℕ) → cond (hour && false && second) o None ≡ None
no_minute true second o = refl
no_minute false second o = refl

no_second : (hour minute : Bool) (o : Option ℕ) → cond (hour && minute && false) o None ≡ None
no_second true true o = refl
no_second true false o = refl
no_second false minute o = refl

clock_below : (start hour minute second : ℕ) (h mi s : Bool) → nat_lt hour 100 ≡ h → nat_lt minute 100 ≡ mi → nat_lt second 100 ≡ s
    → on_clock start hour minute second ≡ timed start (below_100 hour) (below_100 minute) (below_100 second)
clock_below start hour minute second true true true a b c = rw (a, b, c) refl
clock_below start hour minute second true true false a b c =
    let late : nat_lt second 60 ≡ false = le-ltb second 60 (omega (arith, ltb-false second 100 c)) in
    rw (a, b, c, late) (no_second (nat_lt hour 24) (nat_lt minute 60) _)
clock_below start hour minute second true false s a b c =
    let late : nat_lt minute 60 ≡ false = le-ltb minute 60 (omega (arith, ltb-false minute 100 b)) in
    rw (a, b, late) (no_minute (nat_lt hour 24) (nat_lt second 60) _)
clock_below start hour minute second false mi s a b c =
    let late : nat_lt hour 24 ≡ false = le-ltb hour 24 (omega (arith, ltb-false hour 100 a)) in
    rw (a, late) refl

pub by_clock : (start hour minute second : ℕ) (xs : List ℕ) → below_100 hour ≡ part xs 11 13 → below_100 minute ≡ part xs 14 16 → below_100 second ≡ part xs 17 19
    → on_clock start hour minute second ≡ on_day start xs
unfolding on_day
by_clock start hour minute second xs a b c =
    clock_below start hour minute second (nat_lt hour 100) (nat_lt minute 100) (nat_lt second 100) refl refl refl
    ∙ ap (λ o. timed start o (below_100 minute) (below_100 second)) a
    ∙ ap (λ o. timed start (part xs 11 13) o (below_100 second)) b
    ∙ ap (timed start (part xs 11 13) (part xs 14 16)) c

-- ten bytes by the first eight and the last two
whole : (xs : List ℕ) → length xs ≡ 10 → take 8 xs ++ slice_range xs 8 10 ≡ xs
whole xs ten =
    let rest : slice_range xs 8 10 ≡ drop 8 xs = ap (λ n. take (n - 8) (drop 8 xs)) (sym ten) ∙ take_rest xs 8 in
    ap (λ ys. take 8 xs ++ ys) rest ∙ take-append-drop 8 xs

pub same_by_parts : (xs ys : List ℕ) → length xs ≡ 10 → length ys ≡ 10 → take 8 xs ≡ take 8 ys → slice_range xs 8 10 ≡ slice_range ys 8 10 → xs ≡ ys
same_by_parts xs ys one other front back = sym (whole xs one) ∙ ap₂ (λ a b. a ++ b) front back ∙ whole ys other

-- a moment has 19 bytes
pub has_length : (xs : List ℕ) → has_marks xs ≡ true → length xs ≡ 19
has_length xs marks = let front : (length xs == 19) ≡ true = (and_parts _ _ (and_parts _ _ (and_parts _ _ (and_parts _ _ (and_parts _ _ marks).0).0).0).0).0 in grind (arith, nat_tests)

-- what stands for no moment is none
other_text : (xs ys : List ℕ) (b : Bool) → bytes_eq xs ys ≡ b → (length xs ≡ length ys → ⊥) → bytes_eq xs ys ≡ false
other_text xs ys true e apart = absurd (apart (ap length ((bytes_eq-Decides xs ys).0 e)))
other_text xs ys false e apart = e

known : (xs : List ℕ) → length xs ≡ 19 → is_unknown xs ≡ false
known xs long =
    let unknown = other_text xs (codes "Unknown") (bytes_eq xs (codes "Unknown")) refl (λ same. let seven : length xs ≡ 7 = same in omega arith) in
    let none = other_text xs (codes "None") (bytes_eq xs (codes "None")) refl (λ same. let four : length xs ≡ 4 = same in omega arith) in
    rw (unknown, none, long) refl

by_marks : (xs : List ℕ) (n : ℕ) (marks : Bool) → has_marks xs ≡ marks → seconds_in xs ≡ Some n → is_unknown xs ≡ false
by_marks xs n true marks is = known xs (has_length xs marks)
by_marks xs n false marks is = let none : ◌≡◌ {A = Option ℕ} None (Some n) = sym (ap (λ b. cond b (date_in xs >>= date_seconds) None) marks) ∙ is in cc

pub known_moment : (xs : List ℕ) (n : ℕ) → seconds_in xs ≡ Some n → is_unknown xs ≡ false
known_moment xs n is = by_marks xs n (has_marks xs) refl is

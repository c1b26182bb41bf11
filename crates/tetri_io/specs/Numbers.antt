-- Whole numbers as text.
use Rattle.std.specs.Prelude.{ℕ, ◌&&◌, ◌==◌, Bool, List, Option, Some, None, if◌then◌else◌, length, nat_le, nat_lt, bytes_eq, decimal, slice_index}
use Rattle.std.specs.Char.{is_ascii_digit}
use Rattle.std.specs.List.{list_all}
use Rattle.std.specs.Str.Parse.{digits_value}

-- the number below a limit whose decimal digits these bytes are, without a sign or a leading zero
unfoldable pub number_below : ℕ → List ℕ → Option ℕ
number_below limit bytes = if bytes_eq (decimal (digits_value 10 bytes)) bytes && nat_lt (digits_value 10 bytes) limit then Some (digits_value 10 bytes) else None

-- more than one byte, and the first is the digit 0
abbrev pub has_leading_zero : List ℕ → Bool
has_leading_zero bytes = nat_lt 1 (length bytes) && (slice_index bytes 0 == 48)

-- 1 to 10 decimal digits
abbrev pub are_digits : List ℕ → Bool
are_digits bytes = nat_le 1 (length bytes) && nat_le (length bytes) 10 && list_all is_ascii_digit bytes

-- the number below a limit that 1 to 10 decimal digits are, leading zeros among them
abbrev pub digits_below : ℕ → List ℕ → Option ℕ
digits_below limit bytes = if are_digits bytes && nat_lt (digits_value 10 bytes) limit then Some (digits_value 10 bytes) else None

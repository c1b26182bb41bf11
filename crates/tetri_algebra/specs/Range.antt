-- The range of whole numbers that the code works with.
use Rattle.std.specs.Prelude.{◌^◌, ◌<◌, Bool, List, [], ◌∷◌, nat_lt, unsigned_abs}
use lib.IntN.{ℤ}

-- from -(2^127 - 1) to 2^127 - 1
abbrev pub IsWithin : ℤ → Type 0
IsWithin z = unsigned_abs z < 2 ^ 127

-- each of the numbers is in the range
abbrev pub AreWithin : List ℤ → Type 0
AreWithin [] = Unit {0}
AreWithin (z ∷ zs) = IsWithin z × AreWithin zs

-- whether a number is in the range
abbrev pub is_within : ℤ → Bool
is_within z = nat_lt (unsigned_abs z) (2 ^ 127)

-- The greatest common divisor and the least common multiple of natural numbers.
use Rattle.std.specs.Prelude.{ℕ, ◌*◌, ◌/◌, ◌%◌, cond, ◌==◌}
use Prim.Native.Nat.{zero, suc, ◌∣◌}

-- Euclid's algorithm, in fewer steps than the first number
unfoldable pub gcd_within : ℕ → ℕ → ℕ → ℕ
gcd_within zero a b = a
gcd_within (suc k) a b = cond (b == 0) a (gcd_within k b (a % b))

-- the greatest common divisor, 0 for two zeros
unfoldable pub gcd_of : ℕ → ℕ → ℕ
gcd_of a b = gcd_within (suc b) a b

-- a multiple of both that divides each other multiple of both
pub record IsLcm (a b m : ℕ) : Type 0 where
  pub left : a ∣ m
  pub right : b ∣ m
  pub least : (n : ℕ) → a ∣ n → b ∣ n → m ∣ n

-- the least common multiple
abbrev pub lcm_of : ℕ → ℕ → ℕ
lcm_of a b = (a / gcd_of a b) * b

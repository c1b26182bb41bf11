-- Whole numbers with their own signs, or all with the other.
use Rattle.std.specs.Prelude.{Bool, cond, List, map}
use lib.IntN.{ℤ, neg_ℤ}

abbrev pub signed_numbers : Bool → List ℤ → List ℤ
signed_numbers other ns = map (λ n. cond other (neg_ℤ n) n) ns

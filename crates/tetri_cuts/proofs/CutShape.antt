-- The terms of a cut: ascending by column, in the program, and in range.
use Rattle.std.proofs.Common.{◌≡◌, ℕ, ◌+◌, ◌/◌, ◌<◌, ◌≤◌, ◌==◌, arith, All, List, [], ◌∷◌, length, Bool, true, false, cond}
use Prim.Native.Nat.{zero, suc}
use Rattle.std.specs.Prelude.{◌≤ℤ◌, unsigned_abs}
use Rattle.std.specs.Int.{int_div_euclid}
use Rattle.std.proofs.lemmas.Int.{ints}
use Rattle.std.proofs.lemmas.List.Elements.{All-head, All-tail}
use lib.IntN.{ℤ, pos, negsuc}
use Rattle.tetri_ip.specs.declared.programs.Term.{Term}
use Rattle.tetri_ip.specs.Points.{column_at, term_at}
use Rattle.tetri_algebra.specs.Range.{IsWithin}
use Rattle.tetri_cuts.specs.Cuts.{quotients}

-- a quotient by a natural number above 0 is no more than what is divided
quotient_le : (a b : ℕ) → 1 ≤ b → a / b ≤ a
quotient_le a b h = omega arith

pub div_within : (s q : ℤ) → pos 1 ≤ℤ q → IsWithin s → IsWithin (int_div_euclid s q)
div_within s (negsuc q) h k = absurd (omega (arith, ints))
div_within (pos s) (pos q) h k = let l : 1 ≤ q = omega (arith, ints) in omega (arith, k, quotient_le s q l)
div_within (negsuc s) (pos q) h k = let l : 1 ≤ q = omega (arith, ints) in omega (arith, k, quotient_le s q l)

-- terms of columns from j on and before e, ascending, each in range
pub record AreTerms (j e : ℕ) (ts : List Term) : Type 0 where
  pub from : (k : ℕ) → k < length ts → j ≤ column_at ts k
  pub before : (k : ℕ) → k < length ts → column_at ts k < e
  pub ascending : (k m : ℕ) → k < m → m < length ts → column_at ts k < column_at ts m
  pub numbers : (k : ℕ) → k < length ts → IsWithin (term_at ts k).by

later : (j e : ℕ) (ts : List Term) → AreTerms (j + 1) e ts → AreTerms j e ts
later j e ts h = record { from = λ k lt. omega (arith, h.from k lt); before = h.before; ascending = h.ascending; numbers = h.numbers }

one_more : (j e : ℕ) (by : ℤ) (ts : List Term) → j < e → IsWithin by → AreTerms (j + 1) e ts → AreTerms j e (record { column = j; by = by } ∷ ts)
one_more j e by ts lt within h = record { from = low; before = high; ascending = up; numbers = sized }
  where
    low : (k : ℕ) → k < suc (length ts) → j ≤ column_at (record { column = j; by = by } ∷ ts) k
    low zero le = omega arith
    low (suc k) le = omega (arith, h.from k (omega (arith, le)))

    high : (k : ℕ) → k < suc (length ts) → column_at (record { column = j; by = by } ∷ ts) k < e
    high zero le = lt
    high (suc k) le = h.before k (omega (arith, le))

    up : (k m : ℕ) → k < m → m < suc (length ts) → column_at (record { column = j; by = by } ∷ ts) k < column_at (record { column = j; by = by } ∷ ts) m
    up k zero less le = absurd (omega (arith, less))
    up zero (suc m) less le = omega (arith, h.from m (omega (arith, le)))
    up (suc k) (suc m) less le = h.ascending k m (omega (arith, less)) (omega (arith, le))

    sized : (k : ℕ) → k < suc (length ts) → IsWithin (term_at (record { column = j; by = by } ∷ ts) k).by
    sized zero le = within
    sized (suc k) le = h.numbers k (omega (arith, le))

pub quotients_are : (q : ℤ) (j e : ℕ) (ss : List ℤ) → pos 1 ≤ℤ q → j + length ss ≡ e → All IsWithin ss → AreTerms j e (quotients q j ss)
quotients_are q j e [] h is all = record {
  from = λ k lt. absurd (omega (arith, lt));
  before = λ k lt. absurd (omega (arith, lt));
  ascending = λ k m lt gt. absurd (omega (arith, gt));
  numbers = λ k lt. absurd (omega (arith, lt));
}
quotients_are q j e (s ∷ ss) h is all =
    by_test (quotients_are q (j + 1) e ss h (omega (arith, is)) (All-tail IsWithin s ss all)) (unsigned_abs (int_div_euclid s q) == 0)
  where
    by_test : AreTerms (j + 1) e (quotients q (j + 1) ss) → (t : Bool) → AreTerms j e (cond t (quotients q (j + 1) ss) (record { column = j; by = int_div_euclid s q } ∷ quotients q (j + 1) ss))
    by_test rest true = later j e (quotients q (j + 1) ss) rest
    by_test rest false = one_more j e (int_div_euclid s q) (quotients q (j + 1) ss) (omega (arith, is)) (div_within s q h (All-head IsWithin s ss all)) rest

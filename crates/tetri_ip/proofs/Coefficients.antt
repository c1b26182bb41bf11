-- A row's coefficient at a column, by the place of its term.
use Rattle.std.proofs.Common.{◌≡◌, ℕ, ◌<◌, ◌≤◌, ◌⊎◌, inl, inr, refl, ap, ◌∙◌, arith, List, [], ◌∷◌, length, cond, Bool, true, false, eqb}
use Prim.Native.Nat.{zero, suc}
use Rattle.std.proofs.lemmas.Bool.{cases_lt, eqb-true, eq-eqb}
use Rattle.std.proofs.lemmas.Int.{ints}
use lib.IntN.{ℤ, pos, ◌+ℤ◌}
use Rattle.tetri_algebra.specs.IntegerRing.{ℤ_ring}
use Rattle.tetri_algebra.specs.Sums.{unit_at}
use Rattle.tetri_ip.specs.declared.programs.Term.{Term}
use Rattle.tetri_ip.specs.Points.{coefficient, column_at, term_at}

pub unit_other : (c : ℕ) (b : ℤ) (j : ℕ) → (c ≡ j → ⊥) → unit_at ℤ_ring c b j ≡ pos 0
unit_other c b j n = by_test (eqb c j) refl
  where
    by_test : (t : Bool) → eqb c j ≡ t → cond t b (pos 0) ≡ pos 0
    by_test true e = absurd (n (eqb-true c j e))
    by_test false e = refl

pub unit_same : (c : ℕ) (b : ℤ) (j : ℕ) → c ≡ j → unit_at ℤ_ring c b j ≡ b
unit_same c b j e = ap (λ t. cond t b (pos 0)) (eq-eqb c j e)

-- terms that ascend by column
abbrev pub TermsAscend : List Term → Type 0
TermsAscend ts = (k m : ℕ) → k < m → m < length ts → column_at ts k < column_at ts m

-- a column that no term names has the coefficient 0
pub coefficient_absent : (ts : List Term) (j : ℕ) → ((k : ℕ) → k < length ts → column_at ts k ≡ j → ⊥) → coefficient ts j ≡ pos 0
coefficient_absent [] j h = refl
coefficient_absent (t ∷ ts) j h =
    ap (λ z. z +ℤ coefficient ts j) (unit_other t.column t.by j (h 0 (omega arith)))
    ∙ ap (λ z. pos 0 +ℤ z) (coefficient_absent ts j (λ k l. h (suc k) (omega arith)))

-- a column that a term names has its coefficient
pub coefficient_at : (ts : List Term) (j i : ℕ) → TermsAscend ts → i < length ts → column_at ts i ≡ j → coefficient ts j ≡ (term_at ts i).by
coefficient_at [] j i h l e = absurd (omega arith)
coefficient_at (t ∷ ts) j zero h l e =
    ap (λ z. z +ℤ coefficient ts j) (unit_same t.column t.by j e)
    ∙ ap (λ z. t.by +ℤ z) (coefficient_absent ts j (λ k n f. let g = h 0 (suc k) (omega arith) (omega arith) in absurd (omega arith)))
    ∙ plus_zero t.by
  where
    plus_zero : (b : ℤ) → b +ℤ pos 0 ≡ b
    plus_zero b = omega (arith, ints)
coefficient_at (t ∷ ts) j (suc i) h l e =
    ap (λ z. z +ℤ coefficient ts j) (unit_other t.column t.by j (λ f. let g = h 0 (suc i) (omega arith) l in absurd (omega arith)))
    ∙ zero_plus (coefficient ts j)
    ∙ coefficient_at ts j i (λ k m a b. h (suc k) (suc m) (omega arith) (omega arith)) (omega arith) e
  where
    zero_plus : (b : ℤ) → pos 0 +ℤ b ≡ b
    zero_plus b = omega (arith, ints)

-- no term names a column that stands between two neighbours
pub coefficient_between : (ts : List Term) (j low high : ℕ) → high ≤ low → ((k : ℕ) → k < low → column_at ts k < j) → ((k : ℕ) → high ≤ k → k < length ts → j < column_at ts k) → coefficient ts j ≡ pos 0
coefficient_between ts j low high h before after = coefficient_absent ts j (λ k l e. by_side k l e (cases_lt k low))
  where
    by_side : (k : ℕ) → k < length ts → column_at ts k ≡ j → (k < low) ⊎ (low ≤ k) → ⊥
    by_side k l e (inl m) = let g = before k m in absurd (omega arith)
    by_side k l e (inr m) = let n : high ≤ k = omega arith in let g = after k n l in absurd (omega arith)

-- Whole numbers with a sign.
use Rattle.std.proofs.Common.{◌≡◌, ℕ, ◌+◌, ◌<◌, refl, sym, ap, ◌∙◌, subst, arith, List, [], ◌∷◌, length, get_or, map, Bool, true, false, cond, Option, None, Some, IfSome}
use Prim.Native.Nat.{zero, suc}
use Rattle.std.specs.Prelude.{All, unsigned_abs}
use Rattle.std.proofs.lemmas.List.{length-map}
use Rattle.std.proofs.lemmas.Int.{ints}
use mir.Val.{to_z, of_z}
use mir.Syntax.{w64}
use lib.IntN.{ℤ, pos, neg_ℤ}
use Rattle.tetri_algebra.specs.Rational.{ℚ, fraction}
use Rattle.tetri_algebra.specs.RationalRing.{zero_ℚ, neg_ℚ}
use Rattle.tetri_rows.specs.Rows.{meaning}
use Rattle.tetri_rows.specs.Small.{IsShort, IsDenominator}
use Rattle.tetri_rows.proofs.RowLaws.{short_word}
use Rattle.tetri_rows.proofs.RowLaws.{neg_of_fraction}
use Rattle.tetri_dictionary.specs.declared.choices.Candidate.{Candidate}
use Rattle.tetri_dictionary.specs.Candidates.{IsCandidate}
use Rattle.tetri_dictionary.specs.Mirrors.{mirror}
use Rattle.tetri_dictionary.specs.SignedNumbers.{signed_numbers}
use Rattle.tetri_dictionary.specs.Tables.{coefficients_of, is_positive}
use Rattle.tetri_dictionary.specs.WholeRatios.{IsAbove}

pub signed_length : (o : Bool) (ns : List ℤ) → length (signed_numbers o ns) ≡ length ns
signed_length o ns = length-map ns (λ n. cond o (neg_ℤ n) n)

one_sign : (o : Bool) (z : ℤ) → IsShort z → IsShort (cond o (neg_ℤ z) z)
one_sign true z h = omega (arith, ints)
one_sign false z h = h

pub signed_short : (o : Bool) (ns : List ℤ) → All IsShort ns → All IsShort (signed_numbers o ns)
signed_short o [] a q d l = absurd (omega arith)
signed_short o (n ∷ ns) a zero d l = one_sign o n (a 0 (pos 0) (omega arith))
signed_short o (n ∷ ns) a (suc q) d l = signed_short o ns (λ k e m. a (suc k) e (omega arith)) q d (omega arith)

pub signed_same : (ns : List ℤ) → signed_numbers false ns ≡ ns
signed_same [] = refl
signed_same (n ∷ ns) = ap (λ zs. n ∷ zs) (signed_same ns)

-- ---- the width less a row
negated_number : (d : ℕ) (n : ℤ) → 0 < d → neg_ℚ (fraction n d) ≡ fraction (neg_ℤ n) d
negated_number d n h = neg_of_fraction n d h

negated_numbers : (d : ℤ) (ns : List ℤ) → 0 < unsigned_abs d → map neg_ℚ (meaning d ns) ≡ meaning d (signed_numbers true ns)
negated_numbers d [] h = refl
negated_numbers d (n ∷ ns) h = ap (λ z. z ∷ map neg_ℚ (meaning d ns)) (negated_number (unsigned_abs d) n h) ∙ ap (λ zs. fraction (neg_ℤ n) (unsigned_abs d) ∷ zs) (negated_numbers d ns h)

pub mirror_numbers : (w d : ℤ) (ns : List ℤ) → IsDenominator d → coefficients_of (meaning d (signed_numbers true ns)) ≡ coefficients_of (mirror w (meaning d ns))
mirror_numbers w d [] h = refl
mirror_numbers w d (n ∷ ns) h = sym (negated_numbers d ns (omega (arith, ints, h.positive)))

-- ---- a number that the code has read
pub signed_word : (ns : List ℤ) (k : ℕ) (x : ℤ) → All IsShort ns → k < length ns → x ≡ get_or ns k (pos 0) → to_z w64 (of_z w64 x) ≡ get_or ns k (pos 0)
signed_word ns k x h l e = ap (λ z. to_z w64 (of_z w64 z)) e ∙ short_word (get_or ns k (pos 0)) (h k (pos 0) l)

pub above_denominator : (ns : List ℤ) (k : ℕ) (x : ℤ) → All IsShort ns → IsAbove ns k → x ≡ get_or ns (k + 1) (pos 0) → IsDenominator (to_z w64 (of_z w64 x))
above_denominator ns k x h a e =
    subst IsDenominator (sym (signed_word ns (k + 1) x h a.within e)) (record { positive = a.positive; short = h (k + 1) (pos 0) a.within })

coefficient : (xs : List ℚ) (k : ℕ) → get_or xs (suc k) zero_ℚ ≡ get_or (coefficients_of xs) k zero_ℚ
coefficient [] k = refl
coefficient (x ∷ xs) k = refl

-- what a candidate of a row is depends on its coefficients alone
pub candidate_along : (vs : List ℕ) (xs ys : List ℚ) (c : Candidate) → coefficients_of xs ≡ coefficients_of ys → IsCandidate vs xs c → IsCandidate vs ys c
candidate_along vs xs ys c e h = record {
  within = h.within;
  positive = ap is_positive (coefficient ys c.place ∙ sym (ap (λ zs. get_or zs c.place zero_ℚ) e) ∙ sym (coefficient xs c.place)) ∙ h.positive;
}

pub candidates_along : (vs : List ℕ) (xs ys : List ℚ) (o : Option Candidate) → coefficients_of xs ≡ coefficients_of ys → IfSome o (λ c. IsCandidate vs xs c) → IfSome o (λ c. IsCandidate vs ys c)
candidates_along vs xs ys None e h = tt
candidates_along vs xs ys (Some c) e h = candidate_along vs xs ys c e h

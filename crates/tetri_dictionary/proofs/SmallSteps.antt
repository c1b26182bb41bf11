-- Steps of a pivot over small numbers: none is past the range, and the new numbers are the plain values.
use Rattle.std.proofs.Common.{◌≡◌, ℕ, ◌+◌, ◌<◌, refl, sym, ap, ◌∙◌, arith, List, [], ◌∷◌, length, get_or, set, Ok}
use Prim.Native.Nat.{suc}
use Rattle.std.specs.Prelude.{All}
use Rattle.std.proofs.lemmas.List.{length-set}
use Rattle.std.proofs.lemmas.List.Elements.{All-set}
use lib.IntN.{pos, negsuc}
use Rattle.tetri_algebra.specs.Rational.{ℚ, whole_ℚ}
use Rattle.tetri_algebra.specs.RationalRing.{◌+ℚ◌, ◌*ℚ◌, neg_ℚ, zero_ℚ}
use Rattle.tetri_algebra.specs.RationalReciprocal.{◌/ℚ◌}
use Rattle.tetri_num.specs.Checked.{checked_sum}
use Rattle.tetri_num.specs.declared.places.Kind.TheVariants as Kind
use Rattle.tetri_rows.specs.Small.{IsSmall}
use Rattle.tetri_rows.specs.Rows.{plus_multiple, put_in, minus_quotients, solved_for}
use Rattle.tetri_rows.proofs.RowLaws.{product_of_small, sum_of_small, quotient_of_small, negative_of_small, small_whole}
use Rattle.tetri_dictionary.specs.Pivots.{column_of, solved_entry, solved_row, replaced_entry, replaced_row}
use Rattle.tetri_dictionary.specs.Steps.{or_place, each, each_pair}
use Rattle.tetri_base.specs.ResultSteps.{then_ok}

small_zero : IsSmall zero_ℚ
small_zero = small_whole (pos 0) (omega arith)

small_minus_one : IsSmall (whole_ℚ (negsuc 0))
small_minus_one = small_whole (negsuc 0) (omega arith)

-- ---- one entry
entry_formed : (n i k : ℕ) (a x y : ℚ) → IsSmall a → IsSmall x → IsSmall y → replaced_entry n i a k x y ≡ Ok (x +ℚ a *ℚ y)
entry_formed n i k a x y ha hx hy =
    ap (λ o. then_ok (or_place o Kind.Entry i (column_of n k)) (λ z. or_place (checked_sum x z) Kind.Entry i (column_of n k))) (product_of_small a y ha hy)
    ∙ ap (λ o. or_place o Kind.Entry i (column_of n k)) (sum_of_small x a y hx ha hy)

solved_formed : (n i k : ℕ) (a x : ℚ) → IsSmall a → IsSmall x → solved_entry n i a k x ≡ Ok (neg_ℚ x /ℚ a)
solved_formed n i k a x ha hx = ap (λ o. or_place o Kind.Row i (column_of n k)) (quotient_of_small (neg_ℚ x) a (negative_of_small x hx) ha)

-- ---- a row
pairs_formed : (n i k : ℕ) (a : ℚ) (xs ys : List ℚ) → IsSmall a → length ys ≡ length xs → All IsSmall xs → All IsSmall ys → each_pair (replaced_entry n i a) k xs ys ≡ Ok (plus_multiple a xs ys)
pairs_formed n i k a [] [] ha l hx hy = refl
pairs_formed n i k a [] (y ∷ ys) ha l hx hy = absurd (omega arith)
pairs_formed n i k a (x ∷ xs) [] ha l hx hy = absurd (omega arith)
pairs_formed n i k a (x ∷ xs) (y ∷ ys) ha l hx hy =
    ap (λ o. then_ok o (λ w. then_ok (each_pair (replaced_entry n i a) (k + 1) xs ys) (λ ws. Ok (w ∷ ws)))) (entry_formed n i k a x y ha (hx 0 zero_ℚ (omega arith)) (hy 0 zero_ℚ (omega arith)))
    ∙ ap (λ o. then_ok o (λ ws. Ok ((x +ℚ a *ℚ y) ∷ ws))) (pairs_formed n i (k + 1) a xs ys ha (omega arith) (λ q d m. hx (suc q) d (omega arith)) (λ q d m. hy (suc q) d (omega arith)))

pub replaced_small : (n i j : ℕ) (xs ys : List ℚ) → suc j < length xs → length ys ≡ length xs → All IsSmall xs → All IsSmall ys → replaced_row n i j ys xs ≡ Ok (put_in (suc j) ys xs)
replaced_small n i j xs ys l e hx hy =
    pairs_formed n i 0 (get_or xs (suc j) zero_ℚ) (set xs (suc j) zero_ℚ) ys (hx (suc j) zero_ℚ l) (e ∙ sym (length-set xs (suc j) zero_ℚ)) (All-set IsSmall xs (suc j) zero_ℚ small_zero hx) hy

each_formed : (n i k : ℕ) (a : ℚ) (xs : List ℚ) → IsSmall a → All IsSmall xs → each (solved_entry n i a) k xs ≡ Ok (minus_quotients a xs)
each_formed n i k a [] ha hx = refl
each_formed n i k a (x ∷ xs) ha hx =
    ap (λ o. then_ok o (λ w. then_ok (each (solved_entry n i a) (k + 1) xs) (λ ws. Ok (w ∷ ws)))) (solved_formed n i k a x ha (hx 0 zero_ℚ (omega arith)))
    ∙ ap (λ o. then_ok o (λ ws. Ok ((neg_ℚ x /ℚ a) ∷ ws))) (each_formed n i (k + 1) a xs ha (λ q d m. hx (suc q) d (omega arith)))

pub solved_small : (n i j : ℕ) (xs : List ℚ) → suc j < length xs → All IsSmall xs → solved_row n i j xs ≡ Ok (solved_for (suc j) xs)
solved_small n i j xs l hx =
    each_formed n i 0 (get_or xs (suc j) zero_ℚ) (set xs (suc j) (whole_ℚ (negsuc 0))) (hx (suc j) zero_ℚ l) (All-set IsSmall xs (suc j) (whole_ℚ (negsuc 0)) small_minus_one hx)

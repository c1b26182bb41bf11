-- A whole row in which a pivot's row is put in means the machine's row.
use Rattle.std.proofs.Common.{◌≡◌, ℕ, ◌<◌, refl, sym, ap, ◌∙◌, arith, List, [], ◌∷◌, ◌++◌, length, get_or, set, map}
use Prim.Native.Nat.{suc}
use Rattle.std.specs.Prelude.{unsigned_abs}
use Rattle.std.proofs.lemmas.List.{map-set, get_or-map, length-set}
use lib.IntN.{ℤ, pos, ◌*ℤ◌}
use Rattle.tetri_algebra.specs.Rational.{fraction}
use Rattle.tetri_algebra.specs.RationalRing.{zero_ℚ}
use Rattle.tetri_algebra.specs.Integers.{abs_of_positive, abs_positive}
use Rattle.tetri_rows.specs.Small.{IsDenominator}
use Rattle.tetri_rows.specs.Rows.{meaning, plus_multiple, put_in, combined_at}
use Rattle.tetri_rows.proofs.Words.{at_word}
use Rattle.tetri_rows.proofs.Meanings.{entry_value, zero_fraction}

-- ---- a row
pub pairs_combined : (f g : ℤ) (d e h : ℕ) (xs ys zs : List ℤ) → 0 < d → 0 < e → 0 < h → pos h *ℤ g ≡ pos d *ℤ pos e → length ys ≡ length xs → length zs ≡ length xs →
    ((q : ℕ) → q < length xs → get_or zs q (pos 0) *ℤ g ≡ combined_at (pos e) f xs ys q) →
    map (λ z. fraction z h) zs ≡ plus_multiple (fraction f d) (map (λ z. fraction z d) xs) (map (λ z. fraction z e) ys)
pairs_combined f g d e h [] [] [] pd pe ph he ly lz t = refl
pairs_combined f g d e h [] (y ∷ ys) zs pd pe ph he ly lz t = absurd (omega arith)
pairs_combined f g d e h [] [] (z ∷ zs) pd pe ph he ly lz t = absurd (omega arith)
pairs_combined f g d e h (x ∷ xs) [] zs pd pe ph he ly lz t = absurd (omega arith)
pairs_combined f g d e h (x ∷ xs) (y ∷ ys) [] pd pe ph he ly lz t = absurd (omega arith)
pairs_combined f g d e h (x ∷ xs) (y ∷ ys) (z ∷ zs) pd pe ph he ly lz t =
    ap (λ p. p ∷ map (λ z. fraction z h) zs) (sym (entry_value x f y z g d e h pd pe ph he (t 0 (omega arith))))
    ∙ ap (λ ps. plus_multiple (fraction f d) (map (λ z. fraction z d) (x ∷ [])) (map (λ z. fraction z e) (y ∷ [])) ++ ps) (pairs_combined f g d e h xs ys zs pd pe ph he (omega arith) (omega arith) (λ q l. t (suc q) (omega arith)))

-- the row in which the entering variable's number is f, and stands as 0 while the others are formed
pub row_formed : (j : ℕ) (f g : ℤ) (d e h : ℕ) (xs ys zs : List ℤ) → 0 < d → 0 < e → 0 < h → j < length xs → f ≡ get_or xs j (pos 0) → pos h *ℤ g ≡ pos d *ℤ pos e →
    length ys ≡ length xs → length zs ≡ length xs →
    ((q : ℕ) → q < length xs → get_or zs q (pos 0) *ℤ g ≡ combined_at (pos e) f (set xs j (pos 0)) ys q) →
    map (λ z. fraction z h) zs ≡ put_in j (map (λ z. fraction z e) ys) (map (λ z. fraction z d) xs)
row_formed j f g d e h xs ys zs pd pe ph lj fe he ly lz t =
    let at : get_or (map (λ z. fraction z d) xs) j zero_ℚ ≡ fraction f d = get_or-map (λ z. fraction z d) xs j (pos 0) zero_ℚ lj ∙ ap (λ z. fraction z d) (sym fe) in
    let l : length (set xs j (pos 0)) ≡ length xs = length-set xs j (pos 0) in
    sym (
    ap (λ a. plus_multiple a (set (map (λ z. fraction z d) xs) j zero_ℚ) (map (λ z. fraction z e) ys)) at
    ∙ ap (λ w. plus_multiple (fraction f d) (set (map (λ z. fraction z d) xs) j w) (map (λ z. fraction z e) ys)) (sym (zero_fraction d pd))
    ∙ ap (λ ws. plus_multiple (fraction f d) ws (map (λ z. fraction z e) ys)) (sym (map-set (λ z. fraction z d) xs j (pos 0)))
    ∙ sym (pairs_combined f g d e h (set xs j (pos 0)) ys zs pd pe ph he (ly ∙ sym l) (lz ∙ sym l) (λ q m. t q (omega arith))))

-- the same as the code has it: denominators as whole numbers
pub row_meaning : (j : ℕ) (den pd f g new pd' f' g' : ℤ) (xs ys zs : List ℤ) → IsDenominator den → IsDenominator pd → IsDenominator new → pd' ≡ pd → f' ≡ f → g' ≡ g → f ≡ get_or xs j (pos 0) →
    j < length xs → length ys ≡ length xs → length zs ≡ length xs → new *ℤ g ≡ den *ℤ pd →
    ((q : ℕ) → q < length xs → get_or zs q (pos 0) *ℤ g' ≡ combined_at pd' f' (set xs j (pos 0)) ys q) →
    meaning new zs ≡ put_in j (meaning pd ys) (meaning den xs)
row_meaning j den pd f g new pd' f' g' xs ys zs hd hp hn pe fe ge fx l ly lz e t =
    let ad = abs_of_positive den hd.positive in
    let ap' = abs_of_positive pd hp.positive in
    let an = abs_of_positive new hn.positive in
    row_formed j f g (unsigned_abs den) (unsigned_abs pd) (unsigned_abs new) xs ys zs (abs_positive den hd.positive) (abs_positive pd hp.positive) (abs_positive new hn.positive) l
    fx
    (ap (λ z. z *ℤ g) an ∙ e ∙ ap (λ z. z *ℤ pd) (sym ad) ∙ ap (λ z. pos (unsigned_abs den) *ℤ z) (sym ap'))
    ly lz
    (λ q m. ap (λ z. get_or zs q (pos 0) *ℤ z) (sym ge) ∙ t q m
    ∙ at_word (pos (unsigned_abs pd)) f (set xs j (pos 0)) ys q pd' f' (pe ∙ sym ap') fe)

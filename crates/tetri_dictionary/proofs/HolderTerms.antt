-- The terms of a whole row, and the columns that they name.
use Rattle.std.proofs.Common.{◌≡◌, ◌≢◌, ℕ, ◌+◌, ◌-◌, ◌<◌, refl, sym, ap, ◌∙◌, subst, arith, List, length, get_or, ⊎_elim}
use Prim.Native.Nat.{zero, suc}
use Rattle.std.specs.Global.{Global}
use Rattle.std.specs.Prelude.{Vec}
use Rattle.std.proofs.lemmas.Bool.{cases_eq}
use lib.IntN.{ℤ, pos}
use Rattle.tetri_algebra.specs.RationalRing.{zero_ℚ}
use Rattle.tetri_rows.specs.Terms.{AreTerms, ArePlaces}
use Rattle.tetri_rows.specs.declared.terms.Terms.{Terms}
use Rattle.tetri_dictionary.specs.declared.mixed.MixedRow.{MixedRow}
use Rattle.tetri_dictionary.specs.declared.mixed.MixedRow.TheVariants.{Whole}
use Rattle.tetri_dictionary.specs.Mixed.{mixed_row, IsMixedRow, AreTermsOfRow}
use Rattle.tetri_dictionary.proofs.HolderBits.{before_last}
use Rattle.tetri_dictionary.proofs.MixedRows.{as_whole, whole_zero}

-- one place more that does not name the column
pub also_unlisted : (places : List ℕ) (t p : ℕ) → get_or places t 0 ≢ suc p → ((u : ℕ) → u < t → get_or places u 0 ≢ suc p) → (u : ℕ) → u < t + 1 → get_or places u 0 ≢ suc p
also_unlisted places t p d h u l e = ⊎_elim (λ s. d (ap (λ z. get_or places z 0) (sym s) ∙ e)) (λ o. h u (before_last t u l o) e) (cases_eq u t)

-- the column behind a place that is not the constant's
pub named_column : (place n m : ℕ) → m ≡ n → place ≢ 0 → place < n + 1 → place - 1 < m
named_column place n m e d l = omega (arith, e, above place d, l)
  where
    above : (x : ℕ) → x ≢ 0 → 0 < x
    above zero d = absurd (d refl)
    above (suc x) d = omega arith

pub named_before : (place p : ℕ) → place ≡ suc p → p ≡ place - 1
named_before place p e = omega (arith, e)

terms_of_whole : (r : MixedRow) (den : ℤ) (numbers : Vec ℤ Global) (t : Terms) → r ≡ Whole den numbers → AreTermsOfRow r t → AreTerms t.places.items t.numbers.items numbers.items
terms_of_whole r den numbers t e h = subst (λ (y : MixedRow). AreTermsOfRow y t) e h

pub places_of : (n m : ℕ) (r : MixedRow) (den : ℤ) (numbers : Vec ℤ Global) (t : Terms) → IsMixedRow n r → r ≡ Whole den numbers → AreTermsOfRow r t → m ≡ n → ArePlaces t.places.items (m + 1)
places_of n m r den numbers t h e ht me =
    subst (λ z. ArePlaces t.places.items z) ((as_whole n r den numbers h e).wide ∙ ap (λ z. z + 1) (sym me)) (terms_of_whole r den numbers t e ht).within

-- a column that no term names
pub unlisted_zero : (n : ℕ) (r : MixedRow) (den : ℤ) (numbers : Vec ℤ Global) (t : Terms) (p : ℕ) → IsMixedRow n r → r ≡ Whole den numbers → AreTermsOfRow r t → p < n → ((u : ℕ) → u < length t.places.items → get_or t.places.items u 0 ≢ suc p) → get_or (mixed_row r) (suc p) zero_ℚ ≡ zero_ℚ
unlisted_zero n r den numbers t p h e ht l d =
    let w = as_whole n r den numbers h e in
    let k : suc p < length numbers.items = omega (arith, l, w.wide) in
    ap (λ (y : MixedRow). get_or (mixed_row y) (suc p) zero_ℚ) e
    ∙ whole_zero n den numbers.items (suc p) (get_or numbers.items (suc p) (pos 0)) w (omega (arith, l)) refl ((terms_of_whole r den numbers t e ht).other (suc p) k d)

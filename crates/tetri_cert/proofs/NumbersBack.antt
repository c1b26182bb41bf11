-- Numbers and fractions read back from their texts, and from no others.
use Rattle.std.proofs.Common.{◌≡◌, ℕ, zero, suc, ◌^◌, ◌<◌, ◌≤◌, refl, sym, ap, ◌∙◌, subst, arith, inl, List, [], ◌∷◌, length, take, drop, cond, Bool, true, false, eqb, Option, Some, None, codes, decimal, bytes_eq, lit≤}
use Rattle.std.specs.Prelude.{◌⊎◌, ◌&&◌, ◌≢◌, T, int_lt, unsigned_abs, option_map}
use Rattle.std.specs.Fmt.{signed_decimal}
use Rattle.std.proofs.lemmas.Bool.{false≢true, eq-eqb, lt-ltb}
use Rattle.std.proofs.lemmas.List.Elements.{All-cons}
use Rattle.std.proofs.lemmas.Option.{same_Some}
use lib.IntN.{ℤ, pos, negsuc, neg_ℤ}
use Rattle.tetri_algebra.specs.Gcd.{gcd_of}
use Rattle.tetri_io.specs.Numbers.{number_below}
use Rattle.tetri_io.proofs.TextLaws.{Avoids, IsCodec, bind_some, by_cond, cond_else, decimal_avoids, decimal_short, image_laws, number_below-decimal, number_below-only, number_laws, numeral, other, pair_laws, same_bytes}
use Rattle.tetri_num.specs.Lowest.{IsLowest}
use Rattle.tetri_algebra.specs.Range.{IsWithin, is_within}
use Rattle.tetri_num.specs.declared.fractions.Frac.{Frac}
use Rattle.tetri_num.proofs.FractionLaws.{same_frac}
use Rattle.tetri_cert.specs.NumbersLowest.{is_lowest}
use Rattle.tetri_cert.specs.Numbers.{frac_by_test, frac_of, frac_of_parts, fracs, negative_number, small_numbers, whole_number, whole_numbers}
use Rattle.tetri_base.specs.OptionSteps.{◌>>=◌}

-- ---- numbers
pub small_laws : (low : ℕ) → low ≤ 48 → IsCodec low (λ (n : ℕ). 39) small_numbers
small_laws low h = number_laws low (2 ^ 32) h (lit≤ tt)

pub whole_avoids : (c : ℕ) (z : ℤ) → (c < 48) ⊎ (57 < c) → c ≢ 45 → IsWithin z → Avoids c (signed_decimal z)
whole_avoids c (pos n) h m k = decimal_avoids c n h k
whole_avoids c (negsuc n) h m k = All-cons (λ y. eqb y c ≡ false) 45 (decimal (suc n)) (other 45 c (λ (e : 45 ≡ c). m (sym e))) (decimal_avoids c (suc n) h k)

no_sign : (ds : List ℕ) → Avoids 45 ds → bytes_eq (take 1 ds) (codes "-") ≡ false
no_sign [] h = refl
no_sign (d ∷ ds) h = by_test (bytes_eq (d ∷ []) (codes "-")) refl
  where
    by_test : (t : Bool) → bytes_eq (d ∷ []) (codes "-") ≡ t → t ≡ false
    by_test false e = refl
    by_test true e =
        let s : d ∷ [] ≡ 45 ∷ [] = same_bytes (d ∷ []) (codes "-") e in
        let f : d ≡ 45 = cc in
        let g : eqb d 45 ≡ false = h 0 0 (omega arith) in
        absurd (false≢true (sym g ∙ eq-eqb d 45 f))

pub not_zero : (n : ℕ) → eqb (suc n) 0 ≡ false
not_zero n = other (suc n) 0 (λ (e : suc n ≡ 0). omega arith)

whole_back : (z : ℤ) → IsWithin z → whole_number (signed_decimal z) ≡ Some z
unfolding whole_number negative_number
whole_back (pos n) h =
    ap (λ (t : Bool). cond t (negative_number (drop 1 (decimal n))) (option_map pos (number_below (2 ^ 127) (decimal n)))) (no_sign (decimal n) (decimal_avoids 45 n (inl (omega arith)) h))
    ∙ ap (λ (o : Option ℕ). option_map pos o) (number_below-decimal (2 ^ 127) n (lit≤ tt) h)
whole_back (negsuc n) h = ap (λ (o : Option ℕ). o >>= λ n. cond (eqb n 0) None (Some (neg_ℤ (pos n)))) (number_below-decimal (2 ^ 127) (suc n) (lit≤ tt) h)
    ∙ ap (λ (t : Bool). cond t None (Some (negsuc n))) (not_zero n)

negative_only : (ds : List ℕ) (n : ℕ) (z : ℤ) → number_below (2 ^ 127) ds ≡ Some n → cond (eqb n 0) None (Some (neg_ℤ (pos n))) ≡ Some z → IsWithin z × (45 ∷ ds ≡ signed_decimal z)
negative_only ds zero z e h = cc
negative_only ds (suc n) z e h =
    let r = number_below-only (2 ^ 127) ds (suc n) e in
    let f : negsuc n ≡ z = same_Some (negsuc n) z (cond_else (eqb (suc n) 0) (Some (negsuc n)) z h).1 in
    subst (λ x. IsWithin x × (45 ∷ ds ≡ signed_decimal x)) f (r.1, ap (λ x. 45 ∷ x) r.0)

signed : (bs : List ℕ) → bytes_eq (take 1 bs) (codes "-") ≡ true → bs ≡ 45 ∷ drop 1 bs
signed [] e = absurd (false≢true e)
signed (b ∷ bs) e = let s : b ∷ [] ≡ 45 ∷ [] = same_bytes (b ∷ []) (codes "-") e in let f : b ≡ 45 = cc in ap (λ x. x ∷ bs) f

whole_only : (bs : List ℕ) (z : ℤ) → whole_number bs ≡ Some z → IsWithin z × (bs ≡ signed_decimal z)
unfolding whole_number negative_number
whole_only bs z h = by_cond (bytes_eq (take 1 bs) (codes "-")) (negative_number (drop 1 bs)) (option_map pos (number_below (2 ^ 127) bs)) z h
    (λ e g. let r = bind_some (number_below (2 ^ 127) (drop 1 bs)) (λ n. cond (eqb n 0) None (Some (neg_ℤ (pos n)))) z g in
    let s = negative_only (drop 1 bs) r.0 z r.1 r.2 in
    (s.0, signed bs e ∙ s.1))
    (λ e g. let r = bind_some (number_below (2 ^ 127) bs) (λ n. Some (pos n)) z g in
    let s = number_below-only (2 ^ 127) bs r.0 r.1 in
    subst (λ x. IsWithin x × (bs ≡ signed_decimal x)) (same_Some (pos r.0) z r.2) (s.1, s.0))

pub whole_laws : (low : ℕ) → low ≤ 45 → IsCodec low (λ (z : ℤ). 40) whole_numbers
whole_laws low l = record {
  back = whole_back;
  only = whole_only;
  avoids = λ c z m h. whole_avoids c z (inl (omega arith)) (λ (e : c ≡ 45). omega arith) h;
  some = some;
  short = short;
}
  where
    some : (z : ℤ) → IsWithin z → 0 < length (signed_decimal z)
    some (pos n) h = (numeral n h).0.0
    some (negsuc n) h = omega arith

    short : (z : ℤ) → IsWithin z → length (signed_decimal z) ≤ 40
    short (pos n) h = omega (arith, decimal_short n h)
    short (negsuc n) h = omega (arith, decimal_short (suc n) h)

-- ---- fractions
from_T : (b : Bool) → T b → b ≡ true
from_T true h = refl
from_T false h = absurd h

pub lowest_test : (num den : ℤ) → IsLowest num den → is_lowest num den ≡ true
lowest_test num den h = all_true (int_lt (pos 0) den) (is_within num) (is_within den) (eqb (gcd_of (unsigned_abs num) (unsigned_abs den)) 1) (from_T (int_lt (pos 0) den) h.positive.lt) (lt-ltb _ _ h.num_within) (lt-ltb _ _ h.den_within) (eq-eqb _ _ h.lowest)
  where
    all_true : (a b c d : Bool) → a ≡ true → b ≡ true → c ≡ true → d ≡ true → (a && b && c && d) ≡ true
    all_true a b c d e f g h = ap (λ (t : Bool). t && b && c && d) e ∙ ap (λ (t : Bool). true && t && c && d) f ∙ ap (λ (t : Bool). true && true && t && d) g ∙ h

pub frac_back : (x : Frac) → frac_of x.num x.den ≡ Some x
unfolding frac_of
frac_back x = by_test x (is_lowest x.num x.den) refl (lowest_test x.num x.den x.lowest)
  where
    by_test : (x : Frac) (t : Bool) (e : is_lowest x.num x.den ≡ t) → t ≡ true → frac_by_test x.num x.den t e ≡ Some x
    by_test x true e h = ap (λ (y : Frac). Some y) (same_frac _ x refl refl)
    by_test x false e h = absurd (false≢true h)

frac_only : (p : ℤ × ℤ) (x : Frac) → frac_of_parts p ≡ Some x → p ≡ (x.num, x.den)
unfolding frac_of
frac_only p x h = by_test (is_lowest p.0 p.1) refl h
  where
    by_test : (t : Bool) (e : is_lowest p.0 p.1 ≡ t) → frac_by_test p.0 p.1 t e ≡ Some x → p ≡ (x.num, x.den)
    by_test true e g = ap (λ (y : Frac). (y.num, y.den)) (same_Some _ x g)
    by_test false e g = cc

pub frac_laws : IsCodec 45 (λ (x : Frac). 81) fracs
frac_laws = image_laws (pair_laws wholes wholes 47 (lit≤ tt) slashless) frac_of_parts (λ x. (x.num, x.den)) (λ x. Unit {0}) (λ x h. ((x.lowest.num_within, x.lowest.den_within), frac_back x)) (λ p x h e. (tt, frac_only p x e))
  where
    wholes : IsCodec 45 (λ (z : ℤ). 40) whole_numbers
    wholes = whole_laws 45 (lit≤ tt)

    slashless : (z : ℤ) → IsWithin z → Avoids 47 (signed_decimal z)
    slashless z h = whole_avoids 47 z (inl (omega arith)) (λ (e : 47 ≡ 45). omega arith) h

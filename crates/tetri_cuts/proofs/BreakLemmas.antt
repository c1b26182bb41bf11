-- How the left side of a row is formed at a point of fractions.
use Rattle.std.proofs.Common.{◌≡◌, ℕ, ◌+◌, ◌<◌, ◌≤◌, refl, sym, ap, ◌∙◌, arith, List, [], ◌∷◌, length, get_or, drop, Option, Some, None, Result, Ok, Err}
use Prim.Native.Nat.{zero, suc}
use Rattle.std.specs.Prelude.{MatchResult, IfErr}
use Rattle.std.proofs.lemmas.List.{drop_all, drop_more}
use lib.IntN.{ℤ}
use Rattle.tetri_algebra.specs.CommutativeRing.{add_zero_right}
use Rattle.tetri_algebra.specs.Rational.{ℚ, whole_ℚ}
use Rattle.tetri_algebra.specs.RationalRing.{ℚ_ring, zero_ℚ, zero-+ℚ, ◌+ℚ◌, ◌*ℚ◌, +ℚ_assoc}
use Rattle.tetri_num.specs.declared.fractions.Frac.{Frac}
use Rattle.tetri_num.specs.declared.fractions.Past.{Past}
use Rattle.tetri_num.specs.declared.fractions.Op.TheVariants.{Add, Mul}
use Rattle.tetri_num.specs.Checked.{checked_product, checked_sum}
use Rattle.tetri_num.specs.Frac.{value}
use Rattle.tetri_ip.specs.declared.programs.Term.{Term}
use Rattle.tetri_dictionary.specs.Fractions.{values}
use Rattle.tetri_simplex.specs.Relaxation.{coordinate, left_value}
use Rattle.tetri_simplex.proofs.DualRunLaws.{checked_product_is, checked_sum_is}
use Rattle.tetri_cuts.specs.Breaking.{Refusal, add_term, form_left, or_refused, refusal_of}
use Rattle.tetri_base.specs.ResultSteps.{then_ok}

-- a number of a point
pub coordinate_is : (xs : List Frac) (k : ℕ) (x : Frac) → k < length xs → x ≡ get_or xs k x → coordinate (values xs) k ≡ value x
coordinate_is [] k x l e = absurd (omega (arith, l))
coordinate_is (y ∷ xs) zero x l e = ap value (sym e)
coordinate_is (y ∷ xs) (suc k) x l e = coordinate_is xs k x (omega (arith, l)) e

-- ---- one term
pub term_added : (s x part : Frac) (by : ℚ) (r : Result Frac Past) → checked_product by (value x) ≡ Some (value part) →
    MatchResult r (λ t. checked_sum (value s) (value part) ≡ Some (value t)) (λ _. checked_sum (value s) (value part) ≡ None) →
    IfErr r (λ e. e ≡ record { op = Add; left = s; right = part }) →
    MatchResult r (λ t. add_term (value s) by (value x) ≡ Ok (value t)) (λ e. add_term (value s) by (value x) ≡ Err (refusal_of e))
term_added s x part by (Ok t) formed sum which =
    ap (λ o. then_ok (or_refused o Mul by (value x)) (λ y. or_refused (checked_sum (value s) y) Add (value s) y)) formed
    ∙ ap (λ o. or_refused o Add (value s) (value part)) sum
term_added s x part by (Err e) formed sum which =
    ap (λ o. then_ok (or_refused o Mul by (value x)) (λ y. or_refused (checked_sum (value s) y) Add (value s) y)) formed
    ∙ ap (λ o. or_refused o Add (value s) (value part)) sum
    ∙ ap (λ (p : Past). Err (refusal_of p)) (sym which)

pub term_refused : (s b x : Frac) (by : ℚ) (e : Past) → value b ≡ by → checked_product by (value x) ≡ None → e ≡ record { op = Mul; left = b; right = x } →
    add_term (value s) by (value x) ≡ Err (refusal_of e)
term_refused s b x by e is formed which =
    ap (λ o. then_ok (or_refused o Mul by (value x)) (λ y. or_refused (checked_sum (value s) y) Add (value s) y)) formed
    ∙ ap (λ (y : ℚ). Err (record { op = Mul; left = y; right = value x })) (sym is)
    ∙ ap (λ (p : Past). Err (refusal_of p)) (sym which)

-- ---- term by term
module _ (ts : List Term) (point : List ℚ) (i : ℕ) (d : Term) (s : ℚ) (by : ℤ) (x : ℚ) (inside : i < length ts) (coefficient : by ≡ (get_or ts i d).by)
    (number : x ≡ coordinate point (get_or ts i d).column) where
  opened : form_left (drop i ts) point s ≡ then_ok (add_term s (whole_ℚ by) x) (λ next. form_left (drop (i + 1) ts) point next)
  opened =
      ap (λ us. form_left us point s) (drop_more ts i d inside)
      ∙ ap (λ y. then_ok (add_term s (whole_ℚ y) (coordinate point (get_or ts i d).column)) (λ next. form_left (drop (i + 1) ts) point next)) (sym coefficient)
      ∙ ap (λ y. then_ok (add_term s (whole_ℚ by) y) (λ next. form_left (drop (i + 1) ts) point next)) (sym number)

  pub left_next : (n : ℚ) → add_term s (whole_ℚ by) x ≡ Ok n → form_left (drop i ts) point s ≡ form_left (drop (i + 1) ts) point n
  left_next n e = opened ∙ ap (λ r. then_ok r (λ next. form_left (drop (i + 1) ts) point next)) e

  pub left_refused : (e : Refusal) → add_term s (whole_ℚ by) x ≡ Err e → form_left (drop i ts) point s ≡ Err e
  left_refused e h = opened ∙ ap (λ r. then_ok r (λ next. form_left (drop (i + 1) ts) point next)) h

pub left_done : (ts : List Term) (point : List ℚ) (i : ℕ) (s : ℚ) → length ts ≤ i → form_left (drop i ts) point s ≡ Ok s
left_done ts point i s l = ap (λ us. form_left us point s) (drop_all i ts l)

-- ---- what is formed is the left side
left_sum_is : (ts : List Term) (point : List ℚ) (s r : ℚ) → form_left ts point s ≡ Ok r → r ≡ s +ℚ left_value ts point
left_sum_is [] point s r e = let f : s ≡ r = cc in sym f ∙ sym (add_zero_right ℚ_ring s)
left_sum_is (t ∷ ts) point s r e = by_product (λ n g. left_sum_is ts point n r g) (checked_product (whole_ℚ t.by) (coordinate point t.column)) refl e
  where
    by_sum : ((n : ℚ) → form_left ts point n ≡ Ok r → r ≡ n +ℚ left_value ts point) → (part : ℚ) → part ≡ whole_ℚ t.by *ℚ coordinate point t.column → (o : Option ℚ) → checked_sum s part ≡ o →
        then_ok (or_refused o Add s part) (λ next. form_left ts point next) ≡ Ok r → r ≡ s +ℚ (whole_ℚ t.by *ℚ coordinate point t.column +ℚ left_value ts point)
    by_sum rec part pe None f g = cc
    by_sum rec part pe (Some n) f g =
        rec n g ∙ ap (λ y. y +ℚ left_value ts point) (checked_sum_is s part n f) ∙ +ℚ_assoc s part (left_value ts point)
        ∙ ap (λ y. s +ℚ (y +ℚ left_value ts point)) pe

    by_product : ((n : ℚ) → form_left ts point n ≡ Ok r → r ≡ n +ℚ left_value ts point) → (o : Option ℚ) → checked_product (whole_ℚ t.by) (coordinate point t.column) ≡ o →
        then_ok (then_ok (or_refused o Mul (whole_ℚ t.by) (coordinate point t.column)) (λ part. or_refused (checked_sum s part) Add s part)) (λ next. form_left ts point next) ≡ Ok r →
        r ≡ s +ℚ (whole_ℚ t.by *ℚ coordinate point t.column +ℚ left_value ts point)
    by_product rec None f g = cc
    by_product rec (Some part) f g = by_sum rec part (checked_product_is (whole_ℚ t.by) (coordinate point t.column) part f) (checked_sum s part) refl g

pub left_value_is : (ts : List Term) (point : List ℚ) (r : ℚ) → form_left ts point zero_ℚ ≡ Ok r → r ≡ left_value ts point
left_value_is ts point r e = left_sum_is ts point zero_ℚ r e ∙ zero-+ℚ (left_value ts point)

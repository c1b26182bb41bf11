-- The factors of all columns, formed row by row.
use Rattle.std.proofs.Common.{◌≡◌, ℕ, ◌+◌, ◌<◌, List, [], ◌∷◌, length, set, drop, Option, Some, None, IfSome, Result, Ok, refl, sym, ap, ◌∙◌, subst, arith, inl, inr}
use Prim.Native.Nat.{suc}
use Rattle.std.proofs.lemmas.Bool.{cases_eq, cases_lt}
use Rattle.std.proofs.lemmas.Int.{fits_signed_from_abs, ints}
use Rattle.std.proofs.lemmas.List.{drop_more, get_or-drop, get_or-set_same, get_or-set_other, length-drop, length-set}
use lib.IntN.{ℤ, pos, ◌+ℤ◌, ◌*ℤ◌}
use mir.Val.{SFits}
use mir.Syntax.{w128}
use Rattle.tetri_ip.specs.declared.programs.Program.{Program}
use Rattle.tetri_ip.specs.declared.programs.Row.{Row}
use Rattle.tetri_ip.specs.declared.programs.Term.{Term}
use Rattle.tetri_ip.specs.declared.programs.Weight.{Weight}
use Rattle.tetri_ip.specs.declared.programs.WeighFault.{WeighFault}
use Rattle.tetri_ip.specs.Points.{NumbersWithin, Bounds, coefficient, column_at, number_at, term_at}
use Rattle.tetri_algebra.specs.Range.{IsWithin}
use Rattle.tetri_ip.specs.Weighed.{AreNotNegative, bound_taken, weighed}
use Rattle.tetri_ip.specs.Forming.{AreFactors, add_product, column_factor, first_negative, form_bounds, form_column, form_columns, form_factor, form_right, or_past, subtract_product, then_form, unless_negative, weigh_answer, within}
use Rattle.tetri_ip.proofs.Coefficients.{TermsAscend, coefficient_absent, unit_other, unit_same}
use Rattle.tetri_ip.proofs.Formed.{not_negative, right_is}
use Rattle.tetri_ip.proofs.Steps.{subtract_is, subtract_nothing}
use Rattle.tetri_ip.proofs.WeighingLemmas.{answer_is_weighed}

-- ---- one term of a row
module _ (ts : List Term) (i : ℕ) (rising : TermsAscend ts) (inside : i < length ts) where
  abbrev here : Term
  here = term_at ts i

  next_terms : (j : ℕ) (z : ℤ) → coefficient (here ∷ drop (i + 1) ts) j ≡ z → coefficient (drop i ts) j ≡ z
  next_terms j z e = ap (λ us. coefficient us j) (drop_more ts i (record { column = 0; by = pos 0 }) inside) ∙ e

  -- the terms behind it have nothing in its column
  behind : coefficient (drop (i + 1) ts) here.column ≡ pos 0
  behind = coefficient_absent (drop (i + 1) ts) here.column (λ k lt at.
      let same : column_at (drop (i + 1) ts) k ≡ column_at ts (i + 1 + k) = ap (λ (t : Term). t.column) (get_or-drop (i + 1) ts k (record { column = 0; by = pos 0 })) in
      let within : i + 1 + k < length ts = omega (arith, lt, length-drop (i + 1) ts) in
      let less : here.column < column_at ts (i + 1 + k) = rising i (i + 1 + k) (omega arith) within in
      absurd (omega (arith, same, at, less)))

  from_here : coefficient (drop i ts) here.column ≡ here.by
  from_here = next_terms here.column here.by (ap (λ z. z +ℤ coefficient (drop (i + 1) ts) here.column) (unit_same here.column here.by here.column refl)
      ∙ ap (λ z. here.by +ℤ z) behind ∙ plus_zero here.by)
    where
      plus_zero : (b : ℤ) → b +ℤ pos 0 ≡ b
      plus_zero b = omega (arith, ints)

  elsewhere : (j : ℕ) → (here.column ≡ j → ⊥) → coefficient (drop i ts) j ≡ coefficient (drop (i + 1) ts) j
  elsewhere j other = next_terms j (coefficient (drop (i + 1) ts) j) (ap (λ z. z +ℤ coefficient (drop (i + 1) ts) j) (unit_other here.column here.by j other)
      ∙ zero_plus (coefficient (drop (i + 1) ts) j))
    where
      zero_plus : (b : ℤ) → pos 0 +ℤ b ≡ b
      zero_plus b = omega (arith, ints)

  -- a term that is taken away moves what is left to the terms behind it
  pub term_taken : (fs : List ℤ) (a next : ℤ) → here.column < length fs → subtract_product (number_at fs here.column) a here.by ≡ Some next → (j : ℕ) →
      subtract_product (number_at (set fs here.column next) j) a (coefficient (drop (i + 1) ts) j) ≡ subtract_product (number_at fs j) a (coefficient (drop i ts) j)
  term_taken fs a next lt e j = elim (cases_eq here.column j) [
    | inl same ↦ subst (λ k. subtract_product (number_at (set fs here.column next) k) a (coefficient (drop (i + 1) ts) k) ≡ subtract_product (number_at fs k) a (coefficient (drop i ts) k)) same
        (ap (λ z. subtract_product z a (coefficient (drop (i + 1) ts) here.column)) (get_or-set_same fs here.column next (pos 0) lt)
        ∙ subtract_nothing next a (coefficient (drop (i + 1) ts) here.column) (subtract_is (number_at fs here.column) a here.by next e).1 behind
        ∙ sym (ap (λ z. subtract_product (number_at fs here.column) a z) from_here ∙ e))
    | inr other ↦
        ap (λ z. subtract_product z a (coefficient (drop (i + 1) ts) j)) (get_or-set_other fs here.column j next (pos 0) (λ same. other (sym same)))
        ∙ ap (λ z. subtract_product (number_at fs j) a z) (sym (elsewhere j other))
  ]

-- the same, of the numbers as the code passes them
pub row_step : (ts us : List Term) (i : ℕ) (fs : List ℤ) (a rest by next x : ℤ) (o : Option ℤ) → us ≡ ts → TermsAscend ts → i < length us → (term_at us i).column < length fs →
    rest ≡ number_at fs (term_at us i).column → by ≡ (term_at us i).by → o ≡ subtract_product rest a by → o ≡ Some next → x ≡ next → (j : ℕ) →
    subtract_product (number_at (set fs (term_at us i).column x) j) a (coefficient (drop (i + 1) ts) j) ≡ subtract_product (number_at fs j) a (coefficient (drop i ts) j)
row_step ts us i fs a rest by next x o same rising inside lt re be oe on xe j =
    let t = term_at us i in
    let told : subtract_product (number_at fs t.column) a t.by ≡ Some next =
    ap (λ z. subtract_product z a t.by) (sym re) ∙ ap (λ z. subtract_product rest a z) (sym be) ∙ sym oe ∙ on in
    subst (λ (vs : List Term). subtract_product (number_at (set fs (term_at us i).column x) j) a (coefficient (drop (i + 1) vs) j) ≡ subtract_product (number_at fs j) a (coefficient (drop i vs) j)) same
    (ap (λ z. subtract_product (number_at (set fs (term_at us i).column z) j) a (coefficient (drop (i + 1) us) j)) xe
    ∙ term_taken us i (subst TermsAscend (sym same) rising) inside fs a next lt told j)

pub set_within : (fs : List ℤ) (c : ℕ) (next : ℤ) → IsWithin next → NumbersWithin fs → NumbersWithin (set fs c next)
set_within fs c next fits all k lt = elim (cases_eq c k) [
  | inl same ↦
      let inside : c < length fs = omega (arith, lt, length-set fs c next, same) in
      subst (λ m. IsWithin (number_at (set fs c next) m)) same (subst IsWithin (sym (get_or-set_same fs c next (pos 0) inside)) fits)
  | inr other ↦
      let inside : k < length fs = omega (arith, lt, length-set fs c next) in
      subst IsWithin (sym (get_or-set_other fs c k next (pos 0) (λ same. other (sym same)))) (all k inside)
]

-- one more column's number
pub put_next : (f : ℕ → Option ℤ) (fs : List ℤ) (j : ℕ) (first x : ℤ) → j < length fs → ((k : ℕ) → k < j → f k ≡ Some (number_at fs k)) → f j ≡ Some first → x ≡ first →
    (k : ℕ) → k < j + 1 → f k ≡ Some (number_at (set fs j x) k)
put_next f fs j first x lt before is same k le = elim (cases_lt k j) [
  | inl less ↦ before k less ∙ ap Some (sym (get_or-set_other fs j k x (pos 0) (λ at. absurd (omega arith))))
  | inr last ↦ let at : j ≡ k = omega arith in
      subst (λ m. f m ≡ Some (number_at (set fs j x) m)) at (is ∙ ap Some (sym same ∙ sym (get_or-set_same fs j x (pos 0) lt)))
]

-- ---- the total of the columns
pub bounds_step : (b : Bounds) (fs : List ℤ) (j : ℕ) (sum by : ℤ) (o : Option ℤ) → j < length fs → by ≡ number_at fs j → o ≡ add_product sum by (bound_taken b j by) →
    form_bounds b j (drop j fs) sum ≡ then_form o (λ n. form_bounds b (j + 1) (drop (j + 1) fs) n)
bounds_step b fs j sum by o lt be oe =
    ap (λ xs. form_bounds b j xs sum) (drop_more fs j (pos 0) lt)
    ∙ ap (λ z. then_form (add_product sum z (bound_taken b j z)) (λ n. form_bounds b (j + 1) (drop (j + 1) fs) n)) (sym be)
    ∙ ap (λ (p : Option ℤ). then_form p (λ n. form_bounds b (j + 1) (drop (j + 1) fs) n)) (sym oe)

then_then : (o : Option ℤ) (f g : ℤ → Option ℤ) → then_form o (λ x. then_form (f x) g) ≡ then_form (then_form o f) g
then_then None f g = refl
then_then (Some x) f g = refl

column_told : (rows : List Row) (b : Bounds) (q : ℤ) (ws : List Weight) (j : ℕ) (cost sum factor : ℤ) → column_factor rows q ws j cost ≡ Some factor →
    form_column rows b q ws j cost sum ≡ add_product sum factor (bound_taken b j factor)
column_told rows b q ws j cost sum factor e =
    then_then (within (q *ℤ cost)) (λ first. form_factor rows ws j first) (λ d. add_product sum d (bound_taken b j d))
    ∙ ap (λ (o : Option ℤ). then_form o (λ d. add_product sum d (bound_taken b j d))) e

pub factors_total : (rows : List Row) (b : Bounds) (q : ℤ) (ws : List Weight) (j : ℕ) (cs fs : List ℤ) (sum z : ℤ) → length fs ≡ length cs →
    ((k : ℕ) → k < length cs → column_factor rows q ws (j + k) (number_at cs k) ≡ Some (number_at fs k)) → form_bounds b j fs sum ≡ Some z → form_columns rows b q ws j cs sum ≡ Ok z
factors_total rows b q ws j [] [] sum z count each e = let f : sum ≡ z = cc in ap Ok f
factors_total rows b q ws j [] (f ∷ fs) sum z count each e = absurd (omega arith)
factors_total rows b q ws j (c ∷ cs) [] sum z count each e = absurd (omega arith)
factors_total rows b q ws j (c ∷ cs) (f ∷ fs) sum z count each e =
    by_next (λ next g. factors_total rows b q ws (j + 1) cs fs next z (omega arith)
    (λ k lt. let at : j + suc k ≡ j + 1 + k = omega arith in subst (λ m. column_factor rows q ws m (number_at cs k) ≡ Some (number_at fs k)) at (each (suc k) (omega arith))) g)
    (add_product sum f (bound_taken b j f)) refl e
  where
    first : column_factor rows q ws j c ≡ Some f
    first = let at : j + 0 ≡ j = omega arith in subst (λ m. column_factor rows q ws m c ≡ Some f) at (each 0 (omega arith))

    by_next : ((next : ℤ) → form_bounds b (j + 1) fs next ≡ Some z → form_columns rows b q ws (j + 1) cs next ≡ Ok z) → (o : Option ℤ) → add_product sum f (bound_taken b j f) ≡ o →
        then_form o (λ next. form_bounds b (j + 1) fs next) ≡ Some z → or_past j (form_column rows b q ws j c sum) (λ next. form_columns rows b q ws (j + 1) cs next) ≡ Ok z
    by_next rec None g h = cc
    by_next rec (Some next) g h =
        ap (λ (o : Option ℤ). or_past j o (λ n. form_columns rows b q ws (j + 1) cs n)) (column_told rows b q ws j c sum f first ∙ g) ∙ rec next h

-- ---- the answer
module _ (p : Program) (b : Bounds) (q : ℤ) (ws : List Weight) (z : ℤ) where
  abbrev after_right : ℤ → Result ℤ WeighFault
  after_right sum = form_columns p.rows.items b q ws 0 p.costs.items sum

  pub answer_formed : (right : ℤ) → first_negative ws ≡ None → form_right p.rows.items ws (pos 0) ≡ Some right → after_right right ≡ Ok z → Ok z ≡ weigh_answer p b q ws
  answer_formed right none is all =
      sym (ap (λ (o : Option ℕ). unless_negative o (or_past 0 (form_right p.rows.items ws (pos 0)) after_right)) none
      ∙ ap (λ (o : Option ℤ). or_past 0 o after_right) is ∙ all)

  formed_some : (right right' : ℤ) (fs : List ℤ) (o total : Option ℤ) → first_negative ws ≡ None → o ≡ form_right p.rows.items ws (pos 0) → o ≡ Some right → (SFits w128 right → right' ≡ right) →
      AreFactors p q ws fs → length fs ≡ length p.costs.items → total ≡ form_bounds b 0 fs right' → total ≡ Some z → Ok z ≡ weigh_answer p b q ws
  formed_some right right' fs o total none oe on same factors count te tn =
      let is : form_right p.rows.items ws (pos 0) ≡ Some right = sym oe ∙ on in
      let fits = fits_signed_from_abs w128 right (right_is p.rows.items ws right is).1 in
      answer_formed right none is
      (factors_total p.rows.items b q ws 0 p.costs.items fs right z count (λ k lt. let at : k ≡ 0 + k = omega arith in subst (λ m. column_factor p.rows.items q ws m (number_at p.costs.items k) ≡ Some (number_at fs k)) at (factors k lt)) (ap (λ s. form_bounds b 0 fs s) (sym (same fits)) ∙ sym te ∙ tn))

  -- an answer that is a number is the weighed number, and then no weight is below 0
  pub answer_is : Ok z ≡ weigh_answer p b q ws → (z ≡ weighed p b q ws) × AreNotNegative ws
  answer_is e = (answer_is_weighed p b q ws z (sym e), by_negative (first_negative ws) refl (sym e))
    where
      by_negative : (o : Option ℕ) → first_negative ws ≡ o → unless_negative o (or_past 0 (form_right p.rows.items ws (pos 0)) after_right) ≡ Ok z → AreNotNegative ws
      by_negative (Some row) g h = cc
      by_negative None g h = not_negative ws g

pub formed_answer : (p : Program) (b : Bounds) (q : ℤ) (ws : List Weight) (right right' : ℤ) (fs : List ℤ) (o total : Option ℤ) → first_negative ws ≡ None → o ≡ form_right p.rows.items ws (pos 0) → o ≡ Some right →
    (SFits w128 right → right' ≡ right) → AreFactors p q ws fs → length fs ≡ length p.costs.items → total ≡ form_bounds b 0 fs right' → IfSome total (λ z. Ok z ≡ weigh_answer p b q ws)
formed_answer p b q ws right right' fs o None none oe on same factors count te = tt
formed_answer p b q ws right right' fs o (Some z) none oe on same factors count te = formed_some p b q ws z right right' fs o (Some z) none oe on same factors count te refl

-- Where it is formed, the number is the weighed number.
use Rattle.std.proofs.Common.{◌≡◌, ℕ, ◌+◌, ◌<◌, refl, sym, ap, ◌∙◌, subst, arith, List, [], ◌∷◌, length, get_or, Option, Some, None, Result, Ok, Err, IfOk, Bool, true, false, cond, lit<}
use Prim.Native.Nat.{zero, suc}
use Rattle.std.specs.Prelude.{◌≤ℤ◌}
use Rattle.std.proofs.lemmas.Int.{fits_signed_from_abs, ints}
use lib.IntN.{ℤ, pos, ◌+ℤ◌, ◌-ℤ◌, ◌*ℤ◌}
use lib.Signed.{lt_z}
use mir.Val.{SFits}
use mir.Syntax.{w128}
use Rattle.tetri_algebra.specs.Range.{IsWithin}
use Rattle.tetri_ip.specs.declared.programs.Program.{Program}
use Rattle.tetri_ip.specs.declared.programs.Row.{Row}
use Rattle.tetri_ip.specs.declared.programs.Weight.{Weight}
use Rattle.tetri_ip.specs.declared.programs.WeighFault.{WeighFault}
use Rattle.tetri_ip.specs.Points.{Bounds, right_of}
use Rattle.tetri_ip.specs.Weighed.{AreNotNegative, bound_taken, column_sum, columns_from, right_sum, weighed}
use Rattle.tetri_ip.specs.Forming.{add_product, first_negative, form_column, form_columns, form_factor, form_right, or_past, then_form, within}
use Rattle.tetri_ip.proofs.Steps.{add_is, factor_is, sum_is, within_is}

add_more : (sum a s n x : ℤ) → n ≡ sum +ℤ a → x ≡ n +ℤ s → x ≡ sum +ℤ (a +ℤ s)
add_more sum a s n x e f = omega (arith, ints)

pub right_is : (rows : List Row) (ws : List Weight) (x : ℤ) → form_right rows ws (pos 0) ≡ Some x → (x ≡ right_sum rows ws) × IsWithin x
right_is rows ws x e = let r = sum_is (right_of rows) ws (pos 0) x (lit< tt) e in (r.0 ∙ zero_plus (right_sum rows ws), r.1)
  where
    zero_plus : (s : ℤ) → pos 0 +ℤ s ≡ s
    zero_plus s = omega (arith, ints)

column_is : (rows : List Row) (b : Bounds) (q : ℤ) (ws : List Weight) (j : ℕ) (c sum x : ℤ) → form_column rows b q ws j c sum ≡ Some x →
    x ≡ sum +ℤ (q *ℤ c -ℤ column_sum rows ws j) *ℤ bound_taken b j (q *ℤ c -ℤ column_sum rows ws j)
column_is rows b q ws j c sum x e = by_first (within (q *ℤ c)) refl e
  where
    by_factor : (first : ℤ) → (first ≡ q *ℤ c) × IsWithin first → (o : Option ℤ) → form_factor rows ws j first ≡ o → then_form o (λ d. add_product sum d (bound_taken b j d)) ≡ Some x →
        x ≡ sum +ℤ (q *ℤ c -ℤ column_sum rows ws j) *ℤ bound_taken b j (q *ℤ c -ℤ column_sum rows ws j)
    by_factor first fe None f g = cc
    by_factor first fe (Some d) f g =
        let de : d ≡ q *ℤ c -ℤ column_sum rows ws j = (factor_is rows ws j first d fe.1 f).0 ∙ ap (λ z. z -ℤ column_sum rows ws j) fe.0 in
        (add_is sum d (bound_taken b j d) x g).0 ∙ ap (λ z. sum +ℤ z *ℤ bound_taken b j z) de

    by_first : (o : Option ℤ) → within (q *ℤ c) ≡ o → then_form o (λ first. then_form (form_factor rows ws j first) (λ d. add_product sum d (bound_taken b j d))) ≡ Some x →
        x ≡ sum +ℤ (q *ℤ c -ℤ column_sum rows ws j) *ℤ bound_taken b j (q *ℤ c -ℤ column_sum rows ws j)
    by_first None f g = cc
    by_first (Some first) f g = by_factor first (within_is (q *ℤ c) first f) (form_factor rows ws j first) refl g

if_ok_of : (r : Result ℤ WeighFault) (P Q : ℤ → Type 0) → ((z : ℤ) → P z → Q z) → IfOk r P → IfOk r Q
if_ok_of (Ok z) P Q f h = f z h
if_ok_of (Err e) P Q f h = h

pub if_ok_always : (r : Result ℤ WeighFault) (A : Type 0) → A → IfOk r (λ z. A)
if_ok_always (Ok z) A a = a
if_ok_always (Err e) A a = tt

pub columns_are : (rows : List Row) (b : Bounds) (q : ℤ) (ws : List Weight) (j : ℕ) (cs : List ℤ) (sum : ℤ) → IfOk (form_columns rows b q ws j cs sum) (λ z. z ≡ sum +ℤ columns_from rows b q ws j cs)
columns_are rows b q ws j [] sum = omega (arith, ints)
columns_are rows b q ws j (c ∷ cs) sum = by_column (λ n. columns_are rows b q ws (j + 1) cs n) (form_column rows b q ws j c sum) refl
  where
    by_column : ((n : ℤ) → IfOk (form_columns rows b q ws (j + 1) cs n) (λ z. z ≡ n +ℤ columns_from rows b q ws (j + 1) cs)) → (o : Option ℤ) → form_column rows b q ws j c sum ≡ o → IfOk (or_past j o (λ next. form_columns rows b q ws (j + 1) cs next))
        (λ z. z ≡ sum +ℤ ((q *ℤ c -ℤ column_sum rows ws j) *ℤ bound_taken b j (q *ℤ c -ℤ column_sum rows ws j) +ℤ columns_from rows b q ws (j + 1) cs))
    by_column rec None e = tt
    by_column rec (Some n) e =
        if_ok_of (form_columns rows b q ws (j + 1) cs n) (λ z. z ≡ n +ℤ columns_from rows b q ws (j + 1) cs) _
        (λ z f. add_more sum ((q *ℤ c -ℤ column_sum rows ws j) *ℤ bound_taken b j (q *ℤ c -ℤ column_sum rows ws j)) (columns_from rows b q ws (j + 1) cs) n z (column_is rows b q ws j c sum n e) f)
        (rec n)

pub weighed_where_formed : (p : Program) (b : Bounds) (q : ℤ) (ws : List Weight) (right right' : ℤ) (o : Option ℤ) (answer : Result ℤ WeighFault) →
    o ≡ form_right p.rows.items ws (pos 0) → o ≡ Some right → (SFits w128 right → right' ≡ right) →
    answer ≡ form_columns p.rows.items b q ws 0 p.costs.items right' → IfOk answer (λ z. z ≡ weighed p b q ws)
weighed_where_formed p b q ws right right' o answer oe os re ae =
    let r = right_is p.rows.items ws right (sym oe ∙ os) in
    let e : right' ≡ right_sum p.rows.items ws = re (fits_signed_from_abs w128 right r.1) ∙ r.0 in
    subst (λ (r : Result ℤ WeighFault). IfOk r (λ z. z ≡ weighed p b q ws)) (sym ae)
    (if_ok_of (form_columns p.rows.items b q ws 0 p.costs.items right') (λ z. z ≡ right' +ℤ columns_from p.rows.items b q ws 0 p.costs.items) _
    (λ z f. f ∙ ap (λ s. s +ℤ columns_from p.rows.items b q ws 0 p.costs.items) e) (columns_are p.rows.items b q ws 0 p.costs.items right'))

pub not_negative : (ws : List Weight) → first_negative ws ≡ None → AreNotNegative ws
not_negative [] e k d l = absurd (omega arith)
not_negative (w ∷ ws) e k d l = by_test (λ g i m. not_negative ws g i d m) (lt_z w.by (pos 0)) refl e k l
  where
    by_test : (first_negative ws ≡ None → (i : ℕ) → i < length ws → pos 0 ≤ℤ (get_or ws i d).by) → (t : Bool) → lt_z w.by (pos 0) ≡ t → cond t (Some w.row) (first_negative ws) ≡ None → (k : ℕ) → k < length (w ∷ ws) → pos 0 ≤ℤ (get_or (w ∷ ws) k d).by
    by_test rec true f g k l = cc
    by_test rec false f g zero l = omega (arith, ints)
    by_test rec false f g (suc k) l = rec g k (omega arith)

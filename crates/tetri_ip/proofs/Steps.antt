-- One step of each sum that weighing forms.
use Rattle.std.proofs.Common.{◌≡◌, ℕ, ◌+◌, ◌^◌, ◌<◌, refl, sym, ap, ◌∙◌, subst, arith, List, [], ◌∷◌, length, get_or, drop, Option, Some, None, Bool, true, false, cond}
use Prim.Native.Nat.{zero, suc}
use Rattle.std.specs.Prelude.{unsigned_abs, nat_lt}
use Rattle.std.proofs.lemmas.Bool.{lt-ltb}
use Rattle.std.proofs.lemmas.Int.{fits_signed_from_abs, ints}
use lib.Signed.{lt_z}
use Rattle.std.proofs.lemmas.List.{drop_more}
use borrow.Author.Tests.{ltb-true}
use lib.IntN.{ℤ, pos, ◌+ℤ◌, ◌-ℤ◌, ◌*ℤ◌}
use mir.Val.{SFits}
use mir.Syntax.{w128}
use Rattle.tetri_algebra.specs.CommutativeRing.{mul_zero_right}
use Rattle.tetri_algebra.specs.IntegerRing.{ℤ_ring}
use Rattle.tetri_algebra.specs.Range.{IsWithin}
use Rattle.tetri_ip.specs.declared.programs.Program.{Program}
use Rattle.tetri_ip.specs.declared.programs.Row.{Row}
use Rattle.tetri_ip.specs.declared.programs.Weight.{Weight}
use Rattle.tetri_ip.specs.Points.{Bounds, IsFit, number_at, right_of, terms_of}
use Rattle.tetri_algebra.specs.Sums.{sum_over}
use Rattle.tetri_ip.specs.Weighed.{bound_taken, column_sum}
use Rattle.tetri_ip.specs.Forming.{add_product, coefficients, form_by, form_column, form_factor, form_sum, subtract_product, then_form, within}
use Rattle.tetri_ip.proofs.Coefficients.{TermsAscend}

pub right_of_at : (rows : List Row) (k : ℕ) (r : Row) → k < length rows → r ≡ get_or rows k r → right_of rows k ≡ r.right
right_of_at [] k r h e = absurd (omega arith)
right_of_at (x ∷ rs) zero r h e = ap (λ y. y.right) (sym e)
right_of_at (x ∷ rs) (suc k) r h e = right_of_at rs k r (omega arith) e

pub terms_of_at : (rows : List Row) (k : ℕ) (r : Row) → k < length rows → r ≡ get_or rows k r → terms_of rows k ≡ r.terms.items
terms_of_at [] k r h e = absurd (omega arith)
terms_of_at (x ∷ rs) zero r h e = ap (λ y. y.terms.items) (sym e)
terms_of_at (x ∷ rs) (suc k) r h e = terms_of_at rs k r (omega arith) e

-- the terms of a fit program's row ascend
pub row_ascends : (p : Program) (k : ℕ) (r : Row) → IsFit p → k < length p.rows.items → r ≡ get_or p.rows.items k r → TermsAscend r.terms.items
row_ascends p k r fit lt is = subst TermsAscend (terms_of_at p.rows.items k r lt is) (fit.rows k lt).ascending

-- ---- a number in range
pub within_itself : (z : ℤ) → IsWithin z → within z ≡ Some z
within_itself z fits = ap (λ (t : Bool). cond t (Some z) None) (lt-ltb (unsigned_abs z) (2 ^ 127) fits)

pub within_is : (z x : ℤ) → within z ≡ Some x → (x ≡ z) × IsWithin x
within_is z x e = by_test (nat_lt (unsigned_abs z) (2 ^ 127)) refl e
  where
    by_test : (t : Bool) → nat_lt (unsigned_abs z) (2 ^ 127) ≡ t → cond t (Some z) None ≡ Some x → (x ≡ z) × IsWithin x
    by_test true h f = let g : z ≡ x = cc in (sym g, subst IsWithin g (ltb-true _ _ h))
    by_test false h f = cc

then_is : (p : ℤ) (f : ℤ → ℤ) (x : ℤ) → then_form (within p) (λ z. within (f z)) ≡ Some x → (x ≡ f p) × IsWithin x
then_is p f x e = by_part (within p) refl e
  where
    by_part : (o : Option ℤ) → within p ≡ o → then_form o (λ z. within (f z)) ≡ Some x → (x ≡ f p) × IsWithin x
    by_part None g h = cc
    by_part (Some z) g h = let r = within_is (f z) x h in (r.0 ∙ ap f (within_is p z g).0, r.1)

pub add_is : (sum a b x : ℤ) → add_product sum a b ≡ Some x → (x ≡ sum +ℤ a *ℤ b) × IsWithin x
add_is sum a b x e = then_is (a *ℤ b) (λ z. sum +ℤ z) x e

pub subtract_is : (rest a b x : ℤ) → subtract_product rest a b ≡ Some x → (x ≡ rest -ℤ a *ℤ b) × IsWithin x
subtract_is rest a b x e = then_is (a *ℤ b) (λ z. rest -ℤ z) x e

pub within_fits : (z x : ℤ) → within z ≡ Some x → SFits w128 x
within_fits z x e = fits_signed_from_abs w128 x (within_is z x e).1

pub add_fits : (sum a b x : ℤ) → add_product sum a b ≡ Some x → SFits w128 x
add_fits sum a b x e = fits_signed_from_abs w128 x (add_is sum a b x e).1

pub subtract_fits : (rest a b x : ℤ) → subtract_product rest a b ≡ Some x → SFits w128 x
subtract_fits rest a b x e = fits_signed_from_abs w128 x (subtract_is rest a b x e).1

-- nothing is taken away
pub subtract_nothing : (rest a b : ℤ) → IsWithin rest → b ≡ pos 0 → subtract_product rest a b ≡ Some rest
subtract_nothing rest a b fits none =
    ap (λ z. then_form (within z) (λ part. within (rest -ℤ part))) (ap (λ z. a *ℤ z) none ∙ mul_zero_right ℤ_ring a)
    ∙ ap within (minus_zero rest) ∙ within_itself rest fits
  where
    minus_zero : (z : ℤ) → z -ℤ pos 0 ≡ z
    minus_zero z = omega (arith, ints)

-- ---- one product, put to a number
module _ (put : ℤ → ℤ → ℤ → Option ℤ) (number : ℕ → ℤ) (ws : List Weight) (i : ℕ) (d : Weight) (z a b : ℤ) (o : Option ℤ) (inside : i < length ws)
    (weight : a ≡ (get_or ws i d).by) (is : b ≡ number (get_or ws i d).row) (formed : o ≡ put z a b) where
  pub put_step : form_by put number (drop i ws) z ≡ then_form o (λ n. form_by put number (drop (i + 1) ws) n)
  put_step =
      ap (λ xs. form_by put number xs z) (drop_more ws i d inside)
      ∙ ap (λ y. then_form (put z (get_or ws i d).by y) (λ n. form_by put number (drop (i + 1) ws) n)) (sym is)
      ∙ ap (λ y. then_form (put z y b) (λ n. form_by put number (drop (i + 1) ws) n)) (sym weight)
      ∙ ap (λ (p : Option ℤ). then_form p (λ n. form_by put number (drop (i + 1) ws) n)) (sym formed)

  pub put_next : ((z a b x : ℤ) → put z a b ≡ Some x → SFits w128 x) → (n m : ℤ) → o ≡ Some n → (SFits w128 n → m ≡ n) → form_by put number (drop i ws) z ≡ form_by put number (drop (i + 1) ws) m
  put_next fits n m some read =
      put_step
      ∙ ap (λ (p : Option ℤ). then_form p (λ x. form_by put number (drop (i + 1) ws) x)) some
      ∙ ap (λ x. form_by put number (drop (i + 1) ws) x) (sym (read (fits z a b n (sym formed ∙ some))))

  pub put_none : o ≡ None → None ≡ form_by put number (drop i ws) z
  put_none none = sym (put_step ∙ ap (λ (p : Option ℤ). then_form p (λ x. form_by put number (drop (i + 1) ws) x)) none)

-- ---- what was formed
module _ (put : ℤ → ℤ → ℤ → Option ℤ) (join : ℤ → ℤ → ℤ) (number : ℕ → ℤ) (put_is : (z a b x : ℤ) → put z a b ≡ Some x → (x ≡ join z (a *ℤ b)) × IsWithin x)
    (nothing : (z : ℤ) → z ≡ join z (pos 0)) (more : (z a s : ℤ) → join (join z a) s ≡ join z (a +ℤ s)) where
  abbrev products : List Weight → ℤ
  products ws = sum_over ℤ_ring (λ w. w.by *ℤ number w.row) ws

  formed_is : (ws : List Weight) (z x : ℤ) → IsWithin z → form_by put number ws z ≡ Some x → (x ≡ join z (products ws)) × IsWithin x
  formed_is [] z x h e = let f : z ≡ x = cc in (sym f ∙ nothing z, subst IsWithin f h)
  formed_is (w ∷ ws) z x h e = by_next (λ n k g. formed_is ws n x k g) (put z w.by (number w.row)) refl e
    where
      by_next : ((n : ℤ) → IsWithin n → form_by put number ws n ≡ Some x → (x ≡ join n (products ws)) × IsWithin x) → (o : Option ℤ) → put z w.by (number w.row) ≡ o → then_form o (λ n. form_by put number ws n) ≡ Some x →
          (x ≡ join z (w.by *ℤ number w.row +ℤ products ws)) × IsWithin x
      by_next rec None f g = cc
      by_next rec (Some n) f g =
          let here = put_is z w.by (number w.row) n f in
          let r = rec n here.1 g in
          (r.0 ∙ ap (λ y. join y (products ws)) here.0 ∙ more z (w.by *ℤ number w.row) (products ws), r.1)

pub sum_is : (number : ℕ → ℤ) (ws : List Weight) (sum x : ℤ) → IsWithin sum → form_sum number ws sum ≡ Some x → (x ≡ sum +ℤ sum_over ℤ_ring (λ (w : Weight). w.by *ℤ number w.row) ws) × IsWithin x
sum_is number = formed_is add_product (λ z a. z +ℤ a) number add_is nothing more
  where
    nothing : (z : ℤ) → z ≡ z +ℤ pos 0
    nothing z = omega (arith, ints)

    more : (z a s : ℤ) → (z +ℤ a) +ℤ s ≡ z +ℤ (a +ℤ s)
    more z a s = omega (arith, ints)

pub factor_is : (rows : List Row) (ws : List Weight) (j : ℕ) (rest x : ℤ) → IsWithin rest → form_factor rows ws j rest ≡ Some x → (x ≡ rest -ℤ column_sum rows ws j) × IsWithin x
factor_is rows ws j = formed_is subtract_product (λ z a. z -ℤ a) (coefficients rows j) subtract_is nothing more ws
  where
    nothing : (z : ℤ) → z ≡ z -ℤ pos 0
    nothing z = omega (arith, ints)

    more : (z a s : ℤ) → (z -ℤ a) -ℤ s ≡ z -ℤ (a +ℤ s)
    more z a s = omega (arith, ints)

-- ---- an item of a list, whatever stands past its end
pub item_is : {X : Type 0} → (xs : List X) (k : ℕ) (x d : X) → k < length xs → x ≡ get_or xs k x → x ≡ get_or xs k d
item_is [] k x d h e = absurd (omega arith)
item_is (y ∷ xs) zero x d h e = e
item_is (y ∷ xs) (suc k) x d h e = item_is xs k x d (omega arith) e

-- ---- one column
pub bound_upper : (b : Bounds) (j : ℕ) (d d' x x' y : ℤ) → lt_z (pos 0) d' ≡ true → d' ≡ d → j < length b.upper → x ≡ get_or b.upper j x → x' ≡ x → y ≡ x' → y ≡ bound_taken b j d
bound_upper b j d d' x x' y h de l xe xe' ye =
    ye ∙ xe' ∙ item_is b.upper j x (pos 0) l xe
    ∙ sym (ap (λ (t : Bool). cond t (number_at b.upper j) (number_at b.lower j)) (ap (λ z. lt_z (pos 0) z) (sym de) ∙ h))

pub bound_lower : (b : Bounds) (j : ℕ) (d d' x x' y : ℤ) → lt_z (pos 0) d' ≡ false → d' ≡ d → j < length b.lower → x ≡ get_or b.lower j x → x' ≡ x → y ≡ x' → y ≡ bound_taken b j d
bound_lower b j d d' x x' y h de l xe xe' ye =
    ye ∙ xe' ∙ item_is b.lower j x (pos 0) l xe
    ∙ sym (ap (λ (t : Bool). cond t (number_at b.upper j) (number_at b.lower j)) (ap (λ z. lt_z (pos 0) z) (sym de) ∙ h))

pub column_formed : (rows : List Row) (b : Bounds) (q : ℤ) (ws : List Weight) (j : ℕ) (cost sum q' cost' first first' d d' bound' sum' : ℤ) (x y z : Option ℤ) →
    q' ≡ q → cost' ≡ cost → x ≡ within (q' *ℤ cost') → x ≡ Some first → (SFits w128 first → first' ≡ first) →
    y ≡ form_factor rows ws j first' → y ≡ Some d → (SFits w128 d → d' ≡ d) → (SFits w128 d → bound' ≡ bound_taken b j d) → sum' ≡ sum → z ≡ add_product sum' d' bound' →
    z ≡ form_column rows b q ws j cost sum
column_formed rows b q ws j cost sum q' cost' first first' d d' bound' sum' x y z qe ce xe xs fe ye ys de be se ze =
    let u : within (q *ℤ cost) ≡ Some first = ap (λ k. within (k *ℤ cost)) (sym qe) ∙ ap (λ k. within (q' *ℤ k)) (sym ce) ∙ sym xe ∙ xs in
    let first_within = (within_is (q *ℤ cost) first u).1 in
    let v : form_factor rows ws j first ≡ Some d = ap (λ k. form_factor rows ws j k) (sym (fe (fits_signed_from_abs w128 first first_within))) ∙ sym ye ∙ ys in
    let g = fits_signed_from_abs w128 d (factor_is rows ws j first d first_within v).1 in
    ze
    ∙ ap (λ k. add_product k d' bound') se
    ∙ ap (λ k. add_product sum k bound') (de g)
    ∙ ap (λ k. add_product sum d k) (be g)
    ∙ sym (ap (λ (o : Option ℤ). then_form o (λ k. add_product sum k (bound_taken b j k))) v)
    ∙ sym (ap (λ (o : Option ℤ). then_form o (λ f. then_form (form_factor rows ws j f) (λ k. add_product sum k (bound_taken b j k)))) u)

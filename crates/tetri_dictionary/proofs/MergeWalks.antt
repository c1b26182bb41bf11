-- A walk along the entries of two rows, of which the lesser place comes next.
use Rattle.std.proofs.Common.{◌≡◌, ℕ, ◌+◌, ◌<◌, ◌≤◌, sym, ap, ◌∙◌, subst, arith, List, [], ◌∷◌, ◌++◌, length, get_or, inl, inr, ⊎_elim, Some, None, Result, Ok, Err}
use Rattle.std.proofs.lemmas.Bool.{cases_lt}
use Rattle.tetri_algebra.specs.Rational.{ℚ}
use Rattle.tetri_algebra.specs.RationalRing.{zero_ℚ}
use Rattle.tetri_num.specs.declared.fractions.Frac.{Frac}
use Rattle.tetri_num.specs.declared.places.Kind.TheVariants as Kind
use Rattle.tetri_num.specs.declared.places.Place.{Place}
use Rattle.tetri_num.specs.Checked.{checked_product, checked_sum}
use Rattle.tetri_num.specs.Frac.{value}
use Rattle.tetri_num.proofs.FractionLaws.{checked_sum-zero_left, value_representable}
use Rattle.tetri_dictionary.specs.declared.lines.Entry.{Entry}
use Rattle.tetri_dictionary.specs.Pivots.{column_of, replaced_entry}
use Rattle.tetri_dictionary.specs.Sparse.{AreAscending, AreEntries, number_of, numbers_from, place_at}
use Rattle.tetri_dictionary.specs.Steps.{each_pair, or_place, place_at as the_place}
use Rattle.tetri_base.specs.ResultSteps.{then_ok}
use Rattle.tetri_dictionary.proofs.SparsePivots.{column_is, merged_at, merged_stop, merged_zero, number_representable, plus_nothing}
use Rattle.tetri_dictionary.proofs.SparseRows.{above_from, entry_read, number_between, number_found}
use Rattle.tetri_dictionary.proofs.SparseWalks.{Formed, IsMerged, IsTaken, formed_push, formed_skip, merge_on, merge_to}

-- ---- one number
pub multiple_is : (n i p : ℕ) (a y : ℚ) (z : Frac) → checked_product a y ≡ Some (value z) → replaced_entry n i a (p + 1) zero_ℚ y ≡ Ok (value z)
multiple_is n i p a y z e =
    let c = column_of n (p + 1) in
    ap (λ o. then_ok (or_place o Kind.Entry i c) (λ t. or_place (checked_sum zero_ℚ t) Kind.Entry i c)) e
    ∙ ap (λ o. or_place o Kind.Entry i c) (checked_sum-zero_left (value z) (value_representable z))

pub product_past : (n i p : ℕ) (a x y : ℚ) → checked_product a y ≡ None → replaced_entry n i a (p + 1) x y ≡ Err (the_place Kind.Entry i p)
product_past n i p a x y e =
    let c = column_of n (p + 1) in
    ap (λ o. then_ok (or_place o Kind.Entry i c) (λ t. or_place (checked_sum x t) Kind.Entry i c)) e
    ∙ ap (λ j. Err (the_place Kind.Entry i j)) (column_is n p)

pub total_is : (n i p : ℕ) (a x y z t : ℚ) → checked_product a y ≡ Some z → checked_sum x z ≡ Some t → replaced_entry n i a (p + 1) x y ≡ Ok t
total_is n i p a x y z t e f =
    let c = column_of n (p + 1) in
    ap (λ o. then_ok (or_place o Kind.Entry i c) (λ w. or_place (checked_sum x w) Kind.Entry i c)) e
    ∙ ap (λ o. or_place o Kind.Entry i c) f

pub total_past : (n i p : ℕ) (a x y z : ℚ) → checked_product a y ≡ Some z → checked_sum x z ≡ None → replaced_entry n i a (p + 1) x y ≡ Err (the_place Kind.Entry i p)
total_past n i p a x y z e f =
    let c = column_of n (p + 1) in
    ap (λ o. then_ok (or_place o Kind.Entry i c) (λ w. or_place (checked_sum x w) Kind.Entry i c)) e
    ∙ ap (λ o. or_place o Kind.Entry i c) f
    ∙ ap (λ j. Err (the_place Kind.Entry i j)) (column_is n p)

-- ---- the rows' next entries, once those of place p are taken
taken_own : (es : List Entry) (k p : ℕ) → AreAscending es → k < length es → place_at es k ≡ p → IsTaken es p (k + 1)
taken_own es k p a l e = record {
  inside = omega arith;
  before = λ i m. ⊎_elim (λ c. less (place_at es i) (place_at es k) (a i k c l) e) (λ c. own i (same i m c)) (cases_lt i k);
  after = λ i m b. more (place_at es k) (place_at es i) (a k i (next i m) b) e;
}
  where
    less : (x y : ℕ) → x < y → y ≡ p → x ≤ p
    less x y h f = omega arith

    more : (x y : ℕ) → x < y → x ≡ p → p < y
    more x y h f = omega arith

    same : (i : ℕ) → i < k + 1 → k ≤ i → i ≡ k
    same i h c = omega arith

    next : (i : ℕ) → k + 1 ≤ i → k < i
    next i h = omega arith

    at_most : (x : ℕ) → x ≡ p → x ≤ p
    at_most x f = omega arith

    own : (i : ℕ) → i ≡ k → place_at es i ≤ p
    own i s = at_most (place_at es i) (ap (place_at es) s ∙ e)

taken_other : (es : List Entry) (k f p : ℕ) → AreAscending es → k ≤ length es → ((i : ℕ) → i < k → place_at es i < f) → f ≤ p → (k < length es → p < place_at es k) → IsTaken es p k
taken_other es k f p a l b h n = record {
  inside = l;
  before = λ i m. less (place_at es i) (b i m);
  after = λ i m c. above_from es k p a (n (chain i m c)) i m c;
}
  where
    less : (x : ℕ) → x < f → x ≤ p
    less x g = omega arith

    chain : (i : ℕ) → k ≤ i → i < length es → k < length es
    chain i m c = omega arith

-- place p is the next, and x and y are what comes behind it
pub record IsNext (g : ℕ → Result ℚ Place) (n : ℕ) (xs ys : List Entry) (x y p : ℕ) (es : List Entry) : Type 0 where
  pub within : p < n
  pub formed : Formed g p es
  pub left : IsTaken xs p x
  pub right : IsTaken ys p y

pub next_push : (g : ℕ → Result ℚ Place) (n : ℕ) (xs ys : List Entry) (x y p : ℕ) (es made : List Entry) (e : Entry) → IsNext g n xs ys x y p es → e.place ≡ p → g p ≡ Ok (value e.number) → made ≡ es ++ (e ∷ []) → IsMerged g n xs ys x y made
next_push g n xs ys x y p es made e w pe ge me = merge_on g n xs ys x y p made w.within w.left w.right (formed_push g p es made e w.formed pe ge me)

pub next_skip : (g : ℕ → Result ℚ Place) (n : ℕ) (xs ys : List Entry) (x y p : ℕ) (es : List Entry) → IsNext g n xs ys x y p es → g p ≡ Ok zero_ℚ → IsMerged g n xs ys x y es
next_skip g n xs ys x y p es w ge = merge_on g n xs ys x y p es w.within w.left w.right (formed_skip g p es w.formed ge)

itself : (x y : ℕ) → x ≡ y → y ≤ x
itself x y e = omega arith

below : (x y : ℕ) → x < y → x ≤ y
below x y h = omega arith

-- ---- the second row has no entry at the first one's next place
pub left_next : (n i : ℕ) (a : Frac) (xs ys : List Entry) (x y : ℕ) (es : List Entry) (e : Entry) → AreEntries n xs → AreEntries n ys → IsMerged (merged_at n i (value a) xs ys) n xs ys x y es → x < length xs → e ≡ get_or xs x e → (y < length ys → e.place < place_at ys y) →
    IsNext (merged_at n i (value a) xs ys) n xs ys (x + 1) y e.place es
left_next n i a xs ys x y es e hx hy w l ee h =
    let g = merged_at n i (value a) xs ys in
    let p : place_at xs x ≡ e.place = (entry_read xs x e l ee).0 in
    record {
      within = subst (λ z. z < n) p (hx.within x l);
      formed = merge_to g n xs ys x y es e.place hx.ascending hy.ascending (merged_zero n i a xs ys) w (λ _. itself (place_at xs x) e.place p) (λ m. below e.place (place_at ys y) (h m)) (inl (l, p));
      left = taken_own xs x e.place hx.ascending l p;
      right = taken_other ys y w.front e.place hy.ascending w.y_inside w.y_before (subst (λ z. w.front ≤ z) p (w.x_after x (omega arith) l)) h;
    }

pub left_is : (n i : ℕ) (a : Frac) (xs ys : List Entry) (x y : ℕ) (es : List Entry) (e : Entry) → AreEntries n xs → AreEntries n ys → IsMerged (merged_at n i (value a) xs ys) n xs ys x y es → x < length xs → e ≡ get_or xs x e → (y < length ys → e.place < place_at ys y) →
    merged_at n i (value a) xs ys e.place ≡ Ok (value e.number)
left_is n i a xs ys x y es e hx hy w l ee h =
    let r = entry_read xs x e l ee in
    let t = (left_next n i a xs ys x y es e hx hy w l ee h).right in
    let z : number_of ys e.place ≡ zero_ℚ = number_between ys y e.place (λ q m. less (place_at ys q) (w.y_before q m) (subst (λ z. w.front ≤ z) r.0 (w.x_after x (omega arith) l))) t.after in
    ap (λ z. replaced_entry n i (value a) (e.place + 1) (number_of xs e.place) z) z
    ∙ plus_nothing n i (e.place + 1) (value a) (number_of xs e.place) (value_representable a) (number_representable xs e.place)
    ∙ ap Ok (number_found xs x e.place hx.ascending l r.0 ∙ r.1)
  where
    less : (z : ℕ) → z < w.front → w.front ≤ e.place → z < e.place
    less z b c = omega arith

-- ---- the first row has no entry at the second one's next place
pub right_next : (n i : ℕ) (a : Frac) (xs ys : List Entry) (x y : ℕ) (es : List Entry) (e : Entry) → AreEntries n xs → AreEntries n ys → IsMerged (merged_at n i (value a) xs ys) n xs ys x y es → y < length ys → e ≡ get_or ys y e → (x < length xs → e.place < place_at xs x) →
    IsNext (merged_at n i (value a) xs ys) n xs ys x (y + 1) e.place es
right_next n i a xs ys x y es e hx hy w l ee h =
    let g = merged_at n i (value a) xs ys in
    let p : place_at ys y ≡ e.place = (entry_read ys y e l ee).0 in
    record {
      within = subst (λ z. z < n) p (hy.within y l);
      formed = merge_to g n xs ys x y es e.place hx.ascending hy.ascending (merged_zero n i a xs ys) w (λ m. below e.place (place_at xs x) (h m)) (λ _. itself (place_at ys y) e.place p) (inr (l, p));
      left = taken_other xs x w.front e.place hx.ascending w.x_inside w.x_before (subst (λ z. w.front ≤ z) p (w.y_after y (omega arith) l)) h;
      right = taken_own ys y e.place hy.ascending l p;
    }

pub right_is : (n i : ℕ) (a : Frac) (xs ys : List Entry) (x y : ℕ) (es : List Entry) (e : Entry) (r : Result ℚ Place) → AreEntries n xs → AreEntries n ys → IsMerged (merged_at n i (value a) xs ys) n xs ys x y es → y < length ys → e ≡ get_or ys y e → (x < length xs → e.place < place_at xs x) →
    replaced_entry n i (value a) (e.place + 1) zero_ℚ (value e.number) ≡ r → merged_at n i (value a) xs ys e.place ≡ r
right_is n i a xs ys x y es e r hx hy w l ee h re =
    let s = entry_read ys y e l ee in
    let t = (right_next n i a xs ys x y es e hx hy w l ee h).left in
    let z : number_of xs e.place ≡ zero_ℚ = number_between xs x e.place (λ q m. less (place_at xs q) (w.x_before q m) (subst (λ z. w.front ≤ z) s.0 (w.y_after y (omega arith) l))) t.after in
    ap (λ z. replaced_entry n i (value a) (e.place + 1) z (number_of ys e.place)) z
    ∙ ap (replaced_entry n i (value a) (e.place + 1) zero_ℚ) (number_found ys y e.place hy.ascending l s.0 ∙ s.1)
    ∙ re
  where
    less : (z : ℕ) → z < w.front → w.front ≤ e.place → z < e.place
    less z b c = omega arith

-- ---- both rows have an entry at the next place
pub both_next : (n i : ℕ) (a : Frac) (xs ys : List Entry) (x y : ℕ) (es : List Entry) (d e : Entry) → AreEntries n xs → AreEntries n ys → IsMerged (merged_at n i (value a) xs ys) n xs ys x y es → x < length xs → d ≡ get_or xs x d → y < length ys → e ≡ get_or ys y e → d.place ≡ e.place →
    IsNext (merged_at n i (value a) xs ys) n xs ys (x + 1) (y + 1) d.place es
both_next n i a xs ys x y es d e hx hy w l de m ee s =
    let g = merged_at n i (value a) xs ys in
    let p : place_at xs x ≡ d.place = (entry_read xs x d l de).0 in
    let q : place_at ys y ≡ d.place = (entry_read ys y e m ee).0 ∙ sym s in
    record {
      within = subst (λ z. z < n) p (hx.within x l);
      formed = merge_to g n xs ys x y es d.place hx.ascending hy.ascending (merged_zero n i a xs ys) w (λ _. itself (place_at xs x) d.place p) (λ _. itself (place_at ys y) d.place q) (inl (l, p));
      left = taken_own xs x d.place hx.ascending l p;
      right = taken_own ys y d.place hy.ascending m q;
    }

pub both_is : (n i : ℕ) (a : Frac) (xs ys : List Entry) (x y : ℕ) (d e : Entry) (r : Result ℚ Place) → AreEntries n xs → AreEntries n ys → x < length xs → d ≡ get_or xs x d → y < length ys → e ≡ get_or ys y e → d.place ≡ e.place →
    replaced_entry n i (value a) (d.place + 1) (value d.number) (value e.number) ≡ r → merged_at n i (value a) xs ys d.place ≡ r
both_is n i a xs ys x y d e r hx hy l de m ee s re =
    let p = entry_read xs x d l de in
    let q = entry_read ys y e m ee in
    ap (λ z. replaced_entry n i (value a) (d.place + 1) z (number_of ys d.place)) (number_found xs x d.place hx.ascending l p.0 ∙ p.1)
    ∙ ap (replaced_entry n i (value a) (d.place + 1) (value d.number)) (number_found ys y d.place hy.ascending m (q.0 ∙ sym s) ∙ q.1)
    ∙ re

-- ---- a number that leaves the range
pub next_stop : (n i : ℕ) (a : ℚ) (xs ys : List Entry) (x y p : ℕ) (es : List Entry) (f : Place) → IsNext (merged_at n i a xs ys) n xs ys x y p es → merged_at n i a xs ys p ≡ Err f → each_pair (replaced_entry n i a) 1 (numbers_from 0 n xs) (numbers_from 0 n ys) ≡ Err f
next_stop n i a xs ys x y p es f w e = merged_stop n i a xs ys es p f w.formed w.within e

-- The loops that choose the leaving and the entering place.
use Rattle.std.proofs.Common.{◌≡◌, ℕ, ◌+◌, ◌<◌, ◌≤◌, ◌⊎◌, inl, inr, refl, sym, ap, ◌∙◌, subst, arith, List, [], ◌∷◌, length, get_or, drop, Bool, true, false, cond, Option, Some, None, Result, Ok, Err, IfSome, drop-cons}
use Rattle.std.specs.Global.{Vec}
use Prim.Native.Nat.{suc}
use Rattle.std.proofs.lemmas.List.{length-map}
use Rattle.std.proofs.lemmas.Bool.{false≢true}
use lib.IntN.{ℤ, pos}
use lib.Signed.{lt_z}
use Rattle.tetri_algebra.specs.Rational.{ℚ}
use Rattle.tetri_algebra.specs.RationalRing.{zero_ℚ, neg_ℚ}
use Rattle.tetri_num.specs.declared.fractions.Frac.{Frac}
use Rattle.tetri_num.specs.declared.places.Kind.TheVariants as Kind
use Rattle.tetri_num.specs.declared.places.Place.{Place}
use Rattle.tetri_num.specs.Checked.{checked_quotient}
use Rattle.tetri_num.specs.Frac.{value}
use Rattle.tetri_num.proofs.FractionLaws.{num-value}
use Rattle.tetri_dictionary.specs.declared.choices.Candidate.{Candidate}
use Rattle.tetri_dictionary.specs.Fractions.{values, rows_of}
use Rattle.tetri_dictionary.specs.Steps.{place_at, or_place}
use Rattle.tetri_base.specs.ResultSteps.{then_ok}
use Rattle.tetri_dictionary.specs.Tables.{coefficients_of, constant_of, is_negative, is_positive}
use Rattle.tetri_dictionary.specs.Choices.{lesser_place, leaving_from, lesser_ratio, entering_from, has_positive}
use Rattle.tetri_dictionary.specs.Candidates.{IsCandidate}
use Rattle.tetri_dictionary.proofs.Forming.{drop_past}
use Rattle.tetri_dictionary.proofs.Entries.{value_at_place, value_at_next}
use Rattle.tetri_dictionary.proofs.TableRows.{row_of_table}

more_is : (k : ℕ) → suc k ≡ k + 1
more_is k = omega arith

-- ---- leaving
pub leaving_more : (vs : List ℕ) (k : ℕ) (rows : List (List ℚ)) (best : Option ℕ) → k < length vs → k < length rows →
    leaving_from vs k (drop k vs) (drop k rows) best
    ≡ leaving_from vs (k + 1) (drop (k + 1) vs) (drop (k + 1) rows) (cond (is_negative (constant_of (get_or rows k []))) (lesser_place vs best k) best)
leaving_more vs k rows best h g =
    ap (λ us. leaving_from vs k us (drop k rows) best) (drop-cons vs k 0 h)
    ∙ ap (λ us. leaving_from vs k (get_or vs k 0 ∷ drop (suc k) vs) us best) (drop-cons rows k [] g)
    ∙ ap (λ j. leaving_from vs (k + 1) (drop j vs) (drop j rows) (cond (is_negative (constant_of (get_or rows k []))) (lesser_place vs best k) best)) (more_is k)

pub leaving_next : (vs : List ℕ) (k : ℕ) (rows : List (Vec Frac)) (best : Option ℕ) (d : Vec Frac) (f : Frac) (t : Bool) → k < length vs → k < length rows → 0 < length (get_or rows k d).items → f ≡ get_or (get_or rows k d).items 0 f → is_negative (value f) ≡ t →
    leaving_from vs (k + 1) (drop (k + 1) vs) (drop (k + 1) (rows_of rows)) (cond t (lesser_place vs best k) best) ≡ leaving_from vs k (drop k vs) (drop k (rows_of rows)) best
leaving_next vs k rows best d f t h g p e b =
    let s : is_negative (constant_of (get_or (rows_of rows) k [])) ≡ t =
    ap (λ z. is_negative (constant_of z)) (row_of_table rows k d g) ∙ ap is_negative (value_at_place (get_or rows k d).items 0 f p e) ∙ b in
    ap (λ z. leaving_from vs (k + 1) (drop (k + 1) vs) (drop (k + 1) (rows_of rows)) (cond z (lesser_place vs best k) best)) (sym s)
    ∙ sym (leaving_more vs k (rows_of rows) best h (subst (λ n. k < n) (sym (length-map rows (λ (y : Vec Frac). values y.items))) g))

pub leaving_done : (vs : List ℕ) (k : ℕ) (rows : List (List ℚ)) (best : Option ℕ) → length vs ≤ k → leaving_from vs k (drop k vs) (drop k rows) best ≡ best
leaving_done vs k rows best h = ap (λ us. leaving_from vs k us (drop k rows) best) (drop_past k vs h)

-- ---- a coefficient above 0
pub positive_next : (row : List Frac) (k : ℕ) (f : Frac) (t : Bool) → k < length row → f ≡ get_or row k f → is_positive (value f) ≡ t →
    has_positive (drop k (values row)) ≡ cond t true (has_positive (drop (k + 1) (values row)))
positive_next row k f t h e b =
    ap has_positive (drop-cons (values row) k zero_ℚ (subst (λ n. k < n) (sym (length-map row value)) h))
    ∙ ap (λ z. cond z true (has_positive (drop (suc k) (values row)))) (ap is_positive (value_at_place row k f h e) ∙ b)
    ∙ ap (λ j. cond t true (has_positive (drop j (values row)))) (more_is k)

pub positive_done : (row : List Frac) (k : ℕ) → length row ≤ k → has_positive (drop k (values row)) ≡ false
positive_done row k h = ap has_positive (drop_past k (values row) (subst (λ n. n ≤ k) (sym (length-map row value)) h))

pub positive_init : (row : List Frac) → has_positive (drop 1 (values row)) ≡ has_positive (coefficients_of (values row))
positive_init [] = refl
positive_init (x ∷ row) = refl

-- ---- entering
pub coefficient_at : (xs : List ℚ) (j : ℕ) → get_or (coefficients_of xs) j zero_ℚ ≡ get_or xs (suc j) zero_ℚ
coefficient_at [] j = refl
coefficient_at (x ∷ xs) j = refl

pub coefficient_within : (row : List Frac) (j : ℕ) → j + 1 < length row → j < length (coefficients_of (values row))
coefficient_within [] j h = absurd (omega arith)
coefficient_within (x ∷ row) j h = let e = length-map row value in omega arith

pub entering_more : (vs : List ℕ) (i j : ℕ) (cs ds : List ℚ) (best : Option (ℕ × ℚ)) → j < length cs → j < length ds →
    entering_from vs i j (drop j cs) (drop j ds) best
    ≡ cond (is_positive (get_or cs j zero_ℚ))
    (then_ok (or_place (checked_quotient (neg_ℚ (get_or ds j zero_ℚ)) (get_or cs j zero_ℚ)) Kind.Ratio i j) (λ x. entering_from vs i (j + 1) (drop (j + 1) cs) (drop (j + 1) ds) (lesser_ratio vs best j x)))
    (entering_from vs i (j + 1) (drop (j + 1) cs) (drop (j + 1) ds) best)
entering_more vs i j cs ds best h g =
    let a = get_or cs j zero_ℚ in
    let d = get_or ds j zero_ℚ in
    ap (λ us. entering_from vs i j us (drop j ds) best) (drop-cons cs j zero_ℚ h)
    ∙ ap (λ us. entering_from vs i j (a ∷ drop (suc j) cs) us best) (drop-cons ds j zero_ℚ g)
    ∙ ap (λ k. cond (is_positive a) (then_ok (or_place (checked_quotient (neg_ℚ d) a) Kind.Ratio i j) (λ x. entering_from vs i (j + 1) (drop k cs) (drop k ds) (lesser_ratio vs best j x)))
    (entering_from vs i (j + 1) (drop k cs) (drop k ds) best)) (more_is j)

abbrev pub rest_of : List ℕ → ℕ → List Frac → List Frac → ℕ → Option (ℕ × ℚ) → Result (Option (ℕ × ℚ)) Place
rest_of vs i row objective j best = entering_from vs i j (drop j (coefficients_of (values row))) (drop j (coefficients_of (values objective))) best

pub skipped : (vs : List ℕ) (i j : ℕ) (row objective : List Frac) (best : Option (ℕ × ℚ)) (a : Frac) → j + 1 < length row → j + 1 < length objective → a ≡ get_or row (j + 1) a → is_positive (value a) ≡ false →
    rest_of vs i row objective (j + 1) best ≡ rest_of vs i row objective j best
skipped vs i j row objective best a h g ae t =
    let cs = coefficients_of (values row) in
    let ds = coefficients_of (values objective) in
    let e : is_positive (get_or cs j zero_ℚ) ≡ false = ap is_positive (coefficient_at (values row) j ∙ value_at_next row j a h ae) ∙ t in
    sym (entering_more vs i j cs ds best (coefficient_within row j h) (coefficient_within objective j g)
    ∙ ap (λ z. cond z
    (then_ok (or_place (checked_quotient (neg_ℚ (get_or ds j zero_ℚ)) (get_or cs j zero_ℚ)) Kind.Ratio i j) (λ x. entering_from vs i (j + 1) (drop (j + 1) cs) (drop (j + 1) ds) (lesser_ratio vs best j x)))
    (entering_from vs i (j + 1) (drop (j + 1) cs) (drop (j + 1) ds) best)) e)

-- where the coefficient is above 0
weighed : (vs : List ℕ) (i j : ℕ) (row objective : List Frac) (best : Option (ℕ × ℚ)) (a d : Frac) (neg : ℚ) (o : Option ℚ) → j + 1 < length row → j + 1 < length objective → a ≡ get_or row (j + 1) a → d ≡ get_or objective (j + 1) d → is_positive (value a) ≡ true →
    neg ≡ neg_ℚ (value d) → checked_quotient neg (value a) ≡ o →
    rest_of vs i row objective j best ≡ then_ok (or_place o Kind.Ratio i j) (λ x. rest_of vs i row objective (j + 1) (lesser_ratio vs best j x))
weighed vs i j row objective best a d neg o h g ae de t ne q =
    let cs = coefficients_of (values row) in
    let ds = coefficients_of (values objective) in
    let ea : get_or cs j zero_ℚ ≡ value a = coefficient_at (values row) j ∙ value_at_next row j a h ae in
    let ed : get_or ds j zero_ℚ ≡ value d = coefficient_at (values objective) j ∙ value_at_next objective j d g de in
    let r : Option ℚ → Result (Option (ℕ × ℚ)) Place = λ p. then_ok (or_place p Kind.Ratio i j) (λ x. entering_from vs i (j + 1) (drop (j + 1) cs) (drop (j + 1) ds) (lesser_ratio vs best j x)) in
    entering_more vs i j cs ds best (coefficient_within row j h) (coefficient_within objective j g)
    ∙ ap (λ z. cond z (r (checked_quotient (neg_ℚ (get_or ds j zero_ℚ)) (get_or cs j zero_ℚ))) (entering_from vs i (j + 1) (drop (j + 1) cs) (drop (j + 1) ds) best)) (ap is_positive ea ∙ t)
    ∙ ap r (ap (λ z. checked_quotient (neg_ℚ z) (get_or cs j zero_ℚ)) ed ∙ ap (λ z. checked_quotient z (get_or cs j zero_ℚ)) (sym ne) ∙ ap (λ z. checked_quotient neg z) ea ∙ q)

pub taken : (vs : List ℕ) (i j : ℕ) (row objective : List Frac) (best : Option (ℕ × ℚ)) (a d x : Frac) (neg : ℚ) → j + 1 < length row → j + 1 < length objective → a ≡ get_or row (j + 1) a → d ≡ get_or objective (j + 1) d → is_positive (value a) ≡ true →
    neg ≡ neg_ℚ (value d) → checked_quotient neg (value a) ≡ Some (value x) →
    rest_of vs i row objective (j + 1) (lesser_ratio vs best j (value x)) ≡ rest_of vs i row objective j best
taken vs i j row objective best a d x neg h g ae de t ne q = sym (weighed vs i j row objective best a d neg (Some (value x)) h g ae de t ne q)

pub refused : (vs : List ℕ) (i j : ℕ) (row objective : List Frac) (best : Option (ℕ × ℚ)) (a d : Frac) (neg : ℚ) → j + 1 < length row → j + 1 < length objective → a ≡ get_or row (j + 1) a → d ≡ get_or objective (j + 1) d → is_positive (value a) ≡ true →
    neg ≡ neg_ℚ (value d) → checked_quotient neg (value a) ≡ None → rest_of vs i row objective j best ≡ Err (place_at Kind.Ratio i j)
refused vs i j row objective best a d neg h g ae de t ne q = weighed vs i j row objective best a d neg None h g ae de t ne q

pub entering_done : (vs : List ℕ) (i j : ℕ) (row objective : List Frac) (best : Option (ℕ × ℚ)) → length row ≤ j + 1 → rest_of vs i row objective j best ≡ Ok best
entering_done vs i j row objective best h = ap (λ us. entering_from vs i j us (drop j (coefficients_of (values objective))) best) (drop_past j (coefficients_of (values row)) (within row h))
  where
    within : (row : List Frac) → length row ≤ j + 1 → length (coefficients_of (values row)) ≤ j
    within [] h = omega arith
    within (x ∷ row) h = let e = length-map row value in omega arith

-- a coefficient above 0 is not 0
pub positive_not_zero : (f : Frac) → is_positive (value f) ≡ true → f.num ≡ pos 0 → ⊥
positive_not_zero f t e = by_num f.num (ap (λ z. lt_z (pos 0) z) (sym (num-value f)) ∙ t) e
  where
    by_num : (n : ℤ) → lt_z (pos 0) n ≡ true → n ≡ pos 0 → ⊥
    by_num n t e = false≢true (sym (ap (λ z. lt_z (pos 0) z) e) ∙ t)

-- the candidate after a step
pub candidate_kept : (vs : List ℕ) (row : List Frac) (j : ℕ) (a : Frac) (best after : Option Candidate) → j < length vs → j + 1 < length row → a ≡ get_or row (j + 1) a → is_positive (value a) ≡ true →
    IfSome best (λ b. IsCandidate vs (values row) b) → IfSome after (λ c. (c.place ≡ j) ⊎ (best ≡ Some c)) → IfSome after (λ b. IsCandidate vs (values row) b)
candidate_kept vs row j a best None h g ae t k f = tt
candidate_kept vs row j a best (Some c) h g ae t k f = by_side f
  where
    by_side : (c.place ≡ j) ⊎ (best ≡ Some c) → IsCandidate vs (values row) c
    by_side (inl e) = record { within = subst (λ z. z < length vs) (sym e) h; positive = ap (λ z. is_positive (get_or (values row) (suc z) zero_ℚ)) e ∙ ap is_positive (value_at_next row j a g ae) ∙ t }
    by_side (inr e) = subst (λ o. IfSome o (λ b. IsCandidate vs (values row) b)) e k

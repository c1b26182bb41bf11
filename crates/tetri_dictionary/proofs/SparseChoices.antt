-- The choices over rows of entries.
use Rattle.std.proofs.Common.{◌≡◌, ℕ, ◌+◌, ◌<◌, ◌≤◌, ◌-◌, refl, sym, ap, ◌∙◌, subst, arith, List, [], ◌∷◌, length, get_or, drop, Bool, true, false, cond, eqb, Option, Some, None, Result, Ok, Err, IfSome, ◌⊎◌, inl, inr, ⊎_elim}
use Prim.Native.Nat.{zero, suc}
use Rattle.std.proofs.lemmas.Bool.{cases_lt}
use Rattle.std.proofs.lemmas.List.{length-map, get_or-map}
use lib.IntN.{pos}
use lib.Signed.{lt_z}
use Rattle.tetri_algebra.specs.Rational.{ℚ}
use Rattle.tetri_algebra.specs.RationalRing.{zero_ℚ, neg_ℚ, num-whole_ℚ}
use Rattle.tetri_num.specs.declared.fractions.Frac.{Frac}
use Rattle.tetri_num.specs.declared.places.Kind.TheVariants as Kind
use Rattle.tetri_num.specs.declared.places.Place.{Place}
use Rattle.tetri_num.specs.Checked.{checked_quotient}
use Rattle.tetri_num.specs.Frac.{value}
use Rattle.tetri_dictionary.specs.declared.choices.Candidate.{Candidate}
use Rattle.tetri_dictionary.specs.declared.lines.Entry.{Entry}
use Rattle.tetri_dictionary.specs.declared.lines.Line.{Line}
use Rattle.tetri_dictionary.specs.Choices.{entering_from, has_positive, leaving_from, lesser_place, lesser_ratio}
use Rattle.tetri_dictionary.specs.Sparse.{AreAscending, AreEntries, lines_of, line_of, number_at, number_of, numbers_from, place_at}
use Rattle.tetri_dictionary.specs.Steps.{place_at as the_place, or_place}
use Rattle.tetri_base.specs.ResultSteps.{then_ok}
use Rattle.tetri_dictionary.specs.Tables.{constant_of, is_negative, is_positive}
use Rattle.tetri_dictionary.proofs.Choosing.{entering_more, leaving_more}
use Rattle.tetri_dictionary.proofs.Forming.{drop_past}
use Rattle.tetri_dictionary.proofs.SparseRows.{coefficient_get, entry_read, number_absent, number_found, numbers_length}

-- ---- leaving
pub leaving_next : (n : ℕ) (vs : List ℕ) (k : ℕ) (ls : List Line) (best : Option ℕ) (d : Line) (t : Bool) → k < length vs → k < length ls → d ≡ get_or ls k d → is_negative (value d.constant) ≡ t →
    leaving_from vs (k + 1) (drop (k + 1) vs) (drop (k + 1) (lines_of n ls)) (cond t (lesser_place vs best k) best) ≡ leaving_from vs k (drop k vs) (drop k (lines_of n ls)) best
leaving_next n vs k ls best d t h g e b =
    let s : is_negative (constant_of (get_or (lines_of n ls) k [])) ≡ t =
    ap (λ z. is_negative (constant_of z)) (get_or-map (line_of n) ls k d [] g) ∙ ap (λ (l : Line). is_negative (value l.constant)) (sym e) ∙ b in
    ap (λ z. leaving_from vs (k + 1) (drop (k + 1) vs) (drop (k + 1) (lines_of n ls)) (cond z (lesser_place vs best k) best)) (sym s)
    ∙ sym (leaving_more vs k (lines_of n ls) best h (subst (λ m. k < m) (sym (length-map ls (line_of n))) g))

-- ---- a coefficient above 0
has_at : (cs : List ℚ) (q : ℕ) → q < length cs → is_positive (get_or cs q zero_ℚ) ≡ true → has_positive cs ≡ true
has_at [] q l h = absurd (omega arith)
has_at (c ∷ cs) zero l h = ap (λ t. cond t true (has_positive cs)) h
has_at (c ∷ cs) (suc q) l h = by_test (is_positive c) (has_at cs q (omega arith) h)
  where
    by_test : (t : Bool) → has_positive cs ≡ true → cond t true (has_positive cs) ≡ true
    by_test true e = refl
    by_test false e = e

has_none : (cs : List ℚ) → ((q : ℕ) → q < length cs → is_positive (get_or cs q zero_ℚ) ≡ false) → has_positive cs ≡ false
has_none [] h = refl
has_none (c ∷ cs) h = ap (λ t. cond t true (has_positive cs)) (h 0 (omega arith)) ∙ has_none cs (λ q l. h (suc q) (omega arith))

zero_not_positive : is_positive zero_ℚ ≡ false
zero_not_positive = ap (λ z. lt_z (pos 0) z) (num-whole_ℚ (pos 0))

none_positive : (es : List Entry) (j : ℕ) → ((q : ℕ) → q < length es → is_positive (number_at es q) ≡ false) → is_positive (number_of es j) ≡ false
none_positive [] j h = zero_not_positive
none_positive (e ∷ es) j h = by_test (eqb e.place j) (none_positive es j (λ q l. h (suc q) (omega arith)))
  where
    by_test : (t : Bool) → is_positive (number_of es j) ≡ false → is_positive (cond t (value e.number) (number_of es j)) ≡ false
    by_test true g = h 0 (omega arith)
    by_test false g = g

pub rises_at : (n : ℕ) (es : List Entry) (k : ℕ) → AreEntries n es → k < length es → is_positive (number_at es k) ≡ true → has_positive (numbers_from 0 n es) ≡ true
rises_at n es k h l p =
    has_at (numbers_from 0 n es) (place_at es k) (subst (λ z. place_at es k < z) (sym (numbers_length 0 n es)) (h.within k l))
    (ap is_positive (coefficient_get n es (place_at es k) (h.within k l) ∙ number_found es k (place_at es k) h.ascending l refl) ∙ p)

pub rises_not : (n : ℕ) (es : List Entry) → ((q : ℕ) → q < length es → is_positive (number_at es q) ≡ false) → has_positive (numbers_from 0 n es) ≡ false
rises_not n es h = has_none (numbers_from 0 n es) (λ q l. ap is_positive (coefficient_get n es q (subst (λ z. q < z) (numbers_length 0 n es) l)) ∙ none_positive es q h)

-- ---- entering
-- a candidate's coefficient is above 0
abbrev pub IsAbove : List ℕ → List Entry → Candidate → Type 0
IsAbove nonbasic es c = (c.place < length nonbasic) × (is_positive (number_of es c.place) ≡ true)

-- from place f on
abbrev pub rest_of : List ℕ → ℕ → List Entry → List Entry → ℕ → Option (ℕ × ℚ) → Result (Option (ℕ × ℚ)) Place
rest_of vs i es ds f best = entering_from vs i f (drop f (numbers_from 0 (length vs) es)) (drop f (numbers_from 0 (length vs) ds)) best

-- the places before `front` are done
pub record IsEntering (nonbasic : List ℕ) (i : ℕ) (es ds : List Entry) (k : ℕ) (best : Option (ℕ × ℚ)) : Type 0 where
  pub front : ℕ
  pub inside : front ≤ length nonbasic
  pub before : (q : ℕ) → q < k → place_at es q < front
  pub after : (q : ℕ) → k ≤ q → q < length es → front ≤ place_at es q
  pub formed : rest_of nonbasic i es ds front best ≡ rest_of nonbasic i es ds 0 None

pub entering_none : (vs : List ℕ) (i : ℕ) (es ds : List Entry) → IsEntering vs i es ds 0 None
entering_none vs i es ds = record {
  front = 0;
  inside = omega arith;
  before = λ q l. absurd (omega arith);
  after = λ q l m. omega arith;
  formed = refl;
}

one_on : (vs : List ℕ) (i : ℕ) (es ds : List Entry) (f : ℕ) (best : Option (ℕ × ℚ)) → f < length vs → is_positive (number_of es f) ≡ false → rest_of vs i es ds f best ≡ rest_of vs i es ds (f + 1) best
one_on vs i es ds f best l h =
    let n = length vs in
    let cs = numbers_from 0 n es in
    let us = numbers_from 0 n ds in
    entering_more vs i f cs us best (subst (λ z. f < z) (sym (numbers_length 0 n es)) l) (subst (λ z. f < z) (sym (numbers_length 0 n ds)) l)
    ∙ ap (λ t. cond t
    (then_ok (or_place (checked_quotient (neg_ℚ (get_or us f zero_ℚ)) (get_or cs f zero_ℚ)) Kind.Ratio i f) (λ x. entering_from vs i (f + 1) (drop (f + 1) cs) (drop (f + 1) us) (lesser_ratio vs best f x)))
    (entering_from vs i (f + 1) (drop (f + 1) cs) (drop (f + 1) us) best)) (ap is_positive (coefficient_get n es f l) ∙ h)

leap : (vs : List ℕ) (i : ℕ) (es ds : List Entry) (d f p : ℕ) (best : Option (ℕ × ℚ)) → p ≡ f + d → p ≤ length vs → ((q : ℕ) → f ≤ q → q < p → number_of es q ≡ zero_ℚ) → rest_of vs i es ds f best ≡ rest_of vs i es ds p best
leap vs i es ds zero f p best e l z = let s : f ≡ p = omega arith in ap (λ k. rest_of vs i es ds k best) s
leap vs i es ds (suc d) f p best e l z =
    one_on vs i es ds f best (omega arith) (ap is_positive (z f (omega arith) (omega arith)) ∙ zero_not_positive)
    ∙ leap vs i es ds d (f + 1) p best (omega arith) l (λ q a b. z q (omega arith) b)

gap : (vs : List ℕ) (i : ℕ) (es ds : List Entry) (k : ℕ) (best : Option (ℕ × ℚ)) (w : IsEntering vs i es ds k best) (p : ℕ) → ((q : ℕ) → k ≤ q → q < length es → p ≤ place_at es q) → (q : ℕ) → w.front ≤ q → q < p → number_of es q ≡ zero_ℚ
gap vs i es ds k best w p h q l m = number_absent es q (λ j b e. ⊎_elim (λ c. less (place_at es j) (w.before j c) e) (λ c. more (place_at es j) (h j c b) e) (cases_lt j k))
  where
    less : (x : ℕ) → x < w.front → x ≡ q → ⊥
    less x c e = omega arith

    more : (x : ℕ) → p ≤ x → x ≡ q → ⊥
    more x c e = omega arith

leap_to : (vs : List ℕ) (i : ℕ) (es ds : List Entry) (k : ℕ) (best : Option (ℕ × ℚ)) (w : IsEntering vs i es ds k best) (p : ℕ) → w.front ≤ p → p ≤ length vs → ((q : ℕ) → k ≤ q → q < length es → p ≤ place_at es q) → rest_of vs i es ds p best ≡ rest_of vs i es ds 0 None
leap_to vs i es ds k best w p a b h = sym (leap vs i es ds (p - w.front) w.front p best (omega arith) b (gap vs i es ds k best w p h)) ∙ w.formed

ascends_from : (es : List Entry) (k : ℕ) → AreAscending es → k < length es → (q : ℕ) → k ≤ q → q < length es → place_at es k ≤ place_at es q
ascends_from es k a l q m b = ⊎_elim (λ c. below (place_at es k) (place_at es q) (a k q c b)) (λ c. at (same c)) (cases_lt k q)
  where
    below : (x y : ℕ) → x < y → x ≤ y
    below x y h = omega arith

    same : q ≤ k → q ≡ k
    same c = omega arith

    at : q ≡ k → place_at es k ≤ place_at es q
    at s = let e = ap (place_at es) s in omega arith

to_next : (vs : List ℕ) (i : ℕ) (es ds : List Entry) (k : ℕ) (best : Option (ℕ × ℚ)) → AreEntries (length vs) es → IsEntering vs i es ds k best → k < length es → rest_of vs i es ds (place_at es k) best ≡ rest_of vs i es ds 0 None
to_next vs i es ds k best h w l =
    leap_to vs i es ds k best w (place_at es k) (w.after k (omega arith) l) (at_most (place_at es k) (h.within k l)) (ascends_from es k h.ascending l)
  where
    at_most : (x : ℕ) → x < length vs → x ≤ length vs
    at_most x b = omega arith

on_from : (vs : List ℕ) (i : ℕ) (es ds : List Entry) (k : ℕ) (best after : Option (ℕ × ℚ)) → AreEntries (length vs) es → k < length es → rest_of vs i es ds (place_at es k + 1) after ≡ rest_of vs i es ds 0 None → IsEntering vs i es ds (k + 1) after
on_from vs i es ds k best after h l e = record {
  front = place_at es k + 1;
  inside = inside (place_at es k) (h.within k l);
  before = λ q m. ⊎_elim (λ c. less (place_at es q) (h.ascending q k c l)) (λ c. own q (same q m c)) (cases_lt q k);
  after = λ q m b. more (place_at es q) (h.ascending k q (next q m) b);
  formed = e;
}
  where
    inside : (x : ℕ) → x < length vs → x + 1 ≤ length vs
    inside x b = omega arith

    less : (x : ℕ) → x < place_at es k → x < place_at es k + 1
    less x b = omega arith

    more : (x : ℕ) → place_at es k < x → place_at es k + 1 ≤ x
    more x b = omega arith

    same : (q : ℕ) → q < k + 1 → k ≤ q → q ≡ k
    same q b c = omega arith

    next : (q : ℕ) → k + 1 ≤ q → k < q
    next q b = omega arith

    own : (q : ℕ) → q ≡ k → place_at es q < place_at es k + 1
    own q s = let e = ap (place_at es) s in omega arith

pub entering_skipped : (vs : List ℕ) (i : ℕ) (es ds : List Entry) (k : ℕ) (best : Option (ℕ × ℚ)) (e : Entry) → AreEntries (length vs) es → IsEntering vs i es ds k best → k < length es → e ≡ get_or es k e → is_positive (value e.number) ≡ false → IsEntering vs i es ds (k + 1) best
entering_skipped vs i es ds k best e h w l ee p =
    let r = entry_read es k e l ee in
    on_from vs i es ds k best best h l
    (sym (one_on vs i es ds (place_at es k) best (h.within k l) (ap is_positive (number_found es k (place_at es k) h.ascending l refl ∙ r.1) ∙ p)) ∙ to_next vs i es ds k best h w l)

weighed : (vs : List ℕ) (i : ℕ) (es ds : List Entry) (k : ℕ) (best : Option (ℕ × ℚ)) (e : Entry) (d neg : Frac) (o : Option ℚ) → AreEntries (length vs) es → k < length es → e ≡ get_or es k e → is_positive (value e.number) ≡ true → value d ≡ number_of ds e.place → value neg ≡ neg_ℚ (value d) →
    checked_quotient (value neg) (value e.number) ≡ o → rest_of vs i es ds (place_at es k) best ≡ then_ok (or_place o Kind.Ratio i (place_at es k)) (λ x. rest_of vs i es ds (place_at es k + 1) (lesser_ratio vs best (place_at es k) x))
weighed vs i es ds k best e d neg o h l ee p de ne q =
    let n = length vs in
    let f = place_at es k in
    let cs = numbers_from 0 n es in
    let us = numbers_from 0 n ds in
    let r = entry_read es k e l ee in
    let b = h.within k l in
    let ea : get_or cs f zero_ℚ ≡ value e.number = coefficient_get n es f b ∙ number_found es k f h.ascending l refl ∙ r.1 in
    let ed : get_or us f zero_ℚ ≡ value d = coefficient_get n ds f b ∙ ap (number_of ds) r.0 ∙ sym de in
    let g : Option ℚ → Result (Option (ℕ × ℚ)) Place = λ p. then_ok (or_place p Kind.Ratio i f) (λ x. entering_from vs i (f + 1) (drop (f + 1) cs) (drop (f + 1) us) (lesser_ratio vs best f x)) in
    entering_more vs i f cs us best (subst (λ z. f < z) (sym (numbers_length 0 n es)) b) (subst (λ z. f < z) (sym (numbers_length 0 n ds)) b)
    ∙ ap (λ t. cond t (g (checked_quotient (neg_ℚ (get_or us f zero_ℚ)) (get_or cs f zero_ℚ))) (entering_from vs i (f + 1) (drop (f + 1) cs) (drop (f + 1) us) best)) (ap is_positive ea ∙ p)
    ∙ ap g (ap (λ z. checked_quotient (neg_ℚ z) (get_or cs f zero_ℚ)) ed ∙ ap (λ z. checked_quotient z (get_or cs f zero_ℚ)) (sym ne) ∙ ap (λ z. checked_quotient (value neg) z) ea ∙ q)

pub entering_taken : (vs : List ℕ) (i : ℕ) (es ds : List Entry) (k : ℕ) (best after : Option (ℕ × ℚ)) (e : Entry) (d neg x : Frac) → AreEntries (length vs) es → IsEntering vs i es ds k best → k < length es → e ≡ get_or es k e → is_positive (value e.number) ≡ true →
    value d ≡ number_of ds e.place → value neg ≡ neg_ℚ (value d) → checked_quotient (value neg) (value e.number) ≡ Some (value x) → after ≡ lesser_ratio vs best e.place (value x) → IsEntering vs i es ds (k + 1) after
entering_taken vs i es ds k best after e d neg x h w l ee p de ne q ae =
    let r = entry_read es k e l ee in
    on_from vs i es ds k best after h l
    (ap (λ b. rest_of vs i es ds (place_at es k + 1) b) (ae ∙ ap (λ f. lesser_ratio vs best f (value x)) (sym r.0))
    ∙ sym (weighed vs i es ds k best e d neg (Some (value x)) h l ee p de ne q) ∙ to_next vs i es ds k best h w l)

pub entering_refused : (vs : List ℕ) (i : ℕ) (es ds : List Entry) (k : ℕ) (best : Option (ℕ × ℚ)) (e : Entry) (d neg : Frac) → AreEntries (length vs) es → IsEntering vs i es ds k best → k < length es → e ≡ get_or es k e → is_positive (value e.number) ≡ true →
    value d ≡ number_of ds e.place → value neg ≡ neg_ℚ (value d) → checked_quotient (value neg) (value e.number) ≡ None → rest_of vs i es ds 0 None ≡ Err (the_place Kind.Ratio i e.place)
entering_refused vs i es ds k best e d neg h w l ee p de ne q =
    let r = entry_read es k e l ee in
    sym (to_next vs i es ds k best h w l) ∙ weighed vs i es ds k best e d neg None h l ee p de ne q ∙ ap (λ f. Err (the_place Kind.Ratio i f)) r.0

pub entering_done : (vs : List ℕ) (i : ℕ) (es ds : List Entry) (k : ℕ) (best : Option (ℕ × ℚ)) → IsEntering vs i es ds k best → length es ≤ k → rest_of vs i es ds 0 None ≡ Ok best
entering_done vs i es ds k best w l =
    let n = length vs in
    let e : length (numbers_from 0 n es) ≤ n = subst (λ z. z ≤ n) (sym (numbers_length 0 n es)) (itself n) in
    sym (leap_to vs i es ds k best w n w.inside (itself n) (λ q m b. absurd (contrary q m b)))
    ∙ ap (λ cs. entering_from vs i n cs (drop n (numbers_from 0 n ds)) best) (drop_past n (numbers_from 0 n es) e)
  where
    itself : (n : ℕ) → n ≤ n
    itself n = omega arith

    contrary : (q : ℕ) → k ≤ q → q < length es → ⊥
    contrary q m b = omega arith

-- the candidate after a step
pub above_kept : (vs : List ℕ) (es : List Entry) (k : ℕ) (e : Entry) (best after : Option Candidate) → AreEntries (length vs) es → k < length es → e ≡ get_or es k e → is_positive (value e.number) ≡ true →
    IfSome best (λ c. IsAbove vs es c) → IfSome after (λ c. (c.place ≡ e.place) ⊎ (best ≡ Some c)) → IfSome after (λ c. IsAbove vs es c)
above_kept vs es k e best None h l ee p b f = tt
above_kept vs es k e best (Some c) h l ee p b f = by_side f
  where
    by_side : (c.place ≡ e.place) ⊎ (best ≡ Some c) → IsAbove vs es c
    by_side (inl s) =
        let r = entry_read es k e l ee in
        let t : place_at es k ≡ c.place = r.0 ∙ sym s in
        (subst (λ z. z < length vs) t (h.within k l), ap is_positive (number_found es k c.place h.ascending l t ∙ r.1) ∙ p)
    by_side (inr s) = subst (λ o. IfSome o (λ c. IsAbove vs es c)) s b

-- The terms of a row from its entries.
use Rattle.std.proofs.Common.{◌≡◌, ℕ, zero, suc, ◌+◌, ◌-◌, ◌*◌, ◌^◌, ◌<◌, ◌≤◌, ◌==◌, Bool, true, false, cond, List, [], ◌∷◌, ◌++◌, length, map, refl, sym, ap, ◌∙◌, subst, arith, inl, inr}
use Rattle.std.specs.List.{range_with_len, sum_by}
use Rattle.std.specs.List.Sorted.{IsPermutation}
use Rattle.std.proofs.lemmas.Bool.{cases_eq}
use Rattle.std.proofs.lemmas.List.{append-nil}
use Rattle.std.proofs.lemmas.List.Sums.{sum_by-cons}
use Rattle.std.proofs.lemmas.List.Sorted.{sum_by-IsPermutation, Contains-permutation, IsPermutation-sym}
use lib.IntN.{pos, ◌-ℤ◌}
use Rattle.tetri_ip.specs.declared.programs.Term.{Term}
use Rattle.tetri_base.specs.Lists.{Each, EachPair, sum_of}
use Rattle.tetri_base.proofs.ListLaws.{test_from_eq, test_from_ne, sum_of-append, sum_of-map, Each-map, Each-all, Each-append, Each-at, Each-from}
use Rattle.tetri_compile.specs.Flat.{coefficient, terms_at}
use Rattle.tetri_compile.specs.Forms.{Form}
use Rattle.tetri_compile.proofs.EntryLemmas.{sum_of-moved}
use Rattle.tetri_compile.proofs.ProgramLemmas.{terms_skip, terms_keep, range_over}
use Rattle.tetri_wide.specs.declared.terms.Sides.{Sides}
use Rattle.tetri_wide.specs.Entries.{on_left, on_right, times_in, AreEntriesOf, term_of}

-- ---- the entries of two forms
nothing : (b : Bool) → let none : ℕ = 0 in cond b none none ≡ none
nothing true = refl
nothing false = refl

right_plus : (f : Form) (j : ℕ) → times_in (λ e. e.plus) (map on_right f) j ≡ 0
right_plus [] j = refl
right_plus (s ∷ f) j = omega (arith, nothing (s.column == j), right_plus f j)

left_minus : (f : Form) (j : ℕ) → times_in (λ e. e.minus) (map on_left f) j ≡ 0
left_minus [] j = refl
left_minus (s ∷ f) j = omega (arith, nothing (s.column == j), left_minus f j)

right_none : (f : Form) → sum_of (λ e. e.plus) (map on_right f) ≡ 0
right_none [] = refl
right_none (s ∷ f) = omega (arith, right_none f)

left_none : (f : Form) → sum_of (λ e. e.minus) (map on_left f) ≡ 0
left_none [] = refl
left_none (s ∷ f) = omega (arith, left_none f)

pub both_plus : (f g : Form) (j : ℕ) → times_in (λ e. e.plus) (map on_left f ++ map on_right g) j ≡ coefficient f j
both_plus f g j =
    let left : times_in (λ e. e.plus) (map on_left f) j ≡ coefficient f j = sum_of-map (λ (e : Sides). cond (e.column == j) e.plus 0) on_left f in
    omega (arith, sum_of-append (λ (e : Sides). cond (e.column == j) e.plus 0) (map on_left f) (map on_right g), left, right_plus g j)

pub both_minus : (f g : Form) (j : ℕ) → times_in (λ e. e.minus) (map on_left f ++ map on_right g) j ≡ coefficient g j
both_minus f g j =
    let right : times_in (λ e. e.minus) (map on_right g) j ≡ coefficient g j = sum_of-map (λ (e : Sides). cond (e.column == j) e.minus 0) on_right g in
    omega (arith, sum_of-append (λ (e : Sides). cond (e.column == j) e.minus 0) (map on_left f) (map on_right g), right, left_minus f j)

pub all_plus : (f g : Form) → sum_of (λ e. e.plus) (map on_left f ++ map on_right g) ≡ sum_of (λ s. s.by) f
all_plus f g =
    let left : sum_of (λ e. e.plus) (map on_left f) ≡ sum_of (λ s. s.by) f = sum_of-map (λ (e : Sides). e.plus) on_left f in
    omega (arith, sum_of-append (λ (e : Sides). e.plus) (map on_left f) (map on_right g), left, right_none g)

pub all_minus : (f g : Form) → sum_of (λ e. e.minus) (map on_left f ++ map on_right g) ≡ sum_of (λ s. s.by) g
all_minus f g =
    let right : sum_of (λ e. e.minus) (map on_right g) ≡ sum_of (λ s. s.by) g = sum_of-map (λ (e : Sides). e.minus) on_right g in
    omega (arith, sum_of-append (λ (e : Sides). e.minus) (map on_left f) (map on_right g), right, left_none f)

-- ---- in another order
each_moved : {X : Type 0} (P : X → Type 0) (xs ys : List X) → IsPermutation xs ys → Each P xs → Each P ys
each_moved P xs ys moved h = Each-from P ys (λ y at. Each-at P xs y h (Contains-permutation ys xs y (IsPermutation-sym xs ys moved) at))

pub below_moved : (n : ℕ) (f g : Form) (es sorted : List Sides) → es ≡ map on_left f ++ map on_right g → IsPermutation es sorted →
    Each (λ s. s.column < n) f → Each (λ s. s.column < n) g → Each (λ e. e.column < n) sorted
below_moved n f g es sorted are moved p q =
    each_moved (λ e. e.column < n) es sorted moved
    (subst (Each (λ (e : Sides). e.column < n)) (sym are) (Each-append (λ e. e.column < n) (map on_left f) (map on_right g) (left f p) (right g q)))
  where
    left : (h : Form) → Each (λ s. s.column < n) h → Each (λ e. e.column < n) (map on_left h)
    left [] r = tt
    left (s ∷ h) r = (r.0, left h r.1)

    right : (h : Form) → Each (λ s. s.column < n) h → Each (λ e. e.column < n) (map on_right h)
    right [] r = tt
    right (s ∷ h) r = (r.0, right h r.1)

-- ---- the terms of entries
abbrev joined : Sides → Sides → Sides
joined d e = record { column = d.column; plus = d.plus + e.plus; minus = d.minus + e.minus }

-- the terms of an entry and those after it, where entries of one column are added
abbrev pub terms_after : Sides → List Sides → List Term
terms_after d [] = term_of d
terms_after d (e ∷ es) = cond (d.column == e.column) (terms_after (joined d e) es) (term_of d ++ terms_after e es)

none_in : (side : Sides → ℕ) (es : List Sides) (j : ℕ) → Each (λ e. j < e.column) es → times_in side es j ≡ 0
none_in side [] j h = refl
none_in side (e ∷ es) j h =
    let no : cond (e.column == j) (side e) 0 ≡ 0 = ap (λ b. cond b (side e) 0) (test_from_ne e.column j (λ (k : e.column ≡ j). omega (arith, h.0))) in
    omega (arith, no, none_in side es j h.1)

times_here : (side : Sides → ℕ) (d : Sides) (es : List Sides) → Each (λ e. d.column < e.column) es → times_in side (d ∷ es) d.column ≡ side d
times_here side d es h =
    let yes : cond (d.column == d.column) (side d) 0 ≡ side d = ap (λ b. cond b (side d) 0) (test_from_eq d.column d.column refl) in
    omega (arith, yes, none_in side es d.column h)

times_past : (side : Sides → ℕ) (d : Sides) (es : List Sides) (j : ℕ) → d.column < j → times_in side (d ∷ es) j ≡ times_in side es j
times_past side d es j lt =
    let no : cond (d.column == j) (side d) 0 ≡ 0 = ap (λ b. cond b (side d) 0) (test_from_ne d.column j (λ (k : d.column ≡ j). omega (arith, lt))) in
    omega (arith, no)

times_joined : (side : Sides → ℕ) (d e : Sides) (es : List Sides) (j : ℕ) → d.column ≡ e.column → side (joined d e) ≡ side d + side e →
    times_in side (joined d e ∷ es) j ≡ times_in side (d ∷ e ∷ es) j
times_joined side d e es j same both =
    let moved : cond (d.column == j) (side e) 0 ≡ cond (e.column == j) (side e) 0 = ap (λ (c : ℕ). cond (c == j) (side e) 0) same in
    omega (arith, moved, by_test (d.column == j))
  where
    by_test : (b : Bool) → cond b (side (joined d e)) 0 ≡ cond b (side d) 0 + cond b (side e) 0
    by_test true = both
    by_test false = refl

module _ (f g : Form) (m : ℕ) where
  abbrev from : ℕ → List Term
  from a = terms_at f g (range_with_len a (m - a))

  skip_to : (k a : ℕ) → a + k ≤ m → ((j : ℕ) → a ≤ j → j < a + k → coefficient f j ≡ coefficient g j) → from a ≡ from (a + k)
  skip_to zero a le h = let e : a ≡ a + 0 = omega arith in ap from e
  skip_to (suc k) a le h =
      let e : a + 1 + k ≡ a + suc k = omega arith in
      terms_skip f g a m (omega (arith, le)) (h a (omega arith) (omega arith))
      ∙ skip_to k (a + 1) (omega (arith, le)) (λ j low high. h j (omega (arith, low)) (omega (arith, high)))
      ∙ ap from e

  rest_none : (a : ℕ) → a ≤ m → ((j : ℕ) → a ≤ j → coefficient f j ≡ coefficient g j) → from a ≡ []
  rest_none a le h = skip_to (m - a) a (omega (arith, le)) (λ j low high. h j low) ∙ ap (terms_at f g) (range_over (a + (m - a)) m (omega (arith, le)))

  here : (d : Sides) → d.column < m → coefficient f d.column ≡ d.plus → coefficient g d.column ≡ d.minus → from d.column ≡ term_of d ++ from (d.column + 1)
  here d lt p q =
      let a = d.column in
      let t : Term = record { column = a; by = pos d.plus -ℤ pos d.minus } in
      elim (cases_eq d.plus d.minus) [
        | inl same ↦
            terms_skip f g a m lt (p ∙ same ∙ sym q)
            ∙ ap (λ (b : Bool). cond b [] (t ∷ []) ++ from (a + 1)) (sym (test_from_eq d.plus d.minus same))
        | inr differ ↦
            terms_keep f g a m lt (λ e. differ (sym p ∙ e ∙ q))
            ∙ ap (λ (n : ℕ). (let u : Term = record { column = a; by = pos n -ℤ pos (coefficient g a) } in u) ∷ from (a + 1)) p
            ∙ ap (λ (n : ℕ). (let u : Term = record { column = a; by = pos d.plus -ℤ pos n } in u) ∷ from (a + 1)) q
            ∙ ap (λ (b : Bool). cond b [] (t ∷ []) ++ from (a + 1)) (sym (test_from_ne d.plus d.minus differ))
      ]

  gathered : (d : Sides) (es : List Sides) → EachPair (λ x y. x.column ≤ y.column) (d ∷ es) → Each (λ e. e.column < m) (d ∷ es) →
      ((j : ℕ) → d.column ≤ j → times_in (λ e. e.plus) (d ∷ es) j ≡ coefficient f j) →
      ((j : ℕ) → d.column ≤ j → times_in (λ e. e.minus) (d ∷ es) j ≡ coefficient g j) →
      terms_after d es ≡ from d.column
  gathered d [] up below plus minus =
      let p = sym (plus d.column (omega arith)) ∙ times_here (λ e. e.plus) d [] tt in
      let q = sym (minus d.column (omega arith)) ∙ times_here (λ e. e.minus) d [] tt in
      let lt : d.column < m = below.0 in
      let none = rest_none (d.column + 1) (omega (arith, lt)) (λ j low.
      sym (plus j (omega (arith, low))) ∙ times_past (λ e. e.plus) d [] j (omega (arith, low))
      ∙ sym (times_past (λ e. e.minus) d [] j (omega (arith, low))) ∙ minus j (omega (arith, low))) in
      sym (here d lt p q ∙ ap (λ ts. term_of d ++ ts) none ∙ append-nil (term_of d))
  gathered d (e ∷ es) up below plus minus =
      let A = terms_after (joined d e) es in
      let B = term_of d ++ terms_after e es in
      elim (cases_eq d.column e.column) [
        | inl same ↦
            ap (λ (b : Bool). cond b A B) (test_from_eq d.column e.column same)
            ∙ gathered (joined d e) es (up.0.1, up.1.1) (below.0, below.1.1)
            (λ j low. times_joined (λ x. x.plus) d e es j same refl ∙ plus j low)
            (λ j low. times_joined (λ x. x.minus) d e es j same refl ∙ minus j low)
        | inr differ ↦
            let le : d.column ≤ e.column = up.0.0 in
            let lt : d.column < e.column = omega (arith, le, differ) in
            let short : e.column < m = below.1.0 in
            let later : Each (λ x. d.column < x.column) (e ∷ es) = (lt, Each-map (λ (x : Sides). e.column ≤ x.column) (λ (x : Sides). d.column < x.column) (λ x h. omega (arith, h, lt)) es up.1.0) in
            let p = sym (plus d.column (omega arith)) ∙ times_here (λ x. x.plus) d (e ∷ es) later in
            let q = sym (minus d.column (omega arith)) ∙ times_here (λ x. x.minus) d (e ∷ es) later in
            let plus' : (j : ℕ) → d.column < j → times_in (λ x. x.plus) (e ∷ es) j ≡ coefficient f j = λ j h. sym (times_past (λ x. x.plus) d (e ∷ es) j h) ∙ plus j (omega (arith, h)) in
            let minus' : (j : ℕ) → d.column < j → times_in (λ x. x.minus) (e ∷ es) j ≡ coefficient g j = λ j h. sym (times_past (λ x. x.minus) d (e ∷ es) j h) ∙ minus j (omega (arith, h)) in
            let gap = skip_to (e.column - (d.column + 1)) (d.column + 1) (omega (arith, lt, short)) (λ j low high.
            let before : Each (λ x. j < x.column) (e ∷ es) = (omega (arith, high, lt), Each-map (λ (x : Sides). e.column ≤ x.column) (λ (x : Sides). j < x.column) (λ x h. omega (arith, h, high, lt)) es up.1.0) in
            sym (plus' j (omega (arith, low))) ∙ none_in (λ x. x.plus) (e ∷ es) j before
            ∙ sym (none_in (λ x. x.minus) (e ∷ es) j before) ∙ minus' j (omega (arith, low))) in
            let there : d.column + 1 + (e.column - (d.column + 1)) ≡ e.column = omega (arith, lt) in
            let rest = gathered e es up.1 below.1 (λ j low. plus' j (omega (arith, low, lt))) (λ j low. minus' j (omega (arith, low, lt))) in
            ap (λ (b : Bool). cond b A B) (test_from_ne d.column e.column differ)
            ∙ ap (λ ts. term_of d ++ ts) (rest ∙ sym (gap ∙ ap from there))
            ∙ sym (here d below.0 p q)
      ]

  -- entries of the two forms, after one that adds nothing
  pub terms_are : (es : List Sides) → AreEntriesOf f g es → Each (λ e. e.column < m) es →
      terms_after (record { column = 0; plus = 0; minus = 0 }) es ≡ terms_at f g (range_with_len 0 m)
  terms_are [] are below =
      let whole : m - 0 ≡ m = omega arith in
      sym (rest_none 0 (omega arith) (λ j low. sym (are.plus j) ∙ are.minus j)) ∙ ap (λ n. terms_at f g (range_with_len 0 n)) whole
  terms_are (e ∷ es) are below =
      let whole : m - 0 ≡ m = omega arith in
      let some : 0 < m = omega (arith, below.0) in
      gathered (record { column = 0; plus = 0; minus = 0 }) (e ∷ es)
      (Each-all (λ (x : Sides). 0 ≤ x.column) (λ x. omega arith) (e ∷ es), are.ascending)
      (some, below)
      (λ j low. let none = nothing (0 == j) in omega (arith, none, are.plus j))
      (λ j low. let none = nothing (0 == j) in omega (arith, none, are.minus j))
      ∙ ap (λ n. terms_at f g (range_with_len 0 n)) whole

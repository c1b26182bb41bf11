-- Steps of the loops that write the program by columns.
use Rattle.std.proofs.Common.{◌≡◌, ℕ, zero, suc, ◌+◌, ◌*◌, ◌^◌, ◌<◌, ◌≤◌, ◌==◌, inl, inr, Bool, true, cond, List, [], ◌∷◌, ◌++◌, length, get_or, set, map, drop, sym, ap, ◌∙◌, subst, arith}
use Rattle.std.specs.List.{range_with_len}
use Rattle.std.specs.Prelude.{pos, unsigned_abs}
use Rattle.std.proofs.lemmas.Bool.{cases_eq}
use Rattle.std.proofs.lemmas.Bool.Decides.{nat_tests}
use Rattle.std.proofs.lemmas.Int.{fits_signed_from_abs, to_z-of_z}
use Rattle.std.proofs.lemmas.List.{drop_more, get_or-set_same, get_or-set_other}
use lib.IntN.{ℤ}
use mir.Syntax.{w128}
use mir.Val.{to_z, of_z}
use Rattle.tetri_base.proofs.ListLaws.{test_from_eq, test_from_ne}
use Rattle.tetri_ip.specs.declared.programs.Row.{Row}
use Rattle.tetri_ip.specs.declared.programs.Term.{Term}
use Rattle.tetri_strl.specs.WellMade.{PEAK}
use Rattle.tetri_base.specs.Lists.{Each, sum_of}
use Rattle.tetri_compile.specs.Flat.{FlatRow, coefficient, flat_row, plain_row, terms_at}
use Rattle.tetri_compile.specs.Forms.{Form}
use Rattle.tetri_compile.specs.Small.{IsSmallForm, IsSmallLimit}
use Rattle.tetri_compile.proofs.CoefficientLemmas.{few_times}
use Rattle.tetri_wide.specs.declared.outline.Inequality.{Inequality}
use Rattle.tetri_wide.specs.declared.outline.Multiple.{Multiple}
use Rattle.tetri_wide.specs.Sketch.{form_of, limit_of}
use Rattle.tetri_wide.proofs.ListSteps.{drop_here, map_next}

sum_most : (f : Form) → Each (λ s. s.by ≤ PEAK) f → sum_of (λ s. s.by) f ≤ length f * PEAK
sum_most [] h = omega arith
sum_most (s ∷ f) h = omega (arith, h.0, sum_most f h.1)

-- the numbers of a small form are less than 2^100 together
pub sum_small : (n : ℕ) (f : Form) → n < 2 ^ 31 → IsSmallForm n f → sum_of (λ s. s.by) f < 2 ^ 100
sum_small n f few small = omega (arith, sum_most f small.numbers, small.few, few)

-- a column stands in a small form less than 2^100 times
pub coefficient_small : (n : ℕ) (f : Form) (j : ℕ) → n < 2 ^ 31 → IsSmallForm n f → coefficient f j < 2 ^ 100
coefficient_small n f j few small = omega (arith, few_times PEAK f j small.numbers, small.few, few)

pub coefficient_here : (f : List Multiple) (i : ℕ) (d : Multiple) → i < length f → (get_or f i d).by ≤ coefficient (form_of (drop i f)) (get_or f i d).column
coefficient_here f i d lt =
    let e = drop_more f i d lt in
    let s = get_or f i d in
    subst (λ (g : List Multiple). s.by ≤ coefficient (form_of g) s.column) (sym e)
    (subst (λ b. s.by ≤ cond b s.by 0 + coefficient (form_of (drop (i + 1) f)) s.column) (sym (same_column s.column)) (omega arith))
  where
    same_column : (k : ℕ) → (k == k) ≡ true
    same_column k = grind (arith, nat_tests)

-- what a column is, one share of a form further
pub form_next : (xs : List ℕ) (f : List Multiple) (i : ℕ) (d : Multiple) (v j all : ℕ) → i < length f → (get_or f i d).column < length xs →
    v ≡ get_or xs (get_or f i d).column 0 + (get_or f i d).by → get_or xs j 0 + coefficient (form_of (drop i f)) j ≡ all →
    get_or (set xs (get_or f i d).column v) j 0 + coefficient (form_of (drop (i + 1) f)) j ≡ all
form_next xs f i d v j all lt short is h =
    let s = get_or f i d in
    let rest = coefficient (form_of (drop (i + 1) f)) j in
    let cut : coefficient (form_of (drop i f)) j ≡ cond (s.column == j) s.by 0 + rest = ap (λ (g : List Multiple). coefficient (form_of g) j) (drop_more f i d lt) in
    elim (cases_eq s.column j) [
      | inl same ↦
          let here = get_or-set_same xs s.column v 0 short in
          let there : get_or (set xs s.column v) j 0 ≡ v = ap (λ (k : ℕ). get_or (set xs s.column v) k 0) (sym same) ∙ here in
          let was = ap (λ (k : ℕ). get_or xs k 0) same in
          let yes : cond (s.column == j) s.by 0 ≡ s.by = ap (λ (b : Bool). cond b s.by 0) (test_from_eq s.column j same) in
          omega (arith, there, was, yes, cut, is, h)
      | inr other ↦
          let there = get_or-set_other xs s.column j v 0 (λ e. other (sym e)) in
          let no : cond (s.column == j) s.by 0 ≡ 0 = ap (λ (b : Bool). cond b s.by 0) (test_from_ne s.column j other) in
          omega (arith, there, no, cut, h)
    ]

-- a number below 2^100, written and read back
pub read_back : (z y : ℤ) → z ≡ y → unsigned_abs y < 2 ^ 100 → to_z w128 (of_z w128 z) ≡ y
read_back z y e lt = ap (λ x. to_z w128 (of_z w128 x)) e ∙ to_z-of_z w128 y (fits_signed_from_abs w128 y (wide (unsigned_abs y) lt))
  where
    wide : (n : ℕ) → n < 2 ^ 100 → n < 2 ^ 127
    wide n h = omega (arith, h)

pub small_at : (n : ℕ) (rs : List Inequality) (i : ℕ) (r : Inequality) → i < length rs → r ≡ get_or rs i r → Each (IsSmallLimit n) (map limit_of rs) → IsSmallLimit n (limit_of r)
small_at n [] i r lt is h = absurd (omega arith)
small_at n (q ∷ rs) zero r lt is h = subst (λ x. IsSmallLimit n (limit_of x)) (sym is) h.0
small_at n (q ∷ rs) (suc i) r lt is h = small_at n rs i r (omega arith) is h.1

row_is : (row : Row) (n : ℕ) (r : Inequality) → row.terms.items ≡ terms_at (form_of r.most.items) (form_of r.under.items) (range_with_len 0 n) → row.right ≡ pos r.plus →
    plain_row row ≡ flat_row n (limit_of r)
row_is row n r terms right =
    ap (λ (ts : List Term). let q : FlatRow = record { terms = ts; right = row.right } in q) terms
    ∙ ap (λ (z : ℤ). let q : FlatRow = record { terms = terms_at (form_of r.most.items) (form_of r.under.items) (range_with_len 0 n); right = z } in q) right

-- a row more
pub flat_row_next : (n : ℕ) (rs : List Inequality) (i : ℕ) (r : Inequality) (made new : List Row) (row : Row) (all : List FlatRow) → i < length rs → r ≡ get_or rs i r →
    new ≡ made ++ row ∷ [] → row.terms.items ≡ terms_at (form_of r.most.items) (form_of r.under.items) (range_with_len 0 n) → row.right ≡ pos r.plus →
    map plain_row made ++ map (flat_row n) (map limit_of (drop i rs)) ≡ all →
    map plain_row new ++ map (flat_row n) (map limit_of (drop (i + 1) rs)) ≡ all
flat_row_next n rs i r made new row all lt is grown terms right h =
    let rest = map (flat_row n) (map limit_of (drop (i + 1) rs)) in
    map_next plain_row made new row rest (map (flat_row n) (map limit_of (drop i rs))) all grown
    (ap (λ (qs : List Inequality). map (flat_row n) (map limit_of qs)) (drop_here rs i r lt is)
    ∙ ap (λ (q : FlatRow). q ∷ rest) (sym (row_is row n r terms right))) h

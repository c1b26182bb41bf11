-- Steps of the loops that write the supply and the program by columns.
use Rattle.std.proofs.Common.{◌≡◌, ℕ, zero, suc, ◌+◌, ◌-◌, ◌^◌, ◌<◌, ◌≤◌, ◌==◌, ◌&&◌, Bool, true, false, cond, List, [], ◌∷◌, ◌++◌, length, get_or, slice_index_or, map, drop, replicate, refl, sym, ap, true≢false, ◌∙◌, subst, arith}
use Rattle.std.specs.Prelude.{nat_le, nat_lt}
use Rattle.std.specs.List.{filter, range_with_len}
use Rattle.std.proofs.lemmas.List.{append_assoc, append-nil, drop_more, map-append}
use Rattle.std.specs.Prelude.{unsigned_abs}
use Rattle.std.proofs.lemmas.Int.{ints, fits_signed_from_abs, to_z-of_z}
use lib.IntN.{ℤ, pos, ◌-ℤ◌}
use mir.Syntax.{w128}
use mir.Val.{to_z, of_z}
use Rattle.tetri_ip.specs.declared.programs.Row.{Row}
use Rattle.tetri_ip.specs.declared.programs.Term.{Term}
use Rattle.tetri_strl.specs.WellMade.{PEAK}
use Rattle.tetri_base.specs.Lists.{Each}
use Rattle.std.proofs.lemmas.Bool.Decides.{nat_tests}
use Rattle.tetri_base.proofs.ListLaws.{eq_from_test, test_from_eq, test_from_ne}
use Rattle.tetri_compile.specs.declared.outline.Inequality.{Inequality}
use Rattle.tetri_compile.specs.declared.outline.Outline.{Outline}
use Rattle.tetri_compile.specs.declared.outline.Share.{Share}
use Rattle.tetri_compile.specs.declared.outline.Tally.{Tally}
use Rattle.tetri_compile.specs.Draft.{is_held, part_supply, supply, supply_row, tally_form}
use Rattle.tetri_compile.specs.Flat.{FlatRow, coefficient, flat_row, plain_row, terms_at}
use Rattle.tetri_compile.specs.Forms.{Form, Limit, plain_limit}
use Rattle.tetri_compile.specs.Sizes.{covers}
use Rattle.tetri_compile.specs.Small.{IsSmallForm, IsSmallLimit}
use Rattle.tetri_compile.specs.steps.Walked.{Grows}
use Rattle.tetri_compile.proofs.CoefficientLemmas.{few_times}

-- the numbers from a place on begin with the one there
pub range_more : (a m : ℕ) → a < m → range_with_len a (m - a) ≡ a ∷ range_with_len (a + 1) (m - (a + 1))
range_more a m lt = let e : m - a ≡ suc (m - (a + 1)) = omega (arith, lt) in ap (range_with_len a) e

pub range_over : (a m : ℕ) → m ≤ a → range_with_len a (m - a) ≡ []
range_over a m le = let e : m - a ≡ 0 = omega (arith, le) in ap (range_with_len a) e

-- ---- supply
both_tests : (a b c : Bool) → (xs ys : List Tally) → cond (a && b && c) xs ys ≡ cond a (cond (b && c) xs ys) ys
both_tests true b c xs ys = refl
both_tests false b c xs ys = refl

pub filter_held : (p t : ℕ) (cs : List Tally) → filter (λ c. covers c.leaf t) (filter (λ c. c.part == p) cs) ≡ filter (is_held p t) cs
filter_held p t [] = refl
filter_held p t (c ∷ cs) = by_part (c.part == p) (filter_held p t cs)
  where
    by_part : (b : Bool) → filter (λ d. covers d.leaf t) (filter (λ d. d.part == p) cs) ≡ filter (is_held p t) cs →
        filter (λ d. covers d.leaf t) (cond b (c ∷ filter (λ d. d.part == p) cs) (filter (λ d. d.part == p) cs))
        ≡ cond (b && nat_le c.leaf.start t && nat_lt t (c.leaf.start + c.leaf.dur)) (c ∷ filter (is_held p t) cs) (filter (is_held p t) cs)
    by_part true h = ap (λ zs. cond (covers c.leaf t) (c ∷ zs) zs) h
    by_part false h = h

pub held_are : (p t : ℕ) (mine cs : List Tally) → mine ≡ filter (λ c. c.part == p) cs → tally_form (filter (λ c. covers c.leaf t) mine) ≡ tally_form (filter (is_held p t) cs)
held_are p t mine cs e = ap (λ ds. tally_form (filter (λ c. covers c.leaf t) ds)) e ∙ ap tally_form (filter_held p t cs)

pub supply_none : (cs : List Tally) (m : ℕ) → length (tally_form cs) ≡ 0 → supply_row cs m ≡ []
supply_none [] m e = refl
supply_none (c ∷ cs) m e = absurd (omega (arith, e))

pub supply_some : (cs : List Tally) (m : ℕ) → (length (tally_form cs) ≡ 0 → ⊥) → supply_row cs m ≡ record { most = tally_form cs; under = []; plus = m } ∷ []
supply_some [] m ne = absurd (ne refl)
supply_some (c ∷ cs) m ne = refl

pub nothing_grown : (o : Outline) (rs : List Limit) → rs ≡ [] → Grows o o [] rs []
nothing_grown o rs e = record {
  uppers = sym (append-nil o.uppers.items);
  rows = sym (ap (λ qs. map plain_limit o.rows.items ++ qs) e ∙ append-nil (map plain_limit o.rows.items));
  tallies = sym (append-nil o.tallies.items);
}

module _ (room : ℕ → ℕ → ℕ) (cs : List Tally) where
  pub part_next : (p : ℕ) (start old new : Outline) (a m : ℕ) (all : List Limit) → a < m → Grows old new [] (supply_row (filter (is_held p a) cs) (room p a)) [] →
      map plain_limit old.rows.items ++ part_supply room cs p (range_with_len a (m - a)) ≡ map plain_limit start.rows.items ++ all →
      map plain_limit new.rows.items ++ part_supply room cs p (range_with_len (a + 1) (m - (a + 1))) ≡ map plain_limit start.rows.items ++ all
  part_next p start old new a m all lt g h =
      ap (λ rs. rs ++ part_supply room cs p (range_with_len (a + 1) (m - (a + 1)))) g.rows
      ∙ append_assoc (map plain_limit old.rows.items) (supply_row (filter (is_held p a) cs) (room p a)) (part_supply room cs p (range_with_len (a + 1) (m - (a + 1))))
      ∙ ap (λ ts. map plain_limit old.rows.items ++ part_supply room cs p ts) (sym (range_more a m lt)) ∙ h

  pub supply_next : (slots : List ℕ) (start old new : Outline) (a m : ℕ) (all : List Limit) → a < m → Grows old new [] (part_supply room cs a slots) [] →
      map plain_limit old.rows.items ++ supply room cs slots (range_with_len a (m - a)) ≡ map plain_limit start.rows.items ++ all →
      map plain_limit new.rows.items ++ supply room cs slots (range_with_len (a + 1) (m - (a + 1))) ≡ map plain_limit start.rows.items ++ all
  supply_next slots start old new a m all lt g h =
      ap (λ rs. rs ++ supply room cs slots (range_with_len (a + 1) (m - (a + 1)))) g.rows
      ∙ append_assoc (map plain_limit old.rows.items) (part_supply room cs a slots) (supply room cs slots (range_with_len (a + 1) (m - (a + 1))))
      ∙ ap (λ ps. map plain_limit old.rows.items ++ supply room cs slots ps) (sym (range_more a m lt)) ∙ h

-- ---- by columns
-- a column stands in a small form less than 2^61 times
pub coefficient_small : (n : ℕ) (f : Form) (j : ℕ) → n ≤ 2000 → IsSmallForm n f → coefficient f j < 2 ^ 61
coefficient_small n f j few small = omega (arith, few_times PEAK f j small.numbers, small.few, few)

pub coefficient_here : (f : Form) (i : ℕ) (d : Share) → i < length f → (get_or f i d).by ≤ coefficient (drop i f) (get_or f i d).column
coefficient_here f i d lt =
    let e = drop_more f i d lt in
    let s = get_or f i d in
    subst (λ g. s.by ≤ coefficient g s.column) (sym e)
    (subst (λ b. s.by ≤ cond b s.by 0 + coefficient (drop (i + 1) f) s.column) (sym (same_column s.column)) (omega arith))
  where
    same_column : (k : ℕ) → (k == k) ≡ true
    same_column k = grind (arith, nat_tests)

pub small_at : (n : ℕ) (rs : List Inequality) (i : ℕ) (r : Inequality) → i < length rs → r ≡ get_or rs i r → Each (IsSmallLimit n) (map plain_limit rs) → IsSmallLimit n (plain_limit r)
small_at n [] i r lt is h = absurd (omega arith)
small_at n (q ∷ rs) zero r lt is h = subst (λ x. IsSmallLimit n (plain_limit x)) (sym is) h.0
small_at n (q ∷ rs) (suc i) r lt is h = small_at n rs i r (omega arith) is h.1

-- a row more
pub flat_row_next : (n : ℕ) (rs : List Inequality) (i : ℕ) (r : Inequality) (made new : List Row) (row : Row) (all : List FlatRow) → i < length rs → r ≡ get_or rs i r →
    new ≡ made ++ row ∷ [] → row.terms.items ≡ terms_at r.most.items r.under.items (range_with_len 0 n) → row.right ≡ pos r.plus →
    map plain_row made ++ map (flat_row n) (map plain_limit (drop i rs)) ≡ all →
    map plain_row new ++ map (flat_row n) (map plain_limit (drop (i + 1) rs)) ≡ all
flat_row_next n rs i r made new row all lt is grown terms right h =
    let rest = map (flat_row n) (map plain_limit (drop (i + 1) rs)) in
    ap (λ (qs : List Row). map plain_row qs ++ rest) grown
    ∙ ap (λ (qs : List FlatRow). qs ++ rest) (map-append plain_row made (row ∷ []))
    ∙ append_assoc (map plain_row made) (plain_row row ∷ []) rest
    ∙ ap (λ (ts : List Term). map plain_row made ++ (let q : FlatRow = record { terms = ts; right = row.right } in q) ∷ rest) terms
    ∙ ap (λ (z : ℤ). map plain_row made ++ (let q : FlatRow = record { terms = terms_at r.most.items r.under.items (range_with_len 0 n); right = z } in q) ∷ rest) right
    ∙ ap (λ (q : Inequality). map plain_row made ++ flat_row n (plain_limit q) ∷ rest) is
    ∙ ap (λ (qs : List Inequality). map plain_row made ++ map (flat_row n) (map plain_limit qs)) (sym (drop_more rs i r lt)) ∙ h

-- the terms from a column on
pub terms_skip : (most under : Form) (a m : ℕ) → a < m → coefficient most a ≡ coefficient under a →
    terms_at most under (range_with_len a (m - a)) ≡ terms_at most under (range_with_len (a + 1) (m - (a + 1)))
terms_skip most under a m lt e =
    let rest = terms_at most under (range_with_len (a + 1) (m - (a + 1))) in
    ap (terms_at most under) (range_more a m lt)
    ∙ ap (λ b. cond b rest (record { column = a; by = pos (coefficient most a) -ℤ pos (coefficient under a) } ∷ rest)) (test_from_eq (coefficient most a) (coefficient under a) e)

pub terms_keep : (most under : Form) (a m : ℕ) → a < m → (coefficient most a ≡ coefficient under a → ⊥) →
    terms_at most under (range_with_len a (m - a))
    ≡ record { column = a; by = pos (coefficient most a) -ℤ pos (coefficient under a) } ∷ terms_at most under (range_with_len (a + 1) (m - (a + 1)))
terms_keep most under a m lt ne =
    let rest = terms_at most under (range_with_len (a + 1) (m - (a + 1))) in
    ap (terms_at most under) (range_more a m lt)
    ∙ ap (λ b. cond b rest (record { column = a; by = pos (coefficient most a) -ℤ pos (coefficient under a) } ∷ rest)) (test_from_ne (coefficient most a) (coefficient under a) ne)

-- a column of a program less another
pub less_of : (a b : ℕ) → a < 2 ^ 61 → b < 2 ^ 61 → unsigned_abs (pos a -ℤ pos b) < 2 ^ 62
less_of a b p q = omega (arith, ints, p, q)

pub none_at : (n k z : ℕ) → slice_index_or (replicate n z) k z ≡ z
none_at zero k z = refl
none_at (suc n) zero z = refl
none_at (suc n) (suc k) z = none_at n k z

pub is_none : {m n : ℕ} → m ≡ n → true ≡ (n == 0) → m ≡ 0
is_none {m} {n} e t = e ∙ eq_from_test n 0 (sym t)

pub is_some : {m n : ℕ} → m ≡ n → false ≡ (n == 0) → m ≡ 0 → ⊥
is_some {m} {n} e t z = false_true (t ∙ test_from_eq n 0 (sym e ∙ z))
  where
    false_true : false ≡ true → ⊥
    false_true h = true≢false (sym h)

-- a number below 2^62, written and read back
pub read_back : (z y : ℤ) → z ≡ y → unsigned_abs y < 2 ^ 62 → to_z w128 (of_z w128 z) ≡ y
read_back z y e lt = ap (λ x. to_z w128 (of_z w128 x)) e ∙ to_z-of_z w128 y (fits_signed_from_abs w128 y (wide (unsigned_abs y) lt))
  where
    wide : (n : ℕ) → n < 2 ^ 62 → n < 2 ^ 127
    wide n h = omega (arith, h)

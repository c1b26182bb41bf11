-- The rows of the first table.
use Rattle.std.proofs.Common.{◌≡◌, ℕ, ◌+◌, ◌^◌, ◌<◌, refl, sym, ap, ◌∙◌, subst, arith, List, [], ◌∷◌, ◌++◌, append_assoc, length, get_or, drop, map}
use Rattle.std.specs.Global.{Vec}
use Rattle.std.specs.List.{range_with_len}
use Prim.Native.Nat.{zero, suc}
use Rattle.std.proofs.lemmas.List.{at_drop_more, drop_more, length-map, length-append}
use Rattle.std.proofs.lemmas.List.FromFn.{length-range_with_len}
use lib.IntN.{ℤ, pos, ◌-ℤ◌, ◌*ℤ◌}
use Rattle.tetri_algebra.specs.Rational.{ℚ, whole_ℚ}
use Rattle.tetri_num.specs.declared.fractions.Frac.{Frac}
use Rattle.tetri_ip.specs.declared.programs.Program.{Program}
use Rattle.tetri_ip.specs.declared.programs.Row.{Row}
use Rattle.tetri_ip.specs.declared.programs.Term.{Term}
use Rattle.tetri_ip.specs.Points.{Bounds, IsFit, IsFitRow, IsInBox, number_at, terms_of}
use Rattle.tetri_ip.proofs.IntegerProgramLaws.{terms_of_at, right_of_at}
use Rattle.tetri_dictionary.specs.declared.full.Full.{Full}
use Rattle.tetri_dictionary.specs.Fractions.{values, rows_of, AreWide}
use Rattle.tetri_dictionary.specs.Full.{IsShaped, table_of}
use Rattle.tetri_dictionary.specs.Start.{corner, direction, slack_from, slack_row, minus_one_at, bound_rows, objective_row, first_rows, first_table}
use Rattle.tetri_dictionary.specs.Tables.{Table}
use Rattle.tetri_dictionary.proofs.Entries.{map_push}
use Rattle.tetri_dictionary.proofs.TableRows.{row_of_table}

abbrev pub wholes : List (List ℤ) → List (List ℚ)
wholes rows = map (map whole_ℚ) rows

pub map_append : {A B : Type 0} → (f : A → B) (xs ys : List A) → map f (xs ++ ys) ≡ map f xs ++ map f ys
map_append f [] ys = refl
map_append f (x ∷ xs) ys = ap (λ zs. f x ∷ zs) (map_append f xs ys)

-- ---- one more row
pub row_pushed : (done made : List (Vec Frac)) (v : Vec Frac) (r : List ℤ) (rest all : List (List ℤ)) → made ≡ done ++ (v ∷ []) → values v.items ≡ map whole_ℚ r → all ≡ r ∷ rest →
    rows_of made ++ wholes rest ≡ rows_of done ++ wholes all
row_pushed done made v r rest all me ve ae =
    ap (λ (ys : List (Vec Frac)). rows_of ys ++ wholes rest) me
    ∙ ap (λ zs. zs ++ wholes rest) (map_push (λ (y : Vec Frac). values y.items) done v)
    ∙ append_assoc (rows_of done) (values v.items ∷ []) (wholes rest)
    ∙ ap (λ z. rows_of done ++ (z ∷ wholes rest)) ve
    ∙ ap (λ zs. rows_of done ++ wholes zs) (sym ae)

pub slacks_more : (cs start : List ℤ) (rows : List Row) (i : ℕ) (r : Row) → i < length rows → r ≡ get_or rows i r → map (slack_row cs start) (drop i rows) ≡ slack_row cs start r ∷ map (slack_row cs start) (drop (i + 1) rows)
slacks_more cs start rows i r h e =
    at_drop_more (map (slack_row cs start)) rows i r h ∙ ap (λ x. slack_row cs start x ∷ map (slack_row cs start) (drop (i + 1) rows)) (sym e)

pub fit_row : (p : Program) (i : ℕ) (r : Row) → IsFit p → i < length p.rows.items → r ≡ get_or p.rows.items i r → IsFitRow p r.terms.items r.right
fit_row p i r f h e =
    subst (λ (ts : List Term). IsFitRow p ts r.right) (terms_of_at p.rows.items i r h e) (subst (λ z. IsFitRow p (terms_of p.rows.items i) z) (right_of_at p.rows.items i r h e) (f.rows i h))

pub bounds_more : (cs ls us : List ℤ) (j : ℕ) → j < length ls → j < length us →
    bound_rows j cs (drop j ls) (drop j us) ≡ ((number_at us j -ℤ number_at ls j) ∷ minus_one_at j 0 cs) ∷ bound_rows (j + 1) cs (drop (j + 1) ls) (drop (j + 1) us)
bounds_more cs ls us j h g = rw (drop_more ls j (pos 0) h, drop_more us j (pos 0) g)

-- ---- the whole table
pub rows_are : (p : Program) (b : Bounds) (start : List ℤ) (slacks bounds rows : List (Vec Frac)) (o : Vec Frac) → start ≡ corner p.costs.items b.lower b.upper →
    rows_of slacks ≡ wholes (map (slack_row p.costs.items start) p.rows.items) → rows_of bounds ≡ rows_of slacks ++ wholes (bound_rows 0 p.costs.items b.lower b.upper) →
    values o.items ≡ map whole_ℚ (objective_row p.costs.items start) → rows ≡ bounds ++ (o ∷ []) → rows_of rows ≡ wholes (first_rows p b)
rows_are p b start slacks bounds rows o se e f g h =
    let cs = p.costs.items in
    let A : List ℤ → List (List ℤ) = λ s. map (slack_row cs s) p.rows.items in
    let B = bound_rows 0 cs b.lower b.upper in
    ap (λ (ys : List (Vec Frac)). rows_of ys) h ∙ map_push (λ (y : Vec Frac). values y.items) bounds o
    ∙ ap (λ zs. zs ++ (values o.items ∷ [])) (f ∙ ap (λ zs. zs ++ wholes B) e)
    ∙ ap (λ z. (wholes (A start) ++ wholes B) ++ (z ∷ [])) g
    ∙ ap (λ zs. zs ++ (map whole_ℚ (objective_row cs start) ∷ [])) (sym (map_append (map whole_ℚ) (A start) B))
    ∙ sym (map_append (map whole_ℚ) (A start ++ B) (objective_row cs start ∷ []))
    ∙ ap (λ s. wholes ((A s ++ B) ++ (objective_row cs s ∷ []))) se

pub first_is : (p : Program) (b : Bounds) (t : Full) (n k : ℕ) → n ≡ length p.costs.items → k ≡ length p.rows.items + length p.costs.items → t.nonbasic.items ≡ range_with_len 0 n → t.basic.items ≡ range_with_len n k → rows_of t.rows.items ≡ wholes (first_rows p b) →
    table_of t ≡ first_table p b
unfolding first_table
first_is p b t n k ne ke e f g =
    let made : List ℕ → List ℕ → List (List ℚ) → Table = λ us vs rs. record { nonbasic = us; basic = vs; rows = rs } in
    ap (λ us. made us t.basic.items (rows_of t.rows.items)) (e ∙ ap (range_with_len 0) ne)
    ∙ ap (λ vs. made (range_with_len 0 (length p.costs.items)) vs (rows_of t.rows.items)) (f ∙ ap (λ m. range_with_len m k) ne ∙ ap (range_with_len (length p.costs.items)) ke)
    ∙ ap (λ rs. made (range_with_len 0 (length p.costs.items)) (range_with_len (length p.costs.items) (length p.rows.items + length p.costs.items)) rs) g

-- ---- its shape
abbrev AreLong : ℕ → List (List ℤ) → Type 0
AreLong n [] = Unit {0}
AreLong n (r ∷ rs) = (length r ≡ n + 1) × AreLong n rs

long_append : (n : ℕ) (rs ss : List (List ℤ)) → AreLong n rs → AreLong n ss → AreLong n (rs ++ ss)
long_append n [] ss h k = k
long_append n (r ∷ rs) ss h k = (h.0, long_append n rs ss h.1 k)

one_more : (a b : ℕ) → a ≡ b → suc a ≡ b + 1
one_more a b e = omega arith

slack_long : (ts : List Term) (j : ℕ) (cs : List ℤ) → length (slack_from ts j cs) ≡ length cs
slack_long ts j [] = refl
slack_long ts j (c ∷ cs) = ap suc (slack_long ts (j + 1) cs)

slacks_long : (rows : List Row) (cs start : List ℤ) → AreLong (length cs) (map (slack_row cs start) rows)
slacks_long [] cs start = tt
slacks_long (r ∷ rows) cs start = (one_more _ _ (slack_long r.terms.items 0 cs), slacks_long rows cs start)

minus_long : (j k : ℕ) (cs : List ℤ) → length (minus_one_at j k cs) ≡ length cs
minus_long j k [] = refl
minus_long j k (c ∷ cs) = ap suc (minus_long j (k + 1) cs)

bounds_long : (j : ℕ) (cs ls us : List ℤ) → AreLong (length cs) (bound_rows j cs ls us)
bounds_long j cs [] us = tt
bounds_long j cs (l ∷ ls) [] = tt
bounds_long j cs (l ∷ ls) (u ∷ us) = (one_more _ _ (minus_long j 0 cs), bounds_long (j + 1) cs ls us)

bounds_count : (j : ℕ) (cs ls us : List ℤ) → length us ≡ length ls → length (bound_rows j cs ls us) ≡ length ls
bounds_count j cs [] us e = refl
bounds_count j cs (l ∷ ls) [] e = absurd (omega arith)
bounds_count j cs (l ∷ ls) (u ∷ us) e = ap suc (bounds_count (j + 1) cs ls us (omega arith))

first_long : (p : Program) (b : Bounds) → AreLong (length p.costs.items) (first_rows p b)
first_long p b =
    let cs = p.costs.items in
    let s = corner cs b.lower b.upper in
    long_append (length cs) (map (slack_row cs s) p.rows.items ++ bound_rows 0 cs b.lower b.upper) (objective_row cs s ∷ [])
    (long_append (length cs) (map (slack_row cs s) p.rows.items) (bound_rows 0 cs b.lower b.upper) (slacks_long p.rows.items cs s) (bounds_long 0 cs b.lower b.upper))
    (one_more _ _ (length-map cs (λ c. c *ℤ direction c)), tt)

pub first_count : (p : Program) (b : Bounds) → IsInBox p b → length (first_rows p b) ≡ (length p.rows.items + length p.costs.items) + 1
first_count p b i =
    let cs = p.costs.items in
    let s = corner cs b.lower b.upper in
    let B = bound_rows 0 cs b.lower b.upper in
    let A = map (slack_row cs s) p.rows.items in
    length-append (A ++ B) (objective_row cs s ∷ []) ∙ ap (λ k. k + 1) (length-append A B ∙ ap (λ k. k + length B) (length-map p.rows.items (slack_row cs s)) ∙ ap (λ k. length p.rows.items + k) (bounds_count 0 cs b.lower b.upper (i.upper_count ∙ sym i.lower_count) ∙ i.lower_count))

long_at : (n : ℕ) (rs : List (List ℤ)) (k : ℕ) → AreLong n rs → k < length rs → length (get_or (wholes rs) k []) ≡ n + 1
long_at n [] k h l = absurd (omega arith)
long_at n (r ∷ rs) zero h l = length-map r whole_ℚ ∙ h.0
long_at n (r ∷ rs) (suc k) h l = long_at n rs k h.1 (omega arith)

rows_count : (rows : List (Vec Frac)) (rs : List (List ℤ)) → rows_of rows ≡ wholes rs → length rows ≡ length rs
rows_count rows rs e = sym (length-map rows (λ (y : Vec Frac). values y.items)) ∙ ap (λ (zs : List (List ℚ)). length zs) e ∙ length-map rs (map whole_ℚ)

wide_from : (n : ℕ) (rows : List (Vec Frac)) (rs : List (List ℤ)) → rows_of rows ≡ wholes rs → AreLong n rs → AreWide n rows
wide_from n rows rs e h k d l =
    sym (length-map (get_or rows k d).items _) ∙ sym (ap (λ (zs : List ℚ). length zs) (row_of_table rows k d l))
    ∙ ap (λ (zs : List (List ℚ)). length (get_or zs k [])) e ∙ long_at n rs k h (subst (λ m. k < m) (rows_count rows rs e) l)

pub first_shape : (p : Program) (b : Bounds) (t : Full) (n k : ℕ) → IsFit p → IsInBox p b → n ≡ length p.costs.items → k ≡ length p.rows.items + length p.costs.items → t.nonbasic.items ≡ range_with_len 0 n → t.basic.items ≡ range_with_len n k → rows_of t.rows.items ≡ wholes (first_rows p b) → IsShaped t
first_shape p b t n k fit i ne ke e f g =
    let a : length t.nonbasic.items ≡ length p.costs.items = ap (λ (zs : List ℕ). length zs) e ∙ length-range_with_len 0 n ∙ ne in
    let c : length t.basic.items ≡ length p.rows.items + length p.costs.items = ap (λ (zs : List ℕ). length zs) f ∙ length-range_with_len n k ∙ ke in
    let m : length t.rows.items ≡ (length p.rows.items + length p.costs.items) + 1 = rows_count t.rows.items (first_rows p b) g ∙ first_count p b i in
    record {
      rows = m ∙ ap (λ z. z + 1) (sym c);
      wide = subst (λ z. AreWide z t.rows.items) (sym a) (wide_from (length p.costs.items) t.rows.items (first_rows p b) g (first_long p b));
      few_rows = few (length p.rows.items) (length p.costs.items) (length t.rows.items) m fit.few_rows fit.few_columns;
      few_columns = subst (λ z. z < 2 ^ 31) (sym a) fit.few_columns;
    }
  where
    few : (m n k : ℕ) → k ≡ (m + n) + 1 → m < 2 ^ 31 → n < 2 ^ 31 → k < 2 ^ 32
    few m n k e h g = omega arith

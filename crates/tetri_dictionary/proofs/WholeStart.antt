-- The rows of the first dictionary of whole numbers.
use Rattle.std.proofs.Common.{◌≡◌, ℕ, ◌+◌, ◌<◌, ◌^◌, sym, ap, ◌∙◌, subst, arith, List, [], ◌∷◌, ◌++◌, append_assoc, length, map}
use Rattle.std.specs.List.{range_with_len}
use Rattle.std.proofs.lemmas.List.{length-map, map-append}
use Rattle.std.proofs.lemmas.List.Elements.{All-push}
use Rattle.std.proofs.lemmas.List.FromFn.{length-range_with_len}
use lib.IntN.{ℤ}
use Rattle.tetri_algebra.specs.Rational.{ℚ, whole_ℚ}
use Rattle.tetri_ip.specs.declared.programs.Program.{Program}
use Rattle.tetri_ip.specs.Points.{Bounds, IsFit, IsInBox}
use Rattle.tetri_dictionary.specs.declared.mixed.MixedRow.{MixedRow}
use Rattle.tetri_dictionary.specs.declared.whole.Whole.{Whole}
use Rattle.tetri_dictionary.specs.Below.{below_of}
use Rattle.tetri_dictionary.specs.Holders.{AreHolders}
use Rattle.tetri_dictionary.specs.Mixed.{mixed_row, mixed_rows, IsMixedRow, AreMixedRows}
use Rattle.tetri_dictionary.specs.Start.{bound_rows, corner, first_rows, first_table, objective_row, slack_row}
use Rattle.tetri_dictionary.specs.Tables.{Table}
use Rattle.tetri_dictionary.specs.Whole.{table_of, IsWhole}
use Rattle.tetri_dictionary.proofs.FirstTable.{first_count, map_append, wholes}

-- ---- one more row
pub sound_push : (n : ℕ) (rows made : List MixedRow) (r : MixedRow) → made ≡ rows ++ (r ∷ []) → AreMixedRows n rows → IsMixedRow n r → AreMixedRows n made
sound_push n rows made r e h s = subst (λ (ys : List MixedRow). AreMixedRows n ys) (sym e) (All-push (IsMixedRow n) rows r h s)

pub sound_none : (n : ℕ) (rows : List MixedRow) → rows ≡ [] → AreMixedRows n rows
sound_none n rows e = subst (λ (ys : List MixedRow). AreMixedRows n ys) (sym e) (λ q d l. absurd (omega arith))

pub rows_step : (old new : List (List ℚ)) (x : List ℚ) (ns : List ℤ) (rest all : List (List ℤ)) → new ≡ old ++ (x ∷ []) → x ≡ map whole_ℚ ns → all ≡ ns ∷ rest → new ++ wholes rest ≡ old ++ wholes all
rows_step old new x ns rest all e xe ae =
    ap (λ zs. zs ++ wholes rest) e
    ∙ append_assoc old (x ∷ []) (wholes rest)
    ∙ ap (λ z. old ++ (z ∷ wholes rest)) xe
    ∙ ap (λ zs. old ++ wholes zs) (sym ae)

pub row_pushed : (done made : List MixedRow) (r : MixedRow) (ns : List ℤ) (rest all : List (List ℤ)) → made ≡ done ++ (r ∷ []) → mixed_row r ≡ map whole_ℚ ns → all ≡ ns ∷ rest →
    mixed_rows made ++ wholes rest ≡ mixed_rows done ++ wholes all
row_pushed done made r ns rest all me re ae = rows_step (mixed_rows done) (mixed_rows made) (mixed_row r) ns rest all (ap mixed_rows me ∙ map-append mixed_row done (r ∷ [])) re ae

-- ---- all rows
-- the rows of the slacks, those of the bounds and the objective's make up the first rows
pub rows_are : (p : Program) (b : Bounds) (start : List ℤ) (slacks bounds rows : List (List ℚ)) (o : List ℚ) → start ≡ corner p.costs.items b.lower b.upper → slacks ≡ wholes (map (slack_row p.costs.items start) p.rows.items) →
    bounds ≡ slacks ++ wholes (bound_rows 0 p.costs.items b.lower b.upper) → o ≡ map whole_ℚ (objective_row p.costs.items start) → rows ≡ bounds ++ (o ∷ []) → rows ≡ wholes (first_rows p b)
rows_are p b start slacks bounds rows o se e f g h =
    let cs = p.costs.items in
    let A : List ℤ → List (List ℤ) = λ s. map (slack_row cs s) p.rows.items in
    let B = bound_rows 0 cs b.lower b.upper in
    h
    ∙ ap (λ zs. zs ++ (o ∷ [])) (f ∙ ap (λ zs. zs ++ wholes B) e)
    ∙ ap (λ z. (wholes (A start) ++ wholes B) ++ (z ∷ [])) g
    ∙ ap (λ zs. zs ++ (map whole_ℚ (objective_row cs start) ∷ [])) (sym (map_append (map whole_ℚ) (A start) B))
    ∙ sym (map_append (map whole_ℚ) (A start ++ B) (objective_row cs start ∷ []))
    ∙ ap (λ s. wholes ((A s ++ B) ++ (objective_row cs s ∷ []))) se

-- the numbers of the first places
pub record IsSized (p : Program) (us vs : List ℕ) (count : ℕ) : Type 0 where
  pub nonbasic : length us ≡ length p.costs.items
  pub rows : count ≡ length vs + 1
  pub few_rows : count < 2 ^ 32
  pub few_columns : length us < 2 ^ 31

pub sized : (p : Program) (b : Bounds) (n k count : ℕ) (us vs : List ℕ) (rows : List (List ℚ)) → IsFit p → IsInBox p b → n ≡ length p.costs.items → k ≡ length p.rows.items + length p.costs.items → us ≡ range_with_len 0 n → vs ≡ range_with_len n k → rows ≡ wholes (first_rows p b) → length rows ≡ count →
    IsSized p us vs count
sized p b n k count us vs rows fit i ne ke e f g ce =
    let a : length us ≡ length p.costs.items = ap (λ (zs : List ℕ). length zs) e ∙ length-range_with_len 0 n ∙ ne in
    let c : length vs ≡ length p.rows.items + length p.costs.items = ap (λ (zs : List ℕ). length zs) f ∙ length-range_with_len n k ∙ ke in
    let m : count ≡ (length p.rows.items + length p.costs.items) + 1 = sym ce ∙ ap (λ (zs : List (List ℚ)). length zs) g ∙ length-map (first_rows p b) (map whole_ℚ) ∙ first_count p b i in
    record {
      nonbasic = a;
      rows = m ∙ ap (λ z. z + 1) (sym c);
      few_rows = few (length p.rows.items) (length p.costs.items) count m fit.few_rows fit.few_columns;
      few_columns = subst (λ z. z < 2 ^ 31) (sym a) fit.few_columns;
    }
  where
    few : (m n k : ℕ) → k ≡ (m + n) + 1 → m < 2 ^ 31 → n < 2 ^ 31 → k < 2 ^ 32
    few m n k e h g = omega arith

pub first_is : (p : Program) (b : Bounds) (n k : ℕ) (us vs : List ℕ) (rows : List (List ℚ)) → n ≡ length p.costs.items → k ≡ length p.rows.items + length p.costs.items → us ≡ range_with_len 0 n → vs ≡ range_with_len n k → rows ≡ wholes (first_rows p b) →
    record { nonbasic = us; basic = vs; rows = rows } ≡ first_table p b
unfolding first_table
first_is p b n k us vs rows ne ke e f g =
    let made : List ℕ → List ℕ → List (List ℚ) → Table = λ us vs rs. record { nonbasic = us; basic = vs; rows = rs } in
    ap (λ xs. made xs vs rows) (e ∙ ap (range_with_len 0) ne)
    ∙ ap (λ xs. made (range_with_len 0 (length p.costs.items)) xs rows) (f ∙ ap (λ m. range_with_len m k) ne ∙ ap (range_with_len (length p.costs.items)) ke)
    ∙ ap (λ rs. made (range_with_len 0 (length p.costs.items)) (range_with_len (length p.costs.items) (length p.rows.items + length p.costs.items)) rs) g

pub whole_sound : (p : Program) (t : Whole) → IsSized p t.nonbasic.items t.basic.items (length t.rows.items) → AreMixedRows (length p.costs.items) t.rows.items → t.below.items ≡ below_of (mixed_rows t.rows.items) →
    AreHolders (length p.costs.items) t.holders.items (mixed_rows t.rows.items) → IsWhole t
whole_sound p t h wide below hold = record {
  rows = h.rows;
  wide = subst (λ n. AreMixedRows n t.rows.items) (sym h.nonbasic) wide;
  below = below;
  holders = subst (λ n. AreHolders n t.holders.items (mixed_rows t.rows.items)) (sym h.nonbasic) hold;
  few_rows = h.few_rows;
  few_columns = h.few_columns;
}

-- The places of the first dictionary of pairs.
use Rattle.std.proofs.Common.{◌≡◌, ℕ, ◌+◌, sym, ap, ◌∙◌, subst, arith, List, [], ◌∷◌, ◌++◌, length, map}
use Rattle.std.proofs.lemmas.List.{length-append, length-map}
use lib.IntN.{ℤ}
use Rattle.tetri_algebra.specs.Rational.{ℚ, whole_ℚ}
use Rattle.tetri_ip.specs.declared.programs.Program.{Program}
use Rattle.tetri_ip.specs.Points.{Bounds}
use Rattle.tetri_dictionary.specs.declared.mixed.MixedRow.{MixedRow}
use Rattle.tetri_dictionary.specs.declared.pairs_start.Draft.{Draft}
use Rattle.tetri_dictionary.specs.Drafts.{draft_rows}
use Rattle.tetri_dictionary.specs.Mirrors.{row_from}
use Rattle.tetri_dictionary.specs.Mixed.{mixed_row, mixed_rows}
use Rattle.tetri_dictionary.specs.Start.{bound_rows, corner, first_rows, objective_row, slack_row}
use Rattle.tetri_dictionary.proofs.FirstTable.{wholes}
use Rattle.tetri_dictionary.proofs.WholeStart.{rows_are}

pub all_rows : (p : Program) (b : Bounds) (start : List ℤ) (n : ℕ) (d0 d1 d2 d3 : Draft) (o : MixedRow) → n ≡ length p.costs.items → start ≡ corner p.costs.items b.lower b.upper → draft_rows n d0 ≡ [] →
    draft_rows (length p.costs.items) d1 ≡ draft_rows (length p.costs.items) d0 ++ wholes (map (slack_row p.costs.items start) p.rows.items) →
    draft_rows (length p.costs.items) d2 ≡ draft_rows (length p.costs.items) d1 ++ wholes (bound_rows 0 p.costs.items b.lower b.upper) → mixed_row o ≡ map whole_ℚ (objective_row p.costs.items start) →
    draft_rows n d3 ≡ draft_rows n d2 ++ (mixed_row o ∷ []) → draft_rows (length p.costs.items) d3 ≡ wholes (first_rows p b)
all_rows p b start n d0 d1 d2 d3 o ne se e0 e1 e2 oe e3 =
    let m = length p.costs.items in
    rows_are p b start (draft_rows m d1) (draft_rows m d2) (draft_rows m d3) (mixed_row o) se
    (e1 ∙ ap (λ (zs : List (List ℚ)). zs ++ wholes (map (slack_row p.costs.items start) p.rows.items)) (subst (λ k. draft_rows k d0 ≡ []) ne e0))
    e2 oe (subst (λ k. draft_rows k d3 ≡ draft_rows k d2 ++ (mixed_row o ∷ [])) ne e3)

pub row_for_each : (n : ℕ) (d : Draft) → length (draft_rows n d) ≡ length d.origins.items
row_for_each n d = length-map d.origins.items (row_from n (mixed_rows d.rows.items))

-- the place of the last row
pub last_place : (n k : ℕ) (d2 d3 : Draft) (x : List ℚ) → draft_rows n d3 ≡ draft_rows n d2 ++ (x ∷ []) → length d3.origins.items ≡ k + 1 → k ≡ length d2.origins.items
last_place n k d2 d3 x e f =
    let a : length (draft_rows n d3) ≡ length (draft_rows n d2) + 1 = ap (λ (us : List (List ℚ)). length us) e ∙ length-append (draft_rows n d2) (x ∷ []) in
    let g = row_for_each n d2 in
    let h = row_for_each n d3 in
    omega (arith, a, g, h, f)

-- One more number of a point, as its cells are made.
use Rattle.std.proofs.Common.{◌≡◌, ℕ, ◌+◌, ◌<◌, sym, ap, ◌∙◌, arith, List, ◌∷◌, ◌++◌, length, get_or, drop, map, Some}
use Prim.Native.Nat.{suc}
use Rattle.std.proofs.Math.Seq.{drop-cons}
use Rattle.std.proofs.lemmas.List.{append_assoc}
use Rattle.tetri_num.specs.declared.fractions.Frac.{Frac}
use Rattle.tetri_num.specs.Frac.{value}
use Rattle.tetri_cert.specs.declared.marks.FracCell.{FracCell}
use Rattle.tetri_cert.specs.Cells.{frac_cell_at, frac_cells_from}
use Rattle.tetri_cert.proofs.CellFacts.{frac_cells_more}

drop_more : {X : Type 0} → (xs : List X) (j : ℕ) (x : X) → j < length xs → x ≡ get_or xs j x → drop j xs ≡ x ∷ drop (j + 1) xs
drop_more xs j x l e = let s : suc j ≡ j + 1 = omega arith in drop-cons xs j x l ∙ ap (λ y. y ∷ drop (suc j) xs) (sym e) ∙ ap (λ k. x ∷ drop k xs) s

pub frac_cells_added : (xs : List Frac) (j i : ℕ) (x : Frac) (cells more whole : List FracCell) → j < length xs → x ≡ get_or xs j x → i ≡ j → more ≡ cells ++ frac_cell_at i (Some x) → cells ++ frac_cells_from j (map value (drop j xs)) ≡ whole → more ++ frac_cells_from (j + 1) (map value (drop (j + 1) xs)) ≡ whole
frac_cells_added xs j i x cells more whole l e g m h =
    ap (λ w. w ++ frac_cells_from (j + 1) (map value (drop (j + 1) xs))) (m ∙ ap (λ k. cells ++ frac_cell_at k (Some x)) g)
    ∙ append_assoc cells (frac_cell_at j (Some x)) (frac_cells_from (j + 1) (map value (drop (j + 1) xs)))
    ∙ ap (λ w. cells ++ w) (sym (frac_cells_more j x (map value (drop (j + 1) xs))))
    ∙ ap (λ ys. cells ++ frac_cells_from j (map value ys)) (sym (drop_more xs j x l e))
    ∙ h

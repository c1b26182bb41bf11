use Rattle.std.proofs.Common.{◌<◌, ◌≤◌, ℕ, List, length, get_or, sym, subst, ◌∙◌}
use Rattle.tetri_dictionary.specs.Tables.{Table, coefficients_of, row_at}
use Rattle.tetri_simplex.proofs.FirstPlaces.{coefficient_first, coefficient_nowhere}
use Rattle.tetri_simplex.proofs.weights.coefficient_of.Goals as goal

pub returns-then-place-nonbasic : goal.returns-then-place-nonbasic
returns-then-place-nonbasic g c =
    let t : Table = g.D.Dictionary.table c.args.d.now in
    let k = get_or c.args.places.now c.args.i 0 in
    let h : k < length t.nonbasic = subst (λ (xs : List ℕ). k < length xs) c.nonbasic.ensures c.if-place-nonbasic.true in
    λ v f. c.at.ensures.coefficient h ∙ sym (coefficient_first t.nonbasic (coefficients_of (row_at t c.args.row)) v k f h)

pub returns : goal.returns
returns g c =
    let t : Table = g.D.Dictionary.table c.args.d.now in
    let k = get_or c.args.places.now c.args.i 0 in
    let h : length t.nonbasic ≤ k = subst (λ (xs : List ℕ). length xs ≤ k) c.nonbasic.ensures c.if-place-nonbasic.false in
    λ v f. c.whole.ensures.rational ∙ sym (coefficient_nowhere t.nonbasic (coefficients_of (row_at t c.args.row)) v k f h)

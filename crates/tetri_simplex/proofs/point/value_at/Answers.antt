use Rattle.std.proofs.Common.{◌<◌, ◌≤◌, ℕ, List, length, get_or, sym, subst, ◌∙◌}
use Rattle.tetri_dictionary.specs.Tables.{Table}
use Rattle.tetri_simplex.proofs.FirstPlaces.{value_first, value_nowhere}
use Rattle.tetri_simplex.proofs.point.value_at.Goals as goal

pub returns-then-place-basic : goal.returns-then-place-basic
returns-then-place-basic g c =
    let t : Table = g.D.Dictionary.table c.args.d.now in
    let k = get_or c.args.places.now c.args.j 0 in
    let h : k < length t.basic = subst (λ (xs : List ℕ). k < length xs) c.basic.ensures c.if-place-basic.true in
    c.at.ensures.constant c.requires.columns ∙ sym (value_first t.basic t.rows c.args.j k c.requires.place h)

pub returns : goal.returns
returns g c =
    let t : Table = g.D.Dictionary.table c.args.d.now in
    let k = get_or c.args.places.now c.args.j 0 in
    let h : length t.basic ≤ k = subst (λ (xs : List ℕ). length xs ≤ k) c.basic.ensures c.if-place-basic.false in
    c.whole.ensures.rational ∙ sym (value_nowhere t.basic t.rows c.args.j k c.requires.place h)

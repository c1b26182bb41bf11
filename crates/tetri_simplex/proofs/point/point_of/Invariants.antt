use Rattle.std.proofs.Common.{◌≡◌}
use Rattle.tetri_simplex.specs.Ends.{point_from}
use Rattle.tetri_dictionary.specs.Fractions.{values}
use Rattle.tetri_dictionary.proofs.DictionaryLaws.{onto}
use Rattle.tetri_simplex.proofs.EndForms.{point_rest}
use Rattle.tetri_simplex.proofs.point.point_of.Given as goal

abbrev pub invariant-loop-j : goal.invariant-loop-j
invariant-loop-j g l =
    let t = g.D.Dictionary.table l.d in
    onto (values l.point.items) (point_rest t.basic t.rows l.j l.p.costs.items l.r.lower.items l.r.upper.items)
    ≡ point_from t.basic t.rows 0 l.p.costs.items l.r.lower.items l.r.upper.items

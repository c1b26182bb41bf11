use Rattle.std.proofs.Common.{◌≡◌, ℕ, List, MatchResult, get_or, ap, subst, ◌∙◌}
use lib.IntN.{pos}
use Rattle.tetri_algebra.specs.Rational.{ℚ}
use Rattle.tetri_ip.specs.Points.{bounds_of}
use Rattle.tetri_simplex.specs.Ends.{weighted_end}
use Rattle.tetri_simplex.specs.Faults.{EndsPast}
use Rattle.tetri_dictionary.specs.Tables.{Table}
use Rattle.tetri_simplex.proofs.EndForms.{row_weights_are}
use Rattle.tetri_simplex.proofs.ends.row_weighted.Goals as goal

pub returns-in-Ok : goal.returns-in-Ok
returns-in-Ok g c =
    let t : Table = g.D.Dictionary.table c.args.d.now in
    let p = c.args.p.now in
    let e =
    row_weights_are p t c.args.i (get_or c.basic.result.now c.args.i 0) c.len.result c.deref.result.now c.in-Ok.fractions.items c.deref-in-Ok.result.now
    (ap (λ (xs : List ℕ). get_or xs c.args.i 0) c.basic.ensures) (c.len.ensures ∙ p.costs.ok.0) c.deref.ensures.value c.in-Ok.ensures.weights c.deref-in-Ok.ensures.value in
    λ done.
    subst (λ (ws : List ℚ). MatchResult c.weighted.result (λ w. weighted_end p (bounds_of c.args.r.now) ws (λ x. pos 0) done ≡ done w.q w.weights.items) (λ e. EndsPast e (weighted_end p (bounds_of c.args.r.now) ws (λ x. pos 0) done))) e (c.weighted.ensures done)

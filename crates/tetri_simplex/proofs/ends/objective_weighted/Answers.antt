use Rattle.std.proofs.Common.{◌≡◌, ◌+◌, List, MatchResult, length, subst, ◌∙◌, arith}
use lib.IntN.{pos}
use Rattle.tetri_algebra.specs.Rational.{ℚ}
use Rattle.tetri_ip.specs.Points.{bounds_of}
use Rattle.tetri_simplex.specs.Ends.{weighted_end}
use Rattle.tetri_simplex.specs.Faults.{EndsPast}
use Rattle.tetri_dictionary.specs.Tables.{Table}
use Rattle.tetri_simplex.proofs.EndForms.{objective_weights_are}
use Rattle.tetri_simplex.proofs.ends.objective_weighted.Goals as goal

pub returns-in-Ok : goal.returns-in-Ok
returns-in-Ok g c =
    let t : Table = g.D.Dictionary.table c.args.d.now in
    let p = c.args.p.now in
    let ke : c.len-2.result + c.len-first.result ≡ length t.basic = omega (arith, c.len-2.ensures, c.len-first.ensures, p.rows.ok.0, p.costs.ok.0, c.requires.places.places) in
    let e =
    objective_weights_are p t (c.len-2.result + c.len-first.result) _ c.len-first.result c.deref.result.now c.in-Ok.fractions.items c.deref-in-Ok.result.now
    ke (omega (arith, c.len-first.ensures, c.len.ensures, p.costs.ok.0, p.rows.ok.0)) (c.len-first.ensures ∙ p.costs.ok.0) c.deref.ensures.value c.in-Ok.ensures.weights c.deref-in-Ok.ensures.value in
    λ done.
    subst (λ (ws : List ℚ). MatchResult c.weighted.result (λ w. weighted_end p (bounds_of c.args.r.now) ws (λ x. pos x) done ≡ done w.q w.weights.items) (λ e. EndsPast e (weighted_end p (bounds_of c.args.r.now) ws (λ x. pos x) done))) e (c.weighted.ensures done)

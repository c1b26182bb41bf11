use Rattle.std.proofs.Common.{rules, ◌≡◌, sym, ap, ◌∙◌, true, false}
use Rattle.std.specs.Prelude.{◌&&◌}
use Rattle.tetri_ip.specs.Points.{bounds_of, objective}
use Rattle.tetri_cert.specs.Cells.{is_same}
use Rattle.tetri_cert.proofs.PointLemmas.{in_program_box, point_answer}
use Rattle.tetri_cert.proofs.Signed.{signed}
use Rattle.tetri_cert.proofs.points.is_point_worth.Goals as goal

pub returns-then-not-holds_point : goal.returns-then-not-holds_point
returns-then-not-holds_point c =
    let p = c.args.p.now in
    let b = bounds_of c.args.r.now in
    let xs = c.args.point.now in
    let e : c.holds_point.result ≡ false = search rules in
    sym (ap (λ t. t && is_same c.args.worth (objective p xs)) (sym (point_answer p b xs c.holds_point.result c.requires.in_box c.requires.count c.holds_point.ensures) ∙ e))

pub objective_at-requires-clause-inside : goal.objective_at-requires-clause-inside
objective_at-requires-clause-inside c =
    let e : c.holds_point.result ≡ true = search rules in
    in_program_box c.args.p.now (bounds_of c.args.r.now) c.args.point.now c.requires.in_box (c.holds_point.ensures.0 e)

pub returns : goal.returns
returns c =
    let p = c.args.p.now in
    let b = bounds_of c.args.r.now in
    let xs = c.args.point.now in
    let e : c.holds_point.result ≡ true = search rules in
    let s : c.is_same.result ≡ is_same c.args.worth (objective p xs) = search (rules, signed) in
    s ∙ sym (ap (λ t. t && is_same c.args.worth (objective p xs)) (sym (point_answer p b xs c.holds_point.result c.requires.in_box c.requires.count c.holds_point.ensures) ∙ e))

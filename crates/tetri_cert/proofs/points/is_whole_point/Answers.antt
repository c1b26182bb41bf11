use Rattle.std.proofs.Common.{rules, ◌≡◌, ap, ◌∙◌, arith, length, true, false, List}
use Rattle.std.specs.Prelude.{◌&&◌}
use Rattle.std.proofs.lemmas.Int.{to_z-of_z}
use lib.IntN.{ℤ}
use mir.Val.{to_z, of_z}
use mir.Syntax.{w128}
use Rattle.tetri_ip.specs.Points.{bounds_of, objective}
use Rattle.tetri_cert.specs.Cells.{are_of_columns, is_point, is_same}
use Rattle.tetri_cert.proofs.PointLemmas.{columns_below, length-point_of, no_whole_point, whole_point_is}
use Rattle.tetri_cert.proofs.points.is_whole_point.Goals as goal

pub returns-then-not-are_of_columns : goal.returns-then-not-are_of_columns
returns-then-not-are_of_columns c =
    let n : c.len-count.result ≡ length c.args.p.now.costs.items = omega (arith, c.len-count.ensures, c.args.p.now.costs.ok.0) in
    let e : are_of_columns c.len-count.result c.args.cells.now ≡ false = search rules in
    no_whole_point c.args.p.now (bounds_of c.args.r.now) c.args.worth c.args.cells.now c.len-count.result n e

pub is_point_worth-requires-clause-count : goal.is_point_worth-requires-clause-count
is_point_worth-requires-clause-count c =
    let n : c.len-count.result ≡ length c.args.p.now.costs.items = omega (arith, c.len-count.ensures, c.args.p.now.costs.ok.0) in
    ap (λ (xs : List ℤ). length xs) (c.deref.ensures.value ∙ c.in_ok-point.ensures) ∙ length-point_of c.len-count.result c.args.cells.now ∙ n

pub returns : goal.returns
returns c =
    let n : c.len-count.result ≡ length c.args.p.now.costs.items = omega (arith, c.len-count.ensures, c.args.p.now.costs.ok.0) in
    let e : are_of_columns c.len-count.result c.args.cells.now ≡ true = search rules in
    let w : to_z w128 (of_z w128 c.args.worth) ≡ c.args.worth = to_z-of_z _ _ c.ranges.worth in
    let a = c.is_point_worth.ensures ∙ ap (λ z. is_point c.args.p.now (bounds_of c.args.r.now) c.deref.result.now && is_same z (objective c.args.p.now c.deref.result.now)) w in
    whole_point_is c.args.p.now (bounds_of c.args.r.now) c.args.worth c.args.cells.now c.len-count.result c.deref.result.now c.is_point_worth.result n e (c.deref.ensures.value ∙ c.in_ok-point.ensures) a

pub point_of-requires : goal.point_of-requires
point_of-requires c =
    let e : are_of_columns c.len-count.result c.args.cells.now ≡ true = search rules in
    columns_below c.len-count.result c.args.cells.now e

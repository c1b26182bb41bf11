use Rattle.std.proofs.Common.{rules, ◌≡◌, ◌∙◌, sym, ap, subst, true}
use lib.IntN.{ℤ}
use mir.Val.{to_z, of_z}
use mir.Syntax.{w128}
use Rattle.tetri_ip.specs.Points.{bounds_of}
use Rattle.tetri_cert.specs.Cells.{cells_of}
use Rattle.std.specs.Prelude.{List}
use Rattle.tetri_swift.specs.Nodes.{IsWorthMore}
use Rattle.tetri_swift.proofs.FairLemmas.{whole_written}
use Rattle.tetri_swift.proofs.Signed.{signed}
use Rattle.tetri_swift.proofs.tests.whole.Goals as goal

pub returns : goal.returns
returns c =
    let p = c.args.p.now in
    let b = bounds_of c.args.r.now in
    let xs = c.args.point.items in
    let e : c.are_exact.result ≡ true = search rules in
    let v : to_z w128 (of_z w128 c.in-Some.worth) ≡ c.in-Some.worth = search (rules, signed) in
    let m : IsWorthMore p b c.args.best c.in-Some.worth xs = subst (λ (ys : List ℤ). IsWorthMore p b c.args.best c.in-Some.worth ys) c.deref.ensures.value c.in-Some.ensures in
    whole_written p b c.args.best _ c.in-Some.worth _ c.deref-2.result.now c.of.result xs c.in_ok-point.point v (c.of.ensures ∙ sym c.deref-2.ensures.value) (c.in_ok-point.ensures ∙ ap cells_of c.deref-3.ensures.value) c.requires.fit c.requires.in_box m (c.are_exact.ensures e)

use Rattle.std.proofs.Common.{rules, ◌≡◌, refl, arith, length, map, true}
use Rattle.tetri_ip.specs.Points.{bounds_of}
use Rattle.tetri_num.specs.Frac.{value}
use Rattle.tetri_swift.proofs.FairLemmas.{fractions_count, split_written}
use Rattle.tetri_swift.proofs.tests.split.Goals as goal

pub returns : goal.returns
returns c =
    let p = c.args.p.now in
    let b = bounds_of c.args.r.now in
    let e : c.is_open.result ≡ true = search rules in
    let n : length c.args.point.now ≡ length p.costs.items = search (rules, arith) in
    split_written p b c.args.best _ (map value c.args.point.now) c.in_ok-cells.cells _ refl c.in_ok-cells.ensures (fractions_count c.args.point.now _ n) c.requires.fit c.requires.in_box (c.is_open.ensures e)

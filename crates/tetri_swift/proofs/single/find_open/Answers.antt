use Rattle.std.proofs.Common.{◌≤◌, arith, length}
use Rattle.tetri_ip.specs.Points.{bounds_of}
use Rattle.tetri_swift.proofs.StepLemmas.{single_point}
use Rattle.tetri_swift.proofs.single.find_open.Goals as goal

pub returns : goal.returns
returns c =
    let n : length c.args.p.now.costs.items ≤ c.loop-j.j = omega (arith, c.len-j-end.ensures, c.loop-j-test.false, c.args.p.now.costs.ok.0) in
    single_point c.args.p.now (bounds_of c.args.r.now) c.loop-j.j c.requires.in_box n c.loop-j.invariant

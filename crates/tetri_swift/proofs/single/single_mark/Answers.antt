use Rattle.std.proofs.Common.{sym, subst, true}
use Rattle.tetri_ip.specs.Points.{bounds_of}
use Rattle.tetri_swift.specs.Nodes.{IsFair}
use Rattle.tetri_swift.proofs.FairLemmas.{single_fair}
use Rattle.tetri_swift.proofs.single.single_mark.Goals as goal

pub returns : goal.returns
returns c =
    let p = c.args.p.now in
    let b = bounds_of c.args.r.now in
    subst (IsFair p b c.args.best true) (sym c.in_ok-mark.ensures) (single_fair p b c.args.best c.requires.fit c.requires.zero c.requires.bounded c.requires.in_box c.requires.single)

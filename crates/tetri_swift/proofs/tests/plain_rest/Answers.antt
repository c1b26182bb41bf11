use Rattle.std.proofs.Common.{sym, subst, false, List}
use Rattle.tetri_ip.specs.declared.programs.Weight.{Weight}
use Rattle.tetri_cert.specs.declared.marks.Mark.TheVariants.{Rest}
use lib.IntN.{pos}
use Rattle.tetri_ip.specs.Points.{bounds_of}
use Rattle.tetri_swift.specs.Nodes.{IsFair}
use Rattle.tetri_swift.proofs.FairLemmas.{none_fair}
use Rattle.tetri_swift.proofs.tests.plain_rest.Goals as goal

pub returns : goal.returns
returns c =
    let p = c.args.p.now in
    let b = bounds_of c.args.r.now in
    subst (λ (ws : List Weight). IsFair p b c.args.best false (Rest (pos 1) ws)) (sym c.new.ensures) (none_fair p b c.args.best c.requires.fit c.requires.in_box)

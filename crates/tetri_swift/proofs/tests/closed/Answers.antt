use Rattle.std.proofs.Common.{rules, ◌≡◌, ◌∙◌, sym, true}
use Rattle.tetri_ip.specs.Points.{bounds_of}
use Rattle.tetri_swift.proofs.FairLemmas.{close_written}
use Rattle.tetri_swift.proofs.tests.closed.Goals as goal

pub returns : goal.returns
returns c =
    let e : c.are_bounding.result ≡ true = search rules in
    close_written c.args.p.now (bounds_of c.args.r.now) c.args.best _ c.deref.result.now c.of.result (c.of.ensures ∙ sym c.deref.ensures.value) c.requires.fit c.requires.in_box (c.are_bounding.ensures e)

use Rattle.std.proofs.Common.{rules, ◌≡◌, ◌∙◌, true}
use Rattle.tetri_ip.specs.Points.{bounds_of}
use Rattle.tetri_swift.proofs.FairLemmas.{rest_written}
use Rattle.tetri_swift.proofs.tests.rest.Goals as goal

pub returns : goal.returns
returns c =
    let e : c.are_weighed.result ≡ true = search rules in
    rest_written c.args.p.now (bounds_of c.args.r.now) c.args.best _ c.args.weights.now c.of.result (c.of.ensures ∙ c.in_ok-copy.ensures.items) c.requires.fit c.requires.in_box (c.are_weighed.ensures.above e) (c.are_weighed.ensures.formed e)

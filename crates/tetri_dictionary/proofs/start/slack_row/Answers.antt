use Rattle.std.proofs.Common.{◌<◌, length, ◌∙◌, arith}
use Rattle.std.proofs.lemmas.List.{at_drop_more}
use lib.IntN.{pos}
use Rattle.tetri_dictionary.specs.Start.{slack_from}
use Rattle.tetri_dictionary.proofs.Starting.{number_pushed, whole_read}
use Rattle.tetri_dictionary.proofs.start.slack_row.Goals as goal

pub loop-j-preserved : goal.loop-j-preserved
loop-j-preserved c =
    let h : c.loop-j.j < length c.args.p.now.costs.items = omega (arith, c.len-j-end.ensures, c.args.p.now.costs.ok.0) in
    number_pushed c.loop-j.slack.items c.push-in-loop-j.new.self.items c.whole-in-loop-j.result _ _ _ c.in_ok-push-2.ensures.items
    (whole_read c.whole-in-loop-j.result c.slack_coefficient.result _ c.whole-in-loop-j.ensures.rational c.slack_coefficient.ensures.within c.slack_coefficient.ensures.value)
    (at_drop_more (slack_from c.args.row.now.terms.items c.loop-j.j) c.args.p.now.costs.items c.loop-j.j (pos 0) h)
    ∙ c.loop-j.invariant

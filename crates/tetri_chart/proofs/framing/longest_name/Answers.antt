use Rattle.std.proofs.Common.{◌∙◌, ap, length, arith}
use Rattle.tetri_chart.proofs.FramingLemmas.{longest_next, name_short}
use Rattle.tetri_chart.proofs.framing.longest_name.Goals as goal

pub loop-node-preserved : goal.loop-node-preserved
loop-node-preserved c =
    let l = c.loop-node in
    let name = ap length (c.bytes.ensures.value ∙ c.name_of.ensures) in
    record {
      longest = longest_next c.args.trace.now.cluster l.node l.longest c.max-longest.result (omega arith) (omega (arith, name)) ∙ l.invariant.longest;
      most = omega (arith, l.invariant.most, name_short c.name_of.result.now c.bytes.ensures.name, ap length c.bytes.ensures.value);
    }

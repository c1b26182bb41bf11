use Rattle.std.proofs.Common.{arith}
use Rattle.tetri_strl.specs.Tree.{tree}
use Rattle.tetri_delay.proofs.ChargedLemmas.{peak_small}
use Rattle.tetri_delay.proofs.charging.peak_of.Goals as goal

pub returns : goal.returns
returns c = omega (arith, peak_small (tree c.args.e.now) c.requires)

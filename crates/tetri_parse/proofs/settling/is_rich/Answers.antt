use Rattle.std.proofs.Common.{arith}
use Rattle.std.proofs.lemmas.Bool.Decides.{nat_tests}
use Rattle.tetri_parse.proofs.Peaks.{same_peak}
use Rattle.tetri_parse.proofs.settling.is_rich.Goals as goal

pub returns : goal.returns
returns c = let e = same_peak c.args.cluster.now c.args.unit c.args.syntax.now in grind (arith, nat_tests)

use Rattle.std.proofs.Common.{◌<◌, arith, false}
use Rattle.tetri_logs.proofs.TableLemmas.{separator_told}
use Rattle.tetri_logs.proofs.words.is_separator.Goals as goal

pub returns : goal.returns
returns c =
    let low : c.args.b < 256 = omega arith in
    separator_told c.args.b false low

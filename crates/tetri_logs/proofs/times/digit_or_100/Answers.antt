use Rattle.std.proofs.Common.{◌<◌, arith}
use Rattle.tetri_logs.proofs.TableLemmas.{digit_told}
use Rattle.tetri_logs.proofs.times.digit_or_100.Goals as goal

pub returns : goal.returns
returns c =
    let low : c.args.byte < 256 = omega arith in
    digit_told c.args.byte 0 low

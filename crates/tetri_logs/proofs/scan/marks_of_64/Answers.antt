use Rattle.std.proofs.Common.{arith}
use Rattle.std.proofs.lemmas.Simd.{zip2_splat}
use Rattle.tetri_logs.proofs.ScanLemmas.{hit, marked}
use Rattle.tetri_logs.proofs.scan.marks_of_64.Goals as goal

pub returns : goal.returns
returns c =
    let bytes = c.args.bytes in
    let long = c.fits-bytes.0 in
    marked c.args.byte bytes _ (omega (arith, long)) (zip2_splat hit bytes 64 c.args.byte long)

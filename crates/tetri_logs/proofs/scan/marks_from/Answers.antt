use Rattle.std.proofs.Common.{◌∙◌, ◌-◌, ◌/◌, ◌^◌, ap, arith, length}
use Rattle.std.specs.Prelude.{◌==◌}
use Rattle.tetri_logs.proofs.ScanLemmas.{at_end}
use Rattle.tetri_logs.proofs.scan.marks_from.Goals as goal

pub returns : goal.returns
returns c =
    let text = c.args.text.now in
    ap (λ m. m / 2 ^ (64 - (length text - c.args.at))) c.marks_of_64-2.ensures
    ∙ at_end (λ b. b == c.args.byte) text c.args.at c.requires.long (omega arith) (omega arith)

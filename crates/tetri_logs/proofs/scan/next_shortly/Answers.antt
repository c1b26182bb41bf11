use Rattle.std.proofs.Common.{sym, ap, ◌∙◌, arith}
use Rattle.std.specs.Prelude.{◌==◌}
use lib.Count.{count_trailing_zeros}
use Rattle.tetri_logs.proofs.ScanLemmas.{passed, stopped}
use Rattle.tetri_logs.proofs.scan.next_shortly.Goals as goal

pub returns-then-found-ne0 : goal.returns-then-found-ne0
returns-then-found-ne0 c =
    let found = c.marks_of_8-found in
    let stop = stopped (λ b. b == c.args.byte) c.args.text.now c.args.from 8 (omega arith) (omega arith) (omega (arith, found.ensures)) ∙ ap (count_trailing_zeros 64) (sym found.ensures) in
    omega (arith, stop)

pub returns : goal.returns
returns c =
    let pass = passed (λ b. b == c.args.byte) c.args.text.now c.args.from 8 (omega arith) (omega (arith, c.marks_of_8-found.ensures)) in
    omega (arith, pass, c.next_slowly-2.ensures)

use Rattle.std.proofs.Common.{sym, ap, ◌∙◌, arith}
use Rattle.std.specs.Prelude.{◌==◌}
use lib.Count.{count_trailing_zeros}
use Rattle.tetri_logs.proofs.ScanLemmas.{passed, stopped}
use Rattle.tetri_logs.proofs.scan.next_far.Goals as goal

pub returns-then-found-ne0 : goal.returns-then-found-ne0
returns-then-found-ne0 c =
    let found = c.marks_of_64-found in
    let stop = stopped (λ b. b == c.args.byte) c.args.text.now c.loop-i.i 64 (omega arith) (omega arith) (omega (arith, found.ensures)) ∙ ap (count_trailing_zeros 64) (sym found.ensures) in
    omega (arith, stop, c.loop-i.invariant.same)

pub loop-i-preserved : goal.loop-i-preserved
loop-i-preserved c =
    let pass = passed (λ b. b == c.args.byte) c.args.text.now c.loop-i.i 64 (omega arith) (omega (arith, c.marks_of_64-found.ensures)) in
    record { same = omega (arith, pass, c.loop-i.invariant.same); inside = omega arith }

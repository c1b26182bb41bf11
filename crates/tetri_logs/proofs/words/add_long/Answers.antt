use Rattle.std.proofs.Common.{map, arith}
use Rattle.std.specs.Prelude.{◌==◌}
use Rattle.tetri_logs.proofs.ScanLemmas.{part_last}
use Rattle.tetri_logs.proofs.words.add_long.Goals as goal

pub returns-clause-parts : goal.returns-clause-parts
returns-clause-parts c =
    let inv = c.loop-at.invariant in
    part_last (λ b. b == c.args.mark) c.args.line.now c.loop-at.begin (map (λ x. x.now) c.loop-at.parts.items) _ (omega arith) (omega (arith, inv.next, c.loop-at-test.false)) inv.same

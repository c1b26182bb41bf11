use Rattle.std.proofs.Common.{◌∙◌, ◌++◌, ap, rules, subst, sym}
use Rattle.tetri_workload.specs.Reading.{IsRead}
use Rattle.tetri_workload.proofs.reading.Reading.pass_ahead.Goals as goal

pub returns-clause-read : goal.returns-clause-read
returns-clause-read c = λ s o es given.
    let stays = c.pass_next.ensures.stays (search (rules, c.loop-test.false)) in
    let read = c.loop.invariant.read s o es given in
    (read.0, ap (λ w. read.0 ++ w.entries) stays.1 ∙ read.1, subst (IsRead s o c.args.nodes.now read.0) (sym stays.0) read.2)

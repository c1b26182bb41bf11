use Rattle.std.proofs.Common.{◌∙◌}
use Rattle.tetri_base.specs.Lists.{with_first}
use Rattle.tetri_report.specs.Strips.{telling}
use Rattle.tetri_trace.specs.Scenario.{scenario}
use Rattle.tetri_run.specs.Check.{checked_behind}
use Rattle.tetri_run.proofs.StepLemmas.{fed_lines, keeps_counts, placed}
use Rattle.tetri_run.proofs.check.go_on.Goals as goal

pub returns-clause-answer : goal.returns-clause-answer
returns-clause-answer g c = λ d line is.
    let t = scenario c.args.trace.now in
    let new = c.take.new.progress in
    let taken = c.in_ok-take.ensures.answer d line is in
    placed t d line new c.args.number taken (c.requires.number ∙ fed_lines t d c.args.progress.now line (telling c.args.told) is) c.test_place.result
    (c.test_place.ensures (with_first taken.ended d.past) (keeps_counts t (checked_behind t d line taken.ended) new taken.keeps))

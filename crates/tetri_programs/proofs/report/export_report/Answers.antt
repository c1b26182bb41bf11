use Rattle.tetri_trace.specs.Scenario.{scenario}
use Rattle.tetri_programs.proofs.WatchLemmas.{export_seen}
use Rattle.tetri_programs.proofs.report.export_report.Goals as goal

pub returns-in-Ok-clause-exported : goal.returns-in-Ok-clause-exported
returns-in-Ok-clause-exported g c = λ content lines told told_lines.
    let t = scenario c.in-Ok._trace in (
      t,
      (
        c.in-Ok.ensures.kept content told,
        export_seen t lines c.args.format c.args.cycle c.new-watching.result c.check_seen.new.observer (c.in-Ok.ensures.seen lines told_lines)
            c.new-watching.ensures.cycle c.new-watching.ensures.format c.new-watching.ensures.nothing c.end.result c.end.ensures,
      ),
    )

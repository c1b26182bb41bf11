use Rattle.std.proofs.Common.{◌++◌, sym, subst}
use Rattle.tetri_logs.specs.Entry.{entries_in}
use Rattle.tetri_logs.specs.Origin.{begun_at}
use Rattle.tetri_workload.specs.Reading.{IsRead}
use Rattle.tetri_workload.proofs.reading.Reading.add.Goals as goal

pub returns-in_ok-add_entry-in-One-clause-read : goal.returns-in_ok-add_entry-in-One-clause-read
returns-in_ok-add_entry-in-One-clause-read c = λ x at o es given.
    subst (λ f. IsRead (begun_at c.args.settings.now x) o c.args.nodes.now (es ++ entries_in f) c.add_entry.new.self) (sym c.in-One.is)
    (c.in_ok-add_entry-in-One.ensures.read x at o es given)

pub returns-in_ok-add_tasks-in-Tasks-clause-read : goal.returns-in_ok-add_tasks-in-Tasks-clause-read
returns-in_ok-add_tasks-in-Tasks-clause-read c = λ x at o es given.
    subst (λ f. IsRead (begun_at c.args.settings.now x) o c.args.nodes.now (es ++ entries_in f) c.add_tasks.new.self) (sym c.in-Tasks.is)
    (c.in_ok-add_tasks-in-Tasks.ensures.read x at o es given)

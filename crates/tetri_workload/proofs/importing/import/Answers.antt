use Rattle.std.proofs.Common.{◌≡◌, subst}
use Rattle.std.specs.Prelude.{IfErr, IfOk, Err}
use Rattle.tetri_logs.specs.Options.{settings_of}
use Rattle.tetri_logs.specs.Reading.{entries, facts_in, no_facts}
use Rattle.tetri_workload.specs.Import.{IsImportOn, IsRefused}
use Rattle.tetri_workload.specs.Kinds.{are_mixed}
use Rattle.tetri_workload.proofs.importing.import.Goals as goal

pub returns-in-Some-clause-refused : goal.returns-in-Some-clause-refused
returns-in-Some-clause-refused c =
    let mixed = are_mixed c.args.nodes.now in
    subst (λ o. settings_of o (facts_in no_facts (entries mixed c.args.format c.args.log.now)) ≡ Err c.in-Some.fault) c.fitted-options.ensures
    (c.in-Some.ensures.early mixed c.args.format c.args.log.now)

pub returns-clause-trace : goal.returns-clause-trace
returns-clause-trace c =
    subst (λ o. IfOk c.import_on.result (IsImportOn c.args.format o c.args.nodes.now c.args.log.now)) c.fitted-options.ensures c.import_on.ensures.trace

pub returns-clause-refused : goal.returns-clause-refused
returns-clause-refused c =
    subst (λ o. IfErr c.import_on.result (IsRefused (entries (are_mixed c.args.nodes.now) c.args.format c.args.log.now) c.args.nodes.now o)) c.fitted-options.ensures c.import_on.ensures.refused

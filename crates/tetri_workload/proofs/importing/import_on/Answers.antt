use Rattle.std.proofs.Common.{sym, subst}
use Rattle.std.specs.Prelude.{All}
use Rattle.std.proofs.lemmas.Result.{IfErr-weaker, IfOk-weaker}
use Rattle.tetri_logs.specs.Reading.{entries}
use Rattle.tetri_workload.specs.Import.{IsImportOn, IsRefused}
use Rattle.tetri_workload.specs.Kinds.{are_mixed}
use Rattle.tetri_workload.specs.Saying.{IsAsked}
use Rattle.tetri_workload.proofs.TakingLemmas.{all_asked}
use Rattle.tetri_workload.proofs.importing.import_on.Goals as goal

pub told-requires : goal.told-requires
told-requires c =
    let drawn = c.in_ok-drawn.ensures.drawn in
    record {
      good = drawn.2.good;
      known = c.in_ok-drawn.ensures.known;
      asked = subst (λ t. All (λ u. IsAsked u.demand) t.jobs) (sym drawn.2.tally) (all_asked c.in_ok-drawn.drawn.settings drawn.1);
    }

pub returns-clause-trace : goal.returns-clause-trace
returns-clause-trace c =
    let a = c.args in
    IfOk-weaker c.told.result _ (IsImportOn a.format a.options.now a.nodes.now a.log.now) (λ i given. given a.format a.options.now a.log.now c.in_ok-drawn.ensures.drawn) c.told.ensures.trace

pub returns-clause-refused : goal.returns-clause-refused
returns-clause-refused c =
    let a = c.args in
    let es = entries (are_mixed a.nodes.now) a.format a.log.now in
    IfErr-weaker c.told.result _ (IsRefused es a.nodes.now a.options.now) (λ fault given. given es a.options.now c.in_ok-drawn.ensures.drawn) c.told.ensures.refused

use Rattle.std.proofs.Common.{◌∙◌, refl, subst, sym}
use Rattle.std.specs.Prelude.{OnOk}
use Rattle.std.proofs.lemmas.Result.{err_from_is_err_and}
use Rattle.tetri_report.specs.Strips.{telling}
use Rattle.tetri_trace.specs.Scenario.{scenario}
use Rattle.tetri_run.specs.Checked.{SawEnded}
use Rattle.tetri_run.proofs.CheckLemmas.{ok_same}
use Rattle.tetri_run.proofs.StepLemmas.{fault_refused, fed, fed_reads}
use Rattle.tetri_run.proofs.check.check_line.Goals as goal

pub go_on-requires-clause-fed : goal.go_on-requires-clause-fed
go_on-requires-clause-fed g c =
    let t = scenario c.args.trace.now in
    let at = c.requires.at in
    let p = c.args.progress.now in
    let new = record p { strips = c.feed.new.self } in
    (at.0, c.args.line.now, fed t at.0 p new c.args.line.now (telling c.in_ok-told.told) at.1 c.requires.short c.in_ok-told.ensures.answer c.in_ok-told.ensures.left refl refl refl refl)

pub returns-clause-answer : goal.returns-clause-answer
returns-clause-answer g c = λ d at.
    let t = scenario c.args.trace.now in
    let p = c.args.progress.now in
    let new = record p { strips = c.feed.new.self } in
    c.go_on.ensures.answer d c.args.line.now
    (fed t d p new c.args.line.now (telling c.in_ok-told.told) at c.requires.short c.in_ok-told.ensures.answer c.in_ok-told.ensures.left refl refl refl refl)

pub returns-clause-saw : goal.returns-clause-saw
returns-clause-saw g c = λ d ended at reads.
    let t = scenario c.args.trace.now in
    let p = c.args.progress.now in
    let new = record p { strips = c.feed.new.self } in
    let told = telling c.in_ok-told.told in
    let is = fed t d p new c.args.line.now told at c.requires.short c.in_ok-told.ensures.answer c.in_ok-told.ensures.left refl refl refl refl in
    subst (λ o. OnOk c.go_on.result (SawEnded g.O.Observer.saw t d.past o c.args.observer.now c.go_on.new.observer)) (ok_same (sym (fed_reads t d new c.args.line.now told is) ∙ reads))
    (c.go_on.ensures.saw d c.args.line.now is)

pub returns-in_err-told-clause-answer : goal.returns-in_err-told-clause-answer
returns-in_err-told-clause-answer g c = λ d at.
    let t = scenario c.args.trace.now in
    let p = c.args.progress.now in
    let new = record p { strips = c.feed.new.self } in
    let err = err_from_is_err_and c.from_residual.result c.from_residual.ensures.1 in
    rw (err.1, err.2) (fault_refused t d p new c.args.line.now c.in_err-told.field-0.0 at c.requires.short c.in_err-told.ensures.answer)

use Rattle.std.proofs.Common.{◌≡◌, ◌∙◌, ◌⊎◌, ap, inl, inr, refl, subst, sym, arith}
use Rattle.std.specs.Prelude.{Err, IsErrOf, Result}
use Rattle.std.proofs.lemmas.Result.{err_from_is_err_and}
use Rattle.tetri_cycles.specs.Observed.{Observed}
use Rattle.tetri_notice.specs.declared.fault.TraceFault.TheVariants.{Read}
use Rattle.tetri_report.specs.Block.{Block}
use Rattle.tetri_state.specs.Snapshot.{opening_state}
use Rattle.tetri_trace.specs.Lines.{scenario_in}
use Rattle.tetri_trace.specs.Scenario.{scenario}
use Rattle.tetri_run.specs.Check.{IsAccepted}
use Rattle.tetri_run.specs.CheckEnds.{status_of_halt}
use Rattle.tetri_run.specs.Run.{in_order}
use Rattle.tetri_run.specs.Status.{IsRefusal}
use Rattle.tetri_run.specs.declared.halt.CheckHalt.TheVariants.{ReadFault}
use Rattle.tetri_run.specs.declared.status.Status.TheVariants.{NoMemory}
use Rattle.tetri_run.proofs.CheckLemmas.{ok_not_err}
use Rattle.tetri_run.proofs.SeenLemmas.{fault_bad, fault_halted, fault_is_halt, fault_memory, fault_read, fault_refuses, halt_halted, halt_is_halt, halt_memory, halt_not_bad, halt_read, halt_rejects, seen_of}
use Rattle.tetri_run.proofs.TopLemmas.{same_scenario}
use Rattle.tetri_run.proofs.seen.check_seen.Goals as goal

-- The trace was not read.

pub returns-in_err-kept-clause-halts : goal.returns-in_err-kept-clause-halts
returns-in_err-kept-clause-halts g c =
    let p = err_from_is_err_and c.from_residual.result c.from_residual.ensures.1 in
    rw (p.1, p.2) (fault_is_halt c.in_err-kept.field-0.0)

pub returns-in_err-kept-clause-halted : goal.returns-in_err-kept-clause-halted
returns-in_err-kept-clause-halted g c = λ content lines told told_lines.
    let p = err_from_is_err_and c.from_residual.result c.from_residual.ensures.1 in
    rw (p.1, p.2) (fault_halted (scenario_in content) c.in_err-kept.field-0.0 lines (c.in_err-kept.ensures.exact content told))

pub returns-in_err-kept-clause-bad_trace : goal.returns-in_err-kept-clause-bad_trace
returns-in_err-kept-clause-bad_trace g c =
    let p = err_from_is_err_and c.from_residual.result c.from_residual.ensures.1 in
    rw (p.1, p.2) (λ content line why told e. fault_bad (scenario_in content) c.in_err-kept.field-0.0 line why (c.in_err-kept.ensures.exact content told) e)

pub returns-in_err-kept-clause-read : goal.returns-in_err-kept-clause-read
returns-in_err-kept-clause-read g c =
    let p = err_from_is_err_and c.from_residual.result c.from_residual.ensures.1 in
    rw (p.1, p.2) (λ e. inl (c.in_err-kept.ensures.read (ap Err (fault_read c.in_err-kept.field-0.0 e))))

pub returns-in_err-kept-clause-accepts : goal.returns-in_err-kept-clause-accepts
returns-in_err-kept-clause-accepts g c =
    let p = err_from_is_err_and c.from_residual.result c.from_residual.ensures.1 in
    rw (p.1, p.2)
    (λ content lines t told is told_lines accepted quiet besides.
    inr (fault_memory (scenario_in content) c.in_err-kept.field-0.0 t (c.in_err-kept.ensures.exact content told) is (λ e. quiet (inl (c.in_err-kept.ensures.read (ap Err e))))))

pub returns-in_err-kept-clause-rejects : goal.returns-in_err-kept-clause-rejects
returns-in_err-kept-clause-rejects g c =
    let p = err_from_is_err_and c.from_residual.result c.from_residual.ensures.1 in
    rw (p.1, p.2)
    (λ content lines t told is told_lines not quiet.
    inr (fault_memory (scenario_in content) c.in_err-kept.field-0.0 t (c.in_err-kept.ensures.exact content told) is (λ e. quiet (inl (c.in_err-kept.ensures.read (ap Err e))))))

pub returns-in_err-kept-clause-refuses : goal.returns-in_err-kept-clause-refuses
returns-in_err-kept-clause-refuses g c =
    let p = err_from_is_err_and c.from_residual.result c.from_residual.ensures.1 in
    rw (p.1, p.2)
    (λ content line why told is quiet.
    fault_refuses (scenario_in content) c.in_err-kept.field-0.0 line why (c.in_err-kept.ensures.exact content told) is (λ e. quiet (c.in_err-kept.ensures.read (ap Err e))))

-- The check of the report came to no end.

pub returns-in_err-check_report-clause-halts : goal.returns-in_err-check_report-clause-halts
returns-in_err-check_report-clause-halts g c =
    let p = err_from_is_err_and c.from_residual-in_err-check_report.result c.from_residual-in_err-check_report.ensures.1 in
    rw (p.1, p.2) (halt_is_halt c.in_err-check_report.field-0.0)

pub returns-in_err-check_report-clause-halted : goal.returns-in_err-check_report-clause-halted
returns-in_err-check_report-clause-halted g c = λ content lines told told_lines.
    let t = scenario c.in_ok-kept.kept in
    let p = err_from_is_err_and c.from_residual-in_err-check_report.result c.from_residual-in_err-check_report.ensures.1 in
    let there = ap (λ f. f c.args.report.now) c.read_trace.ensures.same ∙ told_lines in
    rw (p.1, p.2)
    (halt_halted t c.in_ok-kept.ensures.sound lines
    (λ past. Observed g.O.Observer.saw t (opening_state t) (in_order past) c.args.observer.now c.check_report.new.observer) c.in_err-check_report.field-0.0 (scenario_in content)
    (c.in_err-check_report.ensures.answer lines there) (c.in_ok-kept.ensures.exact content told))

pub returns-in_err-check_report-clause-bad_trace : goal.returns-in_err-check_report-clause-bad_trace
returns-in_err-check_report-clause-bad_trace g c =
    let p = err_from_is_err_and c.from_residual-in_err-check_report.result c.from_residual-in_err-check_report.ensures.1 in
    rw (p.1, p.2) (λ content line why told e. absurd (halt_not_bad c.in_err-check_report.field-0.0 line why e))

pub returns-in_err-check_report-clause-read : goal.returns-in_err-check_report-clause-read
returns-in_err-check_report-clause-read g c =
    let p = err_from_is_err_and c.from_residual-in_err-check_report.result c.from_residual-in_err-check_report.ensures.1 in
    rw (p.1, p.2)
    (λ e. inr (omega (arith, c.in_err-check_report.ensures.read (ap Err (halt_read c.in_err-check_report.field-0.0 e)), c.read_trace.ensures.later c.args.report.now)))

pub returns-in_err-check_report-clause-accepts : goal.returns-in_err-check_report-clause-accepts
returns-in_err-check_report-clause-accepts g c =
    let t = scenario c.in_ok-kept.kept in
    let p = err_from_is_err_and c.from_residual-in_err-check_report.result c.from_residual-in_err-check_report.ensures.1 in
    rw (p.1, p.2)
    (λ content lines s told is told_lines accepted quiet besides.
    inr
    (halt_memory t c.in_ok-kept.ensures.sound lines
    (λ past. Observed g.O.Observer.saw t (opening_state t) (in_order past) c.args.observer.now c.check_report.new.observer) c.in_err-check_report.field-0.0
    (c.in_err-check_report.ensures.answer lines (ap (λ f. f c.args.report.now) c.read_trace.ensures.same ∙ told_lines))
    (subst (λ u. IsAccepted u lines) (same_scenario content s t is (c.in_ok-kept.ensures.exact content told)) accepted)
    (λ e. quiet (inr (omega (arith, c.in_err-check_report.ensures.read (ap Err e), c.read_trace.ensures.later c.args.report.now))))))

pub returns-in_err-check_report-clause-rejects : goal.returns-in_err-check_report-clause-rejects
returns-in_err-check_report-clause-rejects g c =
    let t = scenario c.in_ok-kept.kept in
    let p = err_from_is_err_and c.from_residual-in_err-check_report.result c.from_residual-in_err-check_report.ensures.1 in
    rw (p.1, p.2)
    (λ content lines s told is told_lines not quiet.
    subst (λ u. IsRefusal (status_of_halt c.in_err-check_report.field-0.0) u lines ⊎ (status_of_halt c.in_err-check_report.field-0.0 ≡ NoMemory))
    (sym (same_scenario content s t is (c.in_ok-kept.ensures.exact content told)))
    (halt_rejects t c.in_ok-kept.ensures.sound lines
    (λ past. Observed g.O.Observer.saw t (opening_state t) (in_order past) c.args.observer.now c.check_report.new.observer) c.in_err-check_report.field-0.0
    (c.in_err-check_report.ensures.answer lines (ap (λ f. f c.args.report.now) c.read_trace.ensures.same ∙ told_lines))
    (λ e. quiet (inr (omega (arith, c.in_err-check_report.ensures.read (ap Err e), c.read_trace.ensures.later c.args.report.now))))))

pub returns-in_err-check_report-clause-refuses : goal.returns-in_err-check_report-clause-refuses
returns-in_err-check_report-clause-refuses g c = λ content line why told is quiet.
    absurd (ok_not_err (sym (c.in_ok-kept.ensures.exact content told) ∙ is))

-- The report is accepted.

pub returns-clause-seen : goal.returns-clause-seen
returns-clause-seen g c = λ lines told_lines.
    let t = scenario c.in_ok-kept.kept in
    let answer = c.in_ok-check_report.ensures.answer lines (ap (λ f. f c.args.report.now) c.read_trace.ensures.same ∙ told_lines) in
    seen_of t c.in_ok-kept.ensures.sound lines g.O.Observer.saw c.args.observer.now c.check_report.new.observer answer.0 answer.1.0 answer.1.1

pub returns-clause-rejects : goal.returns-clause-rejects
returns-clause-rejects g c = λ content lines s told is told_lines not quiet.
    let t = scenario c.in_ok-kept.kept in
    let answer = c.in_ok-check_report.ensures.answer lines (ap (λ f. f c.args.report.now) c.read_trace.ensures.same ∙ told_lines) in
    let seen = seen_of t c.in_ok-kept.ensures.sound lines g.O.Observer.saw c.args.observer.now c.check_report.new.observer answer.0 answer.1.0 answer.1.1 in
    absurd (not (subst (λ u. IsAccepted u lines) (sym (same_scenario content s t is (c.in_ok-kept.ensures.exact content told))) seen.assured.accepted))

pub returns-clause-refuses : goal.returns-clause-refuses
returns-clause-refuses g c = λ content line why told is quiet. absurd (ok_not_err (sym (c.in_ok-kept.ensures.exact content told) ∙ is))

use Rattle.std.proofs.Common.{◌∙◌, ◌+◌, ◌^◌, ap, refl, subst, sym, arith}
use Rattle.tetri_state.specs.Planning.{instance_of}
use Rattle.tetri_state.specs.Reached.{IsReached, begun}
use Rattle.tetri_trace.specs.Scenario.{scenario}
use Rattle.std.proofs.lemmas.Result.{err_from_is_err_and}
use Rattle.tetri_run.specs.Checked.{Sees, SeesSome}
use Rattle.tetri_run.specs.Run.{state_behind}
use Rattle.tetri_run.proofs.StepLemmas.{cycle_refused, cycle_shown, cycle_taken, fed_begins, fed_few, fed_sees, fed_small, fed_starts}
use Rattle.tetri_run.proofs.check.end_cycle.Goals as goal

pub view_of-requires-clause-sees : goal.view_of-requires-clause-sees
view_of-requires-clause-sees g c =
    let t = scenario c.args.trace.now in
    let p = c.args.progress.now in
    let fed = c.requires.fed in
    subst (λ s. SeesSome t p.state s (2 ^ 63)) (sym c.replace-sight.ensures.value) (fed_sees t fed.0 p fed.1 _ fed.2 c.args.number c.requires.number c.requires.few)

pub check_cycle-requires-clause-sound_instance : goal.check_cycle-requires-clause-sound_instance
check_cycle-requires-clause-sound_instance g c =
    let t = scenario c.args.trace.now in
    let p = c.args.progress.now in
    let d = c.requires.fed.0 in
    let sight = subst (Sees t (state_behind t d.past) d.reading.block.certificate p.state) (sym c.replace-sight.ensures.value) c.requires.fed.2.sight in
    (c.in_ok-view.ensures (state_behind t d.past) d.reading.block.certificate sight).slot.sound

pub check_cycle-requires-clause-reached : goal.check_cycle-requires-clause-reached
check_cycle-requires-clause-reached g c =
    let t = scenario c.args.trace.now in
    let p = c.args.progress.now in
    let d = c.requires.fed.0 in
    let sight = subst (Sees t (state_behind t d.past) d.reading.block.certificate p.state) (sym c.replace-sight.ensures.value) c.requires.fed.2.sight in
    let view = c.in_ok-view.ensures (state_behind t d.past) d.reading.block.certificate sight in
    subst (IsReached t begun) (sym view.slot.state) (fed_begins t d p c.requires.fed.1 _ c.requires.fed.2)

pub check_cycle-requires-clause-instance : goal.check_cycle-requires-clause-instance
check_cycle-requires-clause-instance g c =
    let t = scenario c.args.trace.now in
    let p = c.args.progress.now in
    let d = c.requires.fed.0 in
    let sight = subst (Sees t (state_behind t d.past) d.reading.block.certificate p.state) (sym c.replace-sight.ensures.value) c.requires.fed.2.sight in
    let view = c.in_ok-view.ensures (state_behind t d.past) d.reading.block.certificate sight in
    view.slot.instance ∙ ap (instance_of t) (sym view.slot.state)

pub check_cycle-requires-clause-tells : goal.check_cycle-requires-clause-tells
check_cycle-requires-clause-tells g c =
    let t = scenario c.args.trace.now in
    let p = c.args.progress.now in
    let d = c.requires.fed.0 in
    let sight = subst (Sees t (state_behind t d.past) d.reading.block.certificate p.state) (sym c.replace-sight.ensures.value) c.requires.fed.2.sight in
    let view = c.in_ok-view.ensures (state_behind t d.past) d.reading.block.certificate sight in
    (d.reading.block.certificate, view.tells, view.lines, fed_few t d p c.requires.fed.1 c.args.head.now c.requires.fed.2 c.args.number c.requires.number c.requires.few)

pub check_cycle-requires-clause-starts : goal.check_cycle-requires-clause-starts
check_cycle-requires-clause-starts g c =
    fed_starts (scenario c.args.trace.now) c.requires.fed.0 c.args.progress.now c.requires.fed.1 c.args.head.now c.requires.fed.2

pub see-requires-clause-shown : goal.see-requires-clause-shown
see-requires-clause-shown g c =
    let t = scenario c.args.trace.now in
    let p = c.args.progress.now in
    let d = c.requires.fed.0 in
    let fed = c.requires.fed.2 in
    let sight = subst (Sees t (state_behind t d.past) d.reading.block.certificate p.state) (sym c.replace-sight.ensures.value) fed.sight in
    let view = c.in_ok-view.ensures (state_behind t d.past) d.reading.block.certificate sight in
    let done = c.in_ok-tally.ensures.answer (state_behind t d.past) d.reading.block.certificate view in (
      state_behind t d.past,
      d.reading.block.certificate,
      cycle_shown t d p c.requires.fed.1 c.args.head.now fed c.view_of.new.state c.check_cycle.new.state c.in_ok-view.view c.in_ok-tally.tally _ view done refl c.in_ok-held.ensures refl,
    )

pub overflow_add-progress : goal.overflow_add-progress
overflow_add-progress g c =
    let small = fed_small (scenario c.args.trace.now) c.requires.fed.0 c.args.progress.now c.requires.fed.1 c.args.head.now c.requires.fed.2 c.requires.sound.header.few_cycles in
    omega (arith, small.0, c.in_ok-tally.ensures.small, c.from.ensures)

pub overflow_add-progress-2 : goal.overflow_add-progress-2
overflow_add-progress-2 g c =
    let small = fed_small (scenario c.args.trace.now) c.requires.fed.0 c.args.progress.now c.requires.fed.1 c.args.head.now c.requires.fed.2 c.requires.sound.header.few_cycles in
    omega (arith, small.1, c.in_ok-tally.ensures.most)

pub returns-clause-answer : goal.returns-clause-answer
returns-clause-answer g c = λ d line is.
    let t = scenario c.args.trace.now in
    let p = c.args.progress.now in
    let sight = subst (Sees t (state_behind t d.past) d.reading.block.certificate p.state) (sym c.replace-sight.ensures.value) is.sight in
    let view = c.in_ok-view.ensures (state_behind t d.past) d.reading.block.certificate sight in
    let done = c.in_ok-tally.ensures.answer (state_behind t d.past) d.reading.block.certificate view in
    cycle_taken t d p line c.args.head.now is _ c.in_ok-tally.tally done c.in_ok-tally.ensures.small c.in_ok-tally.ensures.most (ap (λ n. p.tally.worth + n) c.from.ensures) refl
    c.replace-sight.ensures.after refl c.requires.number

pub returns-clause-saw : goal.returns-clause-saw
returns-clause-saw g c = λ d line is.
    let t = scenario c.args.trace.now in
    let p = c.args.progress.now in
    let sight = subst (Sees t (state_behind t d.past) d.reading.block.certificate p.state) (sym c.replace-sight.ensures.value) is.sight in
    let view = c.in_ok-view.ensures (state_behind t d.past) d.reading.block.certificate sight in
    let done = c.in_ok-tally.ensures.answer (state_behind t d.past) d.reading.block.certificate view in
    c.in_ok-see.ensures.saw (state_behind t d.past) d.reading.block.certificate
    (cycle_shown t d p line c.args.head.now is c.view_of.new.state c.check_cycle.new.state c.in_ok-view.view c.in_ok-tally.tally _ view done refl c.in_ok-held.ensures refl)

pub returns-in_err-tally-clause-answer : goal.returns-in_err-tally-clause-answer
returns-in_err-tally-clause-answer g c = λ d line is.
    let t = scenario c.args.trace.now in
    let p = c.args.progress.now in
    let sight = subst (Sees t (state_behind t d.past) d.reading.block.certificate p.state) (sym c.replace-sight.ensures.value) is.sight in
    let view = c.in_ok-view.ensures (state_behind t d.past) d.reading.block.certificate sight in
    let err = err_from_is_err_and c.from_residual-in_err-tally.result c.from_residual-in_err-tally.ensures.1 in
    rw (err.1, err.2)
    (cycle_refused t d p line c.args.head.now is _ c.check_cycle.new.state c.in_err-tally.field-0.0 (c.in_err-tally.ensures.answer (state_behind t d.past) d.reading.block.certificate view))

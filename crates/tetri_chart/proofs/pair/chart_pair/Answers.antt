use Rattle.std.proofs.Common.{◌∙◌, ap, inr, refl, subst}
use Rattle.tetri_trace.specs.Scenario.{Scenario, scenario}
use Rattle.tetri_chart.specs.Gathered.{IsTaken}
use Rattle.tetri_chart.specs.Slots.{HasSlots}
use Rattle.tetri_run.proofs.RunLaws.{same_scenario}
use Rattle.tetri_run.specs.CheckEnds.{HasSeen}
use Rattle.tetri_chart.proofs.ChartLemmas.{wants_memory}
use Rattle.tetri_chart.proofs.PairLemmas.{accepted_here, never_refused, never_write, pair_drawn_of, pair_never_bad, pair_silent, pair_usage, pair_where_asked, rose_second}
use Rattle.tetri_chart.proofs.pair.chart_pair.Goals as goal

-- The first report is not accepted.

pub returns-in-Err-clause-drawn : goal.returns-in-Err-clause-drawn
returns-in-Err-clause-drawn g c = λ content upper lower told told_first told_second. (c.in-Err.ensures.halted content upper told told_first, refl)

pub returns-in-Err-clause-write : goal.returns-in-Err-clause-write
returns-in-Err-clause-write g c = λ e. absurd (never_write c.in-Err.status c.in-Err.ensures.halts e)

pub returns-in-Err-clause-accepts : goal.returns-in-Err-clause-accepts
returns-in-Err-clause-accepts g c = λ content upper lower t told is told_first accepted told_second also has quiet quiet_second writes.
    inr (wants_memory c.in-Err.status c.in-Err.ensures.halts (c.in-Err.ensures.accepts content upper t told is told_first accepted quiet tt))

pub returns-in-Err-clause-no_slots : goal.returns-in-Err-clause-no_slots
returns-in-Err-clause-no_slots g c = λ content upper lower t told is told_first accepted told_second also lacks quiet quiet_second.
    inr (wants_memory c.in-Err.status c.in-Err.ensures.halts (c.in-Err.ensures.accepts content upper t told is told_first accepted quiet tt))

pub returns-in-Err-clause-rejects_second : goal.returns-in-Err-clause-rejects_second
returns-in-Err-clause-rejects_second g c = λ content upper lower t told is told_first accepted told_second not quiet quiet_second.
    inr (wants_memory c.in-Err.status c.in-Err.ensures.halts (c.in-Err.ensures.accepts content upper t told is told_first accepted quiet tt))

-- The second one is not.

pub returns-in-Err-check_seen-clause-drawn : goal.returns-in-Err-check_seen-clause-drawn
returns-in-Err-check_seen-clause-drawn g c = λ content upper lower told told_first told_second.
    let seen = c.in-Ok.ensures.seen upper told_first in (
      scenario c.in-Ok.field-0,
      c.in-Ok.ensures.kept content told,
      seen.assured.accepted,
      c.in-Err-check_seen.ensures.halted content lower (ap (λ f. f c.args.trace.now) c.check_seen.ensures.same ∙ told) (ap (λ f. f c.args.second.now) c.check_seen.ensures.same ∙ told_second),
      refl,
    )

pub returns-in-Err-check_seen-clause-bad_trace : goal.returns-in-Err-check_seen-clause-bad_trace
returns-in-Err-check_seen-clause-bad_trace g c = λ content line why told e. c.in-Err-check_seen.ensures.bad_trace content line why (ap (λ f. f c.args.trace.now) c.check_seen.ensures.same ∙ told) e

pub returns-in-Err-check_seen-clause-read_second : goal.returns-in-Err-check_seen-clause-read_second
returns-in-Err-check_seen-clause-read_second g c = λ e.
    rose_second (g.S.Shelf.faults c.args.shelf.now) (g.S.Shelf.faults c.check_seen.new.shelf) (g.S.Shelf.faults c.check_seen-2.new.shelf) c.args.trace.now c.args.second.now c.check_seen.ensures.later
    (c.in-Err-check_seen.ensures.read cc)

pub returns-in-Err-check_seen-clause-write : goal.returns-in-Err-check_seen-clause-write
returns-in-Err-check_seen-clause-write g c = λ e. absurd (never_write c.in-Err-check_seen.status c.in-Err-check_seen.ensures.halts e)

pub returns-in-Err-check_seen-clause-accepts : goal.returns-in-Err-check_seen-clause-accepts
returns-in-Err-check_seen-clause-accepts g c = λ content upper lower t told is told_first accepted told_second also has quiet quiet_second writes.
    inr
    (wants_memory c.in-Err-check_seen.status c.in-Err-check_seen.ensures.halts
    (c.in-Err-check_seen.ensures.accepts content lower t (ap (λ f. f c.args.trace.now) c.check_seen.ensures.same ∙ told) is (ap (λ f. f c.args.second.now) c.check_seen.ensures.same ∙ told_second) also (λ rose. quiet_second (rose_second (g.S.Shelf.faults c.args.shelf.now) (g.S.Shelf.faults c.check_seen.new.shelf) (g.S.Shelf.faults c.check_seen-2.new.shelf) c.args.trace.now c.args.second.now c.check_seen.ensures.later rose)) tt))

pub returns-in-Err-check_seen-clause-no_slots : goal.returns-in-Err-check_seen-clause-no_slots
returns-in-Err-check_seen-clause-no_slots g c = λ content upper lower t told is told_first accepted told_second also lacks quiet quiet_second.
    inr
    (wants_memory c.in-Err-check_seen.status c.in-Err-check_seen.ensures.halts
    (c.in-Err-check_seen.ensures.accepts content lower t (ap (λ f. f c.args.trace.now) c.check_seen.ensures.same ∙ told) is (ap (λ f. f c.args.second.now) c.check_seen.ensures.same ∙ told_second) also (λ rose. quiet_second (rose_second (g.S.Shelf.faults c.args.shelf.now) (g.S.Shelf.faults c.check_seen.new.shelf) (g.S.Shelf.faults c.check_seen-2.new.shelf) c.args.trace.now c.args.second.now c.check_seen.ensures.later rose)) tt))

pub returns-in-Err-check_seen-clause-rejects_first : goal.returns-in-Err-check_seen-clause-rejects_first
returns-in-Err-check_seen-clause-rejects_first g c = λ content upper t told is told_first not quiet.
    absurd (not (accepted_here content upper t (scenario c.in-Ok.field-0) is (c.in-Ok.ensures.kept content told) (c.in-Ok.ensures.seen upper told_first).assured.accepted))

pub returns-in-Err-check_seen-clause-rejects_second : goal.returns-in-Err-check_seen-clause-rejects_second
returns-in-Err-check_seen-clause-rejects_second g c = λ content upper lower t told is told_first accepted told_second not quiet quiet_second.
    c.in-Err-check_seen.ensures.rejects content lower t (ap (λ f. f c.args.trace.now) c.check_seen.ensures.same ∙ told) is (ap (λ f. f c.args.second.now) c.check_seen.ensures.same ∙ told_second) not (λ rose. quiet_second (rose_second (g.S.Shelf.faults c.args.shelf.now) (g.S.Shelf.faults c.check_seen.new.shelf) (g.S.Shelf.faults c.check_seen-2.new.shelf) c.args.trace.now c.args.second.now c.check_seen.ensures.later rose))

pub returns-in-Err-check_seen-clause-refuses : goal.returns-in-Err-check_seen-clause-refuses
returns-in-Err-check_seen-clause-refuses g c = λ content line why told bad quiet. absurd (never_refused content (scenario c.in-Ok.field-0) line why (c.in-Ok.ensures.kept content told) bad)

-- Both are accepted.

pub returns-in-Ok-check_seen-clause-drawn : goal.returns-in-Ok-check_seen-clause-drawn
returns-in-Ok-check_seen-clause-drawn g c = λ content upper lower told told_first told_second.
    let t = scenario c.in-Ok-check_seen.trace in
    let kept = c.in-Ok-check_seen.ensures.kept content (ap (λ f. f c.args.trace.now) c.check_seen.ensures.same ∙ told) in
    let seen =
    subst (λ (u : Scenario). HasSeen IsTaken u upper c.new-upper.result c.check_seen.new.observer)
    (same_scenario content (scenario c.in-Ok.field-0) t (c.in-Ok.ensures.kept content told) kept) (c.in-Ok.ensures.seen upper told_first) in (
      t,
      kept,
      pair_drawn_of t upper lower c.args.cycle c.args.view c.new-upper.result c.check_seen.new.observer c.new-lower.result c.check_seen-2.new.observer
          c.new-upper.ensures.nothing seen c.new-lower.ensures.nothing (c.in-Ok-check_seen.ensures.seen lower (ap (λ f. f c.args.second.now) c.check_seen.ensures.same ∙ told_second))
          c.draw_gathered_pair-status.result (g.K.Sink.written c.args.sink.now) (g.K.Sink.written c.draw_gathered_pair-status.new.sink) c.draw_gathered_pair-status.ensures.answer,
    )

pub returns-in-Ok-check_seen-clause-bad_trace : goal.returns-in-Ok-check_seen-clause-bad_trace
returns-in-Ok-check_seen-clause-bad_trace g c = λ content line why told bad. absurd (pair_never_bad (scenario c.in-Ok-check_seen.trace) c.args.view c.args.cycle c.check_seen.new.observer c.check_seen-2.new.observer (g.K.Sink.written c.args.sink.now) (g.K.Sink.written c.draw_gathered_pair-status.new.sink) c.draw_gathered_pair-status.result c.draw_gathered_pair-status.ensures.answer line why bad)

pub returns-in-Ok-check_seen-clause-silent : goal.returns-in-Ok-check_seen-clause-silent
returns-in-Ok-check_seen-clause-silent g c = pair_silent (scenario c.in-Ok-check_seen.trace) c.args.view c.args.cycle c.check_seen.new.observer c.check_seen-2.new.observer (g.K.Sink.written c.args.sink.now) (g.K.Sink.written c.draw_gathered_pair-status.new.sink) c.draw_gathered_pair-status.result c.draw_gathered_pair-status.ensures.answer

pub returns-in-Ok-check_seen-clause-accepts : goal.returns-in-Ok-check_seen-clause-accepts
returns-in-Ok-check_seen-clause-accepts g c = λ content upper lower t told is told_first accepted told_second also has quiet quiet_second writes.
    pair_where_asked (scenario c.in-Ok-check_seen.trace) c.args.view c.args.cycle c.check_seen.new.observer c.check_seen-2.new.observer (g.K.Sink.written c.args.sink.now) (g.K.Sink.written c.draw_gathered_pair-status.new.sink) c.draw_gathered_pair-status.result c.draw_gathered_pair-status.ensures.answer
    (subst (λ (u : Scenario). HasSlots u c.args.cycle c.args.view) (same_scenario content t (scenario c.in-Ok-check_seen.trace) is (c.in-Ok-check_seen.ensures.kept content (ap (λ f. f c.args.trace.now) c.check_seen.ensures.same ∙ told))) has)
    (λ fault. writes (c.draw_gathered_pair-status.ensures.write fault))

pub returns-in-Ok-check_seen-clause-no_slots : goal.returns-in-Ok-check_seen-clause-no_slots
returns-in-Ok-check_seen-clause-no_slots g c = λ content upper lower t told is told_first accepted told_second also lacks quiet quiet_second.
    pair_usage (scenario c.in-Ok-check_seen.trace) c.args.view c.args.cycle c.check_seen.new.observer c.check_seen-2.new.observer (g.K.Sink.written c.args.sink.now) (g.K.Sink.written c.draw_gathered_pair-status.new.sink) c.draw_gathered_pair-status.result c.draw_gathered_pair-status.ensures.answer
    (λ has. lacks (subst (λ (u : Scenario). HasSlots u c.args.cycle c.args.view) (same_scenario content (scenario c.in-Ok-check_seen.trace) t (c.in-Ok-check_seen.ensures.kept content (ap (λ f. f c.args.trace.now) c.check_seen.ensures.same ∙ told)) is) has))

pub returns-in-Ok-check_seen-clause-rejects_first : goal.returns-in-Ok-check_seen-clause-rejects_first
returns-in-Ok-check_seen-clause-rejects_first g c = λ content upper t told is told_first not quiet.
    absurd (not (accepted_here content upper t (scenario c.in-Ok.field-0) is (c.in-Ok.ensures.kept content told) (c.in-Ok.ensures.seen upper told_first).assured.accepted))

pub returns-in-Ok-check_seen-clause-rejects_second : goal.returns-in-Ok-check_seen-clause-rejects_second
returns-in-Ok-check_seen-clause-rejects_second g c = λ content upper lower t told is told_first accepted told_second not quiet quiet_second.
    absurd (not (accepted_here content lower t (scenario c.in-Ok-check_seen.trace) is (c.in-Ok-check_seen.ensures.kept content (ap (λ f. f c.args.trace.now) c.check_seen.ensures.same ∙ told)) (c.in-Ok-check_seen.ensures.seen lower (ap (λ f. f c.args.second.now) c.check_seen.ensures.same ∙ told_second)).assured.accepted))

pub returns-in-Ok-check_seen-clause-refuses : goal.returns-in-Ok-check_seen-clause-refuses
returns-in-Ok-check_seen-clause-refuses g c = λ content line why told bad quiet. absurd (never_refused content (scenario c.in-Ok.field-0) line why (c.in-Ok.ensures.kept content told) bad)

use Rattle.std.proofs.Common.{◌≡◌, ◌∙◌, ◌+◌, [], ap, refl, arith, rules}
use Rattle.std.specs.Prelude.{IsErrOf}
use Rattle.tetri_report.specs.declared.send_fault.SendFault.TheVariants.{Failed, NoMemory}
use Rattle.tetri_trace.specs.Scenario.{scenario}
use Rattle.tetri_cycles.specs.Progress.{StoppedInSlot}
use Rattle.tetri_cycles.specs.declared.tally.RunTally.{RunTally}
use Rattle.tetri_cycles.proofs.RunLemmas.{no_slots, number_is, one_more_slot, run_by, run_left, slot_reached, stopped_between, stopped_first, stopped_in_slot, summary_is}
use Rattle.tetri_cycles.proofs.cycles.run_slots.Goals as goal

pub returns-in_err-state-clause-memory : goal.returns-in_err-state-clause-memory
returns-in_err-state-clause-memory g c =
    λ e. stopped_first g.P.Planner.planning (scenario c.args.trace.now) c.args.telling c.args.planner.now (g.K.Sink.written c.args.sink.now)

pub returns-in_err-state-clause-some : goal.returns-in_err-state-clause-some
returns-in_err-state-clause-some g c = ([], run_by g.P.Planner.planning (scenario c.args.trace.now) c.args.planner.now c.args.planner.now [] refl)

pub run_slot-requires-clause-reached : goal.run_slot-requires-clause-reached
run_slot-requires-clause-reached g c =
    let v = c.loop-number in
    slot_reached g.P.Planner.planning (scenario c.args.trace.now) c.args.telling c.args.planner.now v.planner v.number v.state v.tally _ _ v.invariant.ran

pub run_slot-requires-clause-in_run : goal.run_slot-requires-clause-in_run
run_slot-requires-clause-in_run g c =
    let v = c.loop-number in
    omega
    (arith, number_is g.P.Planner.planning (scenario c.args.trace.now) c.args.telling c.args.planner.now v.planner v.number v.state v.tally _ _ v.invariant.ran, c.loop-number-test.true)

pub returns-in_err-slot-clause-failed : goal.returns-in_err-slot-clause-failed
returns-in_err-slot-clause-failed g c =
    let p = g.P.Planner.planning in
    let t = scenario c.args.trace.now in
    let v = c.loop-number in
    let stop : IsErrOf c.from_residual-in_err-slot.result Failed → StoppedInSlot p c.args.telling v.planner c.run_slot.new.planner t v.state (g.K.Sink.written v.sink) (g.K.Sink.written c.run_slot.new.sink) =
    search rules in
    λ e. stopped_in_slot p t c.args.telling c.args.planner.now v.planner v.number v.state v.tally _ _ v.invariant.ran c.run_slot.new.planner (g.K.Sink.written c.run_slot.new.sink) (stop e)

pub returns-in_err-slot-clause-memory : goal.returns-in_err-slot-clause-memory
returns-in_err-slot-clause-memory g c =
    let p = g.P.Planner.planning in
    let t = scenario c.args.trace.now in
    let v = c.loop-number in
    let same : IsErrOf c.from_residual-in_err-slot.result NoMemory → g.K.Sink.written c.run_slot.new.sink ≡ g.K.Sink.written v.sink = search rules in
    λ e. stopped_between p t c.args.telling c.args.planner.now v.planner v.number v.state v.tally _ _ v.invariant.ran c.run_slot.new.planner (g.K.Sink.written c.run_slot.new.sink) c.in_err-slot.ensures.follows (same e)

pub returns-in_err-slot-clause-some : goal.returns-in_err-slot-clause-some
returns-in_err-slot-clause-some g c =
    let ran = c.loop-number.invariant.ran in
    (ran.past, run_left g.P.Planner.planning (scenario c.args.trace.now) c.args.planner.now c.loop-number.planner c.run_slot.new.planner ran.past ran.planned c.in_err-slot.ensures.follows)

pub loop-number-init : goal.loop-number-init
loop-number-init g c = record {
  ran = no_slots g.P.Planner.planning (scenario c.args.trace.now) c.args.telling c.args.planner.now _ (g.K.Sink.written c.args.sink.now) c.in_ok-state.state c.in_ok-state.ensures.state refl refl;
  small_worth = omega arith;
  small_optimal = omega arith;
  later = omega arith;
}

pub loop-number-preserved : goal.loop-number-preserved
loop-number-preserved g c =
    let v = c.loop-number in
    let slot = c.in_ok-slot.slot in
    let more : RunTally = record { worth = v.tally.worth + c.from.result; optimal = v.tally.optimal + slot.optimal } in
    record {
      ran = one_more_slot g.P.Planner.planning (scenario c.args.trace.now) c.args.telling c.args.planner.now v.planner v.number v.state v.tally _ _ v.invariant.ran
          c.run_slot.new.planner c.run_slot.new.state more slot _ c.in_ok-slot.ensures.ok (ap (λ n. v.tally.worth + n) c.from.ensures) refl;
      small_worth = omega (arith, v.invariant.small_worth, c.from.ensures, c.in_ok-slot.ensures.small);
      small_optimal = omega (arith, v.invariant.small_optimal, c.in_ok-slot.ensures.most);
      later = omega (arith, v.invariant.later, c.in_ok-slot.ensures.later);
    }

pub returns-clause-ok : goal.returns-clause-ok
returns-clause-ok g c =
    let v = c.loop-number in
    let ran = v.invariant.ran in
    record {
      past = ran.past;
      planned = ran.planned;
      whole = omega (arith, ran.as_many, v.auto.number-end, c.loop-number-test.false);
      counted = c.summary_at.ensures.value ∙ summary_is g.P.Planner.planning.kind (scenario c.args.trace.now) ran.past v.state v.tally ran.state ran.worth ran.optimal;
      text = ran.text;
      told = ran.told;
      written = ran.written;
    }

pub returns-clause-some : goal.returns-clause-some
returns-clause-some g c =
    let v = c.loop-number in
    let ran = v.invariant.ran in
    (ran.past, run_by g.P.Planner.planning (scenario c.args.trace.now) c.args.planner.now v.planner ran.past ran.planned)

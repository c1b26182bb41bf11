use Rattle.std.proofs.Common.{arith}
use Rattle.tetri_trace.specs.Scenario.{scenario}
use Rattle.tetri_policy.proofs.RunLemmas.{no_cycles, one_more, slot_is}
use Rattle.tetri_policy.proofs.observing.observe_policy.Goals as goal

pub loop-number-init : goal.loop-number-init
loop-number-init g c = record {
  ran = no_cycles c.args.policy (scenario c.args.trace.now) g.O.Observer.saw c.in_ok-state.state c.args.observer.now c.in_ok-state.ensures.state;
  reached = c.in_ok-state.ensures.reached;
}

pub run_slot-requires-clause-in_run : goal.run_slot-requires-clause-in_run
run_slot-requires-clause-in_run g c =
    let v = c.loop-number in
    omega (arith, slot_is c.args.policy (scenario c.args.trace.now) g.O.Observer.saw v.number v.state c.args.observer.now v.observer v.invariant.ran, c.loop-number-test.true)

pub loop-number-preserved : goal.loop-number-preserved
loop-number-preserved g c =
    let v = c.loop-number in
    record {
      ran = one_more c.args.policy (scenario c.args.trace.now) g.O.Observer.saw v.number v.state c.args.observer.now v.observer v.invariant.ran c.run_slot.new.state c.run_slot.new.observer
          c.in_ok-run_slot.ensures.ran;
      reached = c.in_ok-run_slot.ensures.reached;
    }

pub returns : goal.returns
returns g c =
    let v = c.loop-number in
    let ran = v.invariant.ran in
    record { cycles = ran.cycles; run = ran.run; whole = omega (arith, ran.as_many, v.auto.number-end, c.loop-number-test.false); observed = ran.observed }

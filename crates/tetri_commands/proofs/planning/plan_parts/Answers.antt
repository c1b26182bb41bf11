use Rattle.std.proofs.Common.{◌∙◌, ◌<◌, ◌++◌, ◌+◌, List, ℕ, ap, length, arith}
use Rattle.tetri_space.specs.Space.{space}
use Rattle.tetri_trace.specs.Scenario.{scenario}
use Rattle.tetri_commands.proofs.PlanLemmas.{all_parts, one_more_part}
use Rattle.tetri_commands.proofs.planning.plan_parts.Goals as goal

pub loop-part-preserved : goal.loop-part-preserved
loop-part-preserved c =
    let t = scenario c.args.trace.now in
    let l = c.loop-part in
    let within : l.part < length c.args.parts.now = omega (arith, c.loop-part-test.true, c.loop-part.auto.part-end, c.count-part-end.ensures) in
    record {
      ready = one_more_part t (space c.args.inst.now) c.args.carry.now c.args.parts.now l.part l.text.items l.grants.items l.value l.bound c.in_ok-lines.lines _ _ _ _
          within l.invariant.ready c.in_ok-lines.ensures.ready
          (c.in_ok-extend_from_slice.ensures.items ∙ ap (λ (x : List ℕ). l.text.items ++ x) c.deref.ensures.value)
          c.in_ok-push.ensures.items (ap (λ n. l.value + n) c.from-value.ensures) (ap (λ n. l.bound + n) c.from-bound.ensures);
      small_value = omega (arith, l.invariant.small_value, c.from-value.ensures, c.in_ok-lines.ensures.small.0);
      small_bound = omega (arith, l.invariant.small_bound, c.from-bound.ensures, c.in_ok-lines.ensures.small.1);
    }

pub returns : goal.returns
returns c =
    let l = c.loop-part in
    all_parts (scenario c.args.trace.now) (space c.args.inst.now) c.args.carry.now c.args.parts.now l.part l.text.items l.grants.items l.value l.bound
    (omega (arith, c.loop-part-test.false, c.loop-part.auto.part-end, c.count-part-end.ensures)) l.invariant.ready

use Rattle.std.proofs.Common.{◌∙◌, ◌<◌, All, length, map, sym, ap, arith, refl, subst}
use Rattle.std.proofs.lemmas.Result.{err_from_is_err_and}
use Rattle.tetri_report.specs.Block.{headed}
use Rattle.tetri_space.specs.Space.{Bid, Space, space}
use Rattle.tetri_state.specs.After.{after, starting_pieces}
use Rattle.tetri_state.specs.Begin.{occurrences}
use Rattle.tetri_state.specs.Launch.{launched_in, start_of, worth_launched}
use Rattle.tetri_state.specs.Planning.{IsCarry}
use Rattle.tetri_state.specs.Snapshot.{Snapshot}
use Rattle.tetri_state.proofs.StateLaws.{begun_bids, found_for}
use Rattle.tetri_trace.specs.Scenario.{scenario}
use Rattle.tetri_run.proofs.CycleLemmas.{cycle_right, line_refused, plan_refused}
use Rattle.tetri_run.proofs.cycle_check.check_cycle.Goals as goal

pub returns-in_err-test_plan-clause-answer : goal.returns-in_err-test_plan-clause-answer
returns-in_err-test_plan-clause-answer c = λ last certificate viewed.
    let t = scenario c.args.trace.now in
    let i = space c.args.view.now.slot.inst in
    let err = err_from_is_err_and c.from_residual-in_err-test_plan.result c.from_residual-in_err-test_plan.ensures.1 in
    rw (err.1, err.2)
    (plan_refused t last (headed c.args.head.now certificate) i viewed.slot.instance c.in_ok-carry.carry
    (subst (λ (q : Snapshot). IsCarry i q.plan c.in_ok-carry.carry) viewed.slot.state c.in_ok-carry.ensures.carry) c.total-carried.result c.total-carried.ensures
    c.args.state.now c.args.first c.in_err-test_plan.field-0.0 (c.in_err-test_plan.ensures certificate viewed.tells))

pub returns-in-Some-clause-answer : goal.returns-in-Some-clause-answer
returns-in-Some-clause-answer c = λ last certificate viewed.
    let t = scenario c.args.trace.now in
    let b = headed c.args.head.now certificate in
    let slot = c.args.view.now.slot in
    let i = space slot.inst in
    let carried = subst (λ (q : Snapshot). IsCarry i q.plan c.in_ok-carry.carry) viewed.slot.state c.in_ok-carry.ensures.carry in
    let plan = c.in_ok-test_plan.ensures certificate viewed.tells in (
      c.in-Some.place,
      refl,
      line_refused t last b i viewed.slot.instance c.in_ok-carry.carry carried c.total-carried.result c.total-carried.ensures plan.0 plan.1 (occurrences slot.happened) c.deref.result.now
          c.deref-2.result.now viewed.slot.happened
          (c.deref.ensures.value ∙ c.in_ok-launch.ensures.starts ∙ ap (map (start_of i)) c.as_slice.ensures)
          (c.deref-2.ensures.value ∙ c.in_ok-launch.ensures.jobs ∙ ap (launched_in i) c.as_slice.ensures) c.in-Some.place
          (c.in-Some.ensures.first certificate viewed.lines),
    )

pub returns-clause-answer : goal.returns-clause-answer
returns-clause-answer c = λ last certificate viewed.
    let t = scenario c.args.trace.now in
    let b = headed c.args.head.now certificate in
    let slot = c.args.view.now.slot in
    let i = space slot.inst in
    let is = viewed.slot.instance in
    let carried = subst (λ (q : Snapshot). IsCarry i q.plan c.in_ok-carry.carry) viewed.slot.state c.in_ok-carry.ensures.carry in
    let plan = c.in_ok-test_plan.ensures certificate viewed.tells in
    let found = found_for t c.args.state.now b.grants i c.in_ok-launch.launch c.requires.sound c.requires.reached c.requires.instance plan.0.lawful plan.0.thrifty
    (c.in_ok-launch.ensures.jobs ∙ ap (launched_in i) c.as_slice.ensures) (c.in_ok-launch.ensures.pieces ∙ ap (starting_pieces t i) c.as_slice.ensures) in
    record {
      cycle = cycle_right t last b i is c.in_ok-carry.carry carried c.total-carried.result c.total-carried.ensures plan.0 plan.1 (occurrences slot.happened) c.deref.result.now
          c.deref-2.result.now viewed.slot.happened
          (c.deref.ensures.value ∙ c.in_ok-launch.ensures.starts ∙ ap (map (start_of i)) c.as_slice.ensures)
          (c.deref-2.ensures.value ∙ c.in_ok-launch.ensures.jobs ∙ ap (launched_in i) c.as_slice.ensures) (c.in_default.ensures.first certificate viewed.lines);
      state = c.apply.ensures.after t b.grants (c.in_ok-prepared.ensures.launch t found) ∙ ap (λ (q : Snapshot). after t q b.grants) viewed.slot.state;
      worth = c.in_ok-launch.ensures.worth ∙ ap (worth_launched i) c.as_slice.ensures ∙ ap (λ (j : Space). worth_launched j b.grants) is;
      optimal = c.optimal_count.ensures.value;
    }

pub test_plan-requires-clause-few : goal.test_plan-requires-clause-few
test_plan-requires-clause-few c = let tells = c.requires.tells in (tells.0, tells.1, tells.3)

pub first_other_line_by_head-requires-clause-few : goal.first_other_line_by_head-requires-clause-few
first_other_line_by_head-requires-clause-few c =
    let tells = c.requires.tells in
    (tells.0, tells.2, omega (arith, tells.3))

pub overflow_add-result : goal.overflow_add-result
overflow_add-result c =
    let tells = c.requires.tells in
    omega (arith, tells.3, c.in-Some.ensures.within tells.0 tells.2)

pub find_launch-requires-clause-known : goal.find_launch-requires-clause-known
find_launch-requires-clause-known c =
    let t = scenario c.args.trace.now in
    subst (λ (i : Space). All (λ (b : Bid). b.job < length t.submissions) i.bids) (sym c.requires.instance) (begun_bids t c.requires.sound c.args.state.now c.requires.reached)

pub prepare_launch-requires : goal.prepare_launch-requires
prepare_launch-requires c =
    let t = scenario c.args.trace.now in
    let i = space c.args.view.now.slot.inst in
    let tells = c.requires.tells in
    let plan = c.in_ok-test_plan.ensures tells.0 tells.1 in (
      t,
      found_for t c.args.state.now c.args.head.now.grants i c.in_ok-launch.launch c.requires.sound c.requires.reached c.requires.instance plan.0.lawful plan.0.thrifty
          (c.in_ok-launch.ensures.jobs ∙ ap (launched_in i) c.as_slice.ensures) (c.in_ok-launch.ensures.pieces ∙ ap (starting_pieces t i) c.as_slice.ensures),
    )

use Rattle.std.proofs.Common.{◌≡◌, ◌+◌, ◌++◌, ◌<◌, ◌≤◌, ◌∙◌, List, arith, length, subst, sym}
use Rattle.tetri_advice.specs.Fit.{Placement}
use Rattle.tetri_greedy.specs.Held.{TellsOf}
use Rattle.tetri_space.specs.Space.{bid, space}
use Rattle.tetri_policy.specs.Start.{start_at}
use Rattle.tetri_policy.proofs.StartLemmas.{got_none, got_some, none_from, slot_found, slot_passed, slots_over, some_from, tells_as_before, tells_same, window_slots}
use Rattle.tetri_policy.proofs.starting.reserve.Goals as goal

pub loop-slot-init : goal.loop-slot-init
loop-slot-init c = record { as_many = c.requires.as_many; so_far = λ before tells. (tells, window_slots (space c.args.inst.now) before (bid c.args.offer.now)) }

pub returns-then-not-is_empty-clause-reserved : goal.returns-then-not-is_empty-clause-reserved
returns-then-not-is_empty-clause-reserved c = λ before tells.
    let s = space c.args.inst.now in
    let b = bid c.args.offer.now in
    let slot = c.loop-slot.slot in
    let end = s.now + s.window in
    let gs = c.in_ok-grants.grants in
    let w = c.loop-slot.invariant.so_far before tells in
    let got = c.in_ok-grants.ensures.starts before w.0 in
    let some = some_from gs.items gs.len gs.ok.0 (sym c.if-not-is_empty.true ∙ c.is_empty.ensures) in
    let lt : slot < end = omega (arith, c.loop-slot-test.true) in
    let found = slot_found s before b slot end lt (got_some s b.job before (start_at s before b slot) c.start_at.new.held gs.items got some) in
    subst (λ ps. TellsOf s (before ++ ps) c.start_at.new.held) (sym (w.1 ∙ found)) got.tells

pub loop-slot-preserved : goal.loop-slot-preserved
loop-slot-preserved c =
    let s = space c.args.inst.now in
    let b = bid c.args.offer.now in
    let slot = c.loop-slot.slot in
    let end = s.now + s.window in
    let gs = c.in_ok-grants.grants in
    record {
      as_many = c.in_ok-grants.ensures.as_many;
      so_far = λ before tells.
          let w = c.loop-slot.invariant.so_far before tells in
          let got = c.in_ok-grants.ensures.starts before w.0 in
          let none = none_from gs.items gs.len gs.ok.0 (sym c.if-not-is_empty.false ∙ c.is_empty.ensures) in
          let lt : slot < end = omega (arith, c.loop-slot-test.true) in
          let placed = start_at s before b slot in (
            tells_as_before s b.job before placed c.start_at.new.held gs.items got none,
            w.1 ∙ slot_passed s before b slot end lt (got_none s b.job before placed c.start_at.new.held gs.items got none),
          );
    }

pub returns-clause-reserved : goal.returns-clause-reserved
returns-clause-reserved c = λ before tells.
    let s = space c.args.inst.now in
    let b = bid c.args.offer.now in
    let slot = c.loop-slot.slot in
    let end = s.now + s.window in
    let w = c.loop-slot.invariant.so_far before tells in
    let le : end ≤ slot = omega (arith, c.loop-slot-test.false) in
    subst (λ ps. TellsOf s (before ++ ps) c.loop-slot.held) (sym (w.1 ∙ slots_over s before b slot end le)) (tells_same s before c.loop-slot.held w.0)

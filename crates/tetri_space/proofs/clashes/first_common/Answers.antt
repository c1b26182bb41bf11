use Rattle.std.proofs.Common.{Contains, arith}
use Rattle.tetri_space.proofs.NodeLemmas.{not_among, least_common, none_common, passed_more}
use Rattle.tetri_space.proofs.clashes.first_common.Goals as goal

pub loop-place-preserved-then-nodes-place : goal.loop-place-preserved-then-nodes-place
loop-place-preserved-then-nodes-place c =
    let before = c.loop-place.invariant in
    record {
      place_within = omega (arith, c.loop-place-test.true);
      other_within = before.other_within;
      passed = passed_more (Contains c.args.others.now) c.args.nodes.now c.loop-place.place before.passed
          (not_among c.args.nodes.now c.args.others.now c.requires.ascending c.requires.others_ascending c.loop-place.place c.loop-place.other
          c.loop-place-test.true c.if-other-others.true c.if-nodes-place.true before.others_passed);
      others_passed = before.others_passed;
    }

pub loop-place-preserved : goal.loop-place-preserved
loop-place-preserved c =
    let before = c.loop-place.invariant in
    record {
      place_within = before.place_within;
      other_within = omega (arith, c.if-other-others.true);
      passed = before.passed;
      others_passed = passed_more (Contains c.args.nodes.now) c.args.others.now c.loop-place.other before.others_passed
          (not_among c.args.others.now c.args.nodes.now c.requires.others_ascending c.requires.ascending c.loop-place.other c.loop-place.place
          c.if-other-others.true c.loop-place-test.true c.if-nodes-place-2.true before.passed);
    }

pub returns-else-nodes-place-2 : goal.returns-else-nodes-place-2
returns-else-nodes-place-2 c =
    least_common c.args.nodes.now c.args.others.now c.requires.ascending c.requires.others_ascending c.loop-place.place c.loop-place.other
    c.loop-place-test.true c.if-other-others.true (omega (arith, c.if-nodes-place.false, c.if-nodes-place-2.false)) c.loop-place.invariant.passed

pub returns-else-other-others : goal.returns-else-other-others
returns-else-other-others c = λ m at other.
    none_common c.args.others.now c.args.nodes.now c.loop-place.other c.if-other-others.false c.loop-place.invariant.others_passed m other at

pub returns-after-loop-place : goal.returns-after-loop-place
returns-after-loop-place c = none_common c.args.nodes.now c.args.others.now c.loop-place.place c.loop-place-test.false c.loop-place.invariant.passed

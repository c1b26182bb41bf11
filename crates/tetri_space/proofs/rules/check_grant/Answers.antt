use Rattle.std.proofs.lemmas.Bool.{iff_false}
use Rattle.tetri_space.specs.Space.{space}
use Rattle.tetri_space.specs.Broken.{IsFirstRule}
use Rattle.tetri_space.proofs.SearchLemmas.{offered_leaf}
use Rattle.tetri_space.proofs.RuleLemmas.{from_three, from_four, bad_nodes, from_five, too_many, from_six, outside, from_seven, not_free, from_eight, clashes, lawful_grant, apart, err_given}
use Rattle.tetri_space.proofs.rules.check_grant.Goals as goal

pub returns-in_err-leaf-clause-first : goal.returns-in_err-leaf-clause-first
returns-in_err-leaf-clause-first c =
    err_given c.from_residual.result (IsFirstRule (space c.args.inst.now) c.args.earlier.now c.args.grant.now) c.in_err-leaf.field-0.0 c.from_residual.ensures.1
    (c.in_err-leaf.ensures.first c.args.earlier.now)

pub returns-in-Some-clause-first : goal.returns-in-Some-clause-first
returns-in-Some-clause-first c = record {
  broken = c.in-Some.ensures;
  first = from_three (space c.args.inst.now) c.args.earlier.now c.args.grant.now c.in_ok-leaf.leaf c.in_ok-leaf.ensures.leaf c.in_ok-leaf.ensures.live;
}

pub returns-then-not-some_ascend-clause-first : goal.returns-then-not-some_ascend-clause-first
returns-then-not-some_ascend-clause-first c = record {
  broken = bad_nodes (space c.args.inst.now) c.args.earlier.now c.args.grant.now c.in_ok-leaf.leaf c.in_ok-leaf.ensures.leaf
      c.as_slice-nodes.result.now c.as_slice-nodes.ensures (iff_false c.some_ascend.ensures c.if-not-some_ascend.true);
  first = from_four (space c.args.inst.now) c.args.earlier.now c.args.grant.now c.in_ok-leaf.leaf c.in_ok-leaf.ensures.leaf c.in_ok-leaf.ensures.live c.in_default.ensures;
}

pub returns-then-nodes-leaf-clause-first : goal.returns-then-nodes-leaf-clause-first
returns-then-nodes-leaf-clause-first c =
    let named = from_four (space c.args.inst.now) c.args.earlier.now c.args.grant.now c.in_ok-leaf.leaf c.in_ok-leaf.ensures.leaf c.in_ok-leaf.ensures.live c.in_default.ensures in
    record {
      broken = too_many (space c.args.inst.now) c.args.earlier.now c.args.grant.now c.in_ok-leaf.leaf c.in_ok-leaf.ensures.leaf
          c.as_slice-nodes.result.now c.as_slice-nodes.ensures c.if-nodes-leaf.true;
      first = from_five (space c.args.inst.now) c.args.earlier.now c.args.grant.now c.in_ok-leaf.leaf c.in_ok-leaf.ensures.leaf
          c.as_slice-nodes.result.now c.as_slice-nodes.ensures named (c.some_ascend.ensures.0 c.if-not-some_ascend.false);
    }

pub first_outside-requires-clause-known : goal.first_outside-requires-clause-known
first_outside-requires-clause-known c = (offered_leaf (space c.args.inst.now) c.args.grant.now.job c.args.grant.now.leaf c.in_ok-leaf.leaf c.requires.sound c.in_ok-leaf.ensures.leaf).1.known

pub returns-in-Some-first_outside-clause-first : goal.returns-in-Some-first_outside-clause-first
returns-in-Some-first_outside-clause-first c =
    let named = from_four (space c.args.inst.now) c.args.earlier.now c.args.grant.now c.in_ok-leaf.leaf c.in_ok-leaf.ensures.leaf c.in_ok-leaf.ensures.live c.in_default.ensures in
    record {
      broken = outside (space c.args.inst.now) c.args.earlier.now c.args.grant.now c.in_ok-leaf.leaf c.in_ok-leaf.ensures.leaf
          c.as_slice-nodes.result.now c.as_slice-nodes.ensures c.in-Some-first_outside.node c.in-Some-first_outside.ensures;
      first = from_six (space c.args.inst.now) c.args.earlier.now c.args.grant.now c.in_ok-leaf.leaf c.in_ok-leaf.ensures.leaf
          c.as_slice-nodes.result.now c.as_slice-nodes.ensures named (c.some_ascend.ensures.0 c.if-not-some_ascend.false) c.if-nodes-leaf.false;
    }

pub first_not_free-requires-clause-some_slots : goal.first_not_free-requires-clause-some_slots
first_not_free-requires-clause-some_slots c = (offered_leaf (space c.args.inst.now) c.args.grant.now.job c.args.grant.now.leaf c.in_ok-leaf.leaf c.requires.sound c.in_ok-leaf.ensures.leaf).0.some_slots

pub returns-in-Some-first_not_free-clause-first : goal.returns-in-Some-first_not_free-clause-first
returns-in-Some-first_not_free-clause-first c =
    let named = from_four (space c.args.inst.now) c.args.earlier.now c.args.grant.now c.in_ok-leaf.leaf c.in_ok-leaf.ensures.leaf c.in_ok-leaf.ensures.live c.in_default.ensures in
    record {
      broken = not_free (space c.args.inst.now) c.args.earlier.now c.args.grant.now c.in_ok-leaf.leaf c.in_ok-leaf.ensures.leaf
          c.as_slice-nodes.result.now c.as_slice-nodes.ensures c.in-Some-first_not_free.node c.in-Some-first_not_free.ensures;
      first = from_seven (space c.args.inst.now) c.args.earlier.now c.args.grant.now c.in_ok-leaf.leaf c.in_ok-leaf.ensures.leaf
          c.as_slice-nodes.result.now c.as_slice-nodes.ensures named (c.some_ascend.ensures.0 c.if-not-some_ascend.false) c.if-nodes-leaf.false c.in_default-first_outside.ensures;
    }

pub first_clash-requires-clause-good : goal.first_clash-requires-clause-good
first_clash-requires-clause-good c = (offered_leaf (space c.args.inst.now) c.args.grant.now.job c.args.grant.now.leaf c.in_ok-leaf.leaf c.requires.sound c.in_ok-leaf.ensures.leaf).0

pub returns-in-Some-first_clash-clause-first : goal.returns-in-Some-first_clash-clause-first
returns-in-Some-first_clash-clause-first c =
    let named = from_four (space c.args.inst.now) c.args.earlier.now c.args.grant.now c.in_ok-leaf.leaf c.in_ok-leaf.ensures.leaf c.in_ok-leaf.ensures.live c.in_default.ensures in
    record {
      broken = clashes (space c.args.inst.now) c.args.earlier.now c.args.grant.now c.in_ok-leaf.leaf c.in_ok-leaf.ensures.leaf
          c.as_slice-nodes.result.now c.as_slice-nodes.ensures c.in-Some-first_clash.place c.in-Some-first_clash.node c.in-Some-first_clash.ensures;
      first = from_eight (space c.args.inst.now) c.args.earlier.now c.args.grant.now c.in_ok-leaf.leaf c.in_ok-leaf.ensures.leaf
          c.as_slice-nodes.result.now c.as_slice-nodes.ensures named (c.some_ascend.ensures.0 c.if-not-some_ascend.false) c.if-nodes-leaf.false c.in_default-first_outside.ensures c.in_default-first_not_free.ensures;
    }

pub returns-in-None-clause-lawful : goal.returns-in-None-clause-lawful
returns-in-None-clause-lawful c =
    lawful_grant (space c.args.inst.now) c.args.earlier.now c.args.grant.now c.in_ok-leaf.leaf c.in_ok-leaf.ensures.leaf
    c.as_slice-nodes.result.now c.as_slice-nodes.ensures c.in_ok-leaf.ensures.live (c.some_ascend.ensures.0 c.if-not-some_ascend.false) c.if-nodes-leaf.false c.in_default-first_outside.ensures c.in_default-first_not_free.ensures

pub returns-in-None-clause-apart : goal.returns-in-None-clause-apart
returns-in-None-clause-apart c = apart (space c.args.inst.now) c.args.earlier.now c.args.grant.now c.in_ok-leaf.leaf c.in_ok-leaf.ensures.leaf
    c.as_slice-nodes.result.now c.as_slice-nodes.ensures c.in_default.ensures c.in-None.ensures

use Rattle.std.proofs.Common.{◌<◌, ◌∙◌, ℕ, List, All, get_or, length, sym, ap, subst}
use Rattle.std.specs.List.{list_any}
use Rattle.tetri_space.specs.Lawful.{IsLawfulGrant}
use Rattle.tetri_space.specs.Slots.{marked, meets, slots_of}
use Rattle.tetri_space.specs.Space.{space}
use Rattle.tetri_space.proofs.FrontLemmas.{lawful_nodes, ok_of, short_leaf}
use Rattle.tetri_space.proofs.front.takes.Goals as goal

pub slots_of-slots-requires-clause-few_slots : goal.slots_of-slots-requires-clause-few_slots
slots_of-slots-requires-clause-few_slots c = short_leaf (space c.args.inst.now) c.requires.sound c.args.grant.now c.in-Some.leaf (sym c.leaf_of.ensures ∙ c.in-Some.is)

pub holds_some-requires : goal.holds_some-requires
holds_some-requires c =
    let s = space c.args.inst.now in
    let lawful = ok_of c.check_grant.result (IsLawfulGrant s c.args.grant.now) c.if-is_err.ensures.value c.check_grant.ensures.lawful in
    subst (All (λ n. n < length c.args.masks.now)) (sym c.as_slice-nodes.ensures)
    (lawful_nodes s c.requires.sound c.args.grant.now c.in-Some.leaf (sym c.leaf_of.ensures ∙ c.in-Some.is) (length c.args.masks.now) c.requires.as_many lawful)

pub hold-requires : goal.hold-requires
hold-requires c =
    let s = space c.args.inst.now in
    let lawful = ok_of c.check_grant.result (IsLawfulGrant s c.args.grant.now) c.if-is_err.ensures.value c.check_grant.ensures.lawful in
    subst (All (λ n. n < length c.args.masks.now)) (sym c.as_slice-nodes.ensures)
    (lawful_nodes s c.requires.sound c.args.grant.now c.in-Some.leaf (sym c.leaf_of.ensures ∙ c.in-Some.is) (length c.args.masks.now) c.requires.as_many lawful)

pub returns : goal.returns
returns c t =
    let s = space c.args.inst.now in
    let masks = c.args.masks.now in
    let slots = c.slots_of-slots.result in
    let g = c.args.grant.now in
    record {
      leaf = c.in-Some.leaf;
      found = sym c.leaf_of.ensures ∙ c.in-Some.is;
      lawful = ok_of c.check_grant.result (IsLawfulGrant s g) c.if-is_err.ensures.value c.check_grant.ensures.lawful;
      open_nodes = ap (λ (k : ℕ). list_any (λ n. meets (get_or masks n 0) k) g.nodes) (sym c.slots_of-slots.ensures)
          ∙ ap (λ (ns : List ℕ). list_any (λ n. meets (get_or masks n 0) slots) ns) (sym c.as_slice-nodes.ensures) ∙ sym c.if-holds_some.ensures;
      held = c.hold.ensures ∙ ap (λ (k : ℕ). marked masks k c.as_slice-nodes.result.now) c.slots_of-slots.ensures
          ∙ ap (λ (ns : List ℕ). marked masks (slots_of s.now c.in-Some.leaf) ns) c.as_slice-nodes.ensures;
    }

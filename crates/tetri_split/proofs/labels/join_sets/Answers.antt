use Rattle.std.proofs.Common.{◌≡◌, ◌∙◌, ◌+◌, ◌<◌, ℕ, [], None, Some, List, Contains, get_or, length, take, subst, sym}
use Rattle.tetri_split.specs.Labels.{AreJoined, AreMarked, HaveOneLabel, IsOneOf, nodes_in}
use Rattle.tetri_split.proofs.LabelLemmas.{earlier_within, empty_from, none_node, none_one_label, set_joined, some_from, some_joined, some_marked, some_node, some_one_label}
use Rattle.tetri_split.proofs.labels.join_sets.Goals as goal
use Rattle.tetri_split.proofs.labels.join_sets.Goals.{then-not-is_empty, else-not-is_empty}

pub join_node-requires-clause-earlier : goal.join_node-requires-clause-earlier
join_node-requires-clause-earlier c =
    earlier_within c.args.sets.now c.args.numbers.now c.loop-set.set-index c.loop-set-test.true c.args.labels.now c.loop-set.labels c.join_set.new.labels c.loop-set.joined c.requires.there
    c.loop-set.invariant.node c.loop-set.invariant.joined c.loop-set.invariant.one_label c.join_set.ensures.joined c.join_set.ensures.one_label

pub loop-set-preserved : goal.loop-set-preserved
loop-set-preserved c =
    let sets = c.args.sets.now in
    let numbers = c.args.numbers.now in
    let i = c.loop-set.set-index in
    let lt = c.loop-set-test.true in
    let start = c.args.labels.now in
    let labels = c.loop-set.labels in
    let joined = c.join_set.new.labels in
    let earlier = c.loop-set.joined in
    let inv = c.loop-set.invariant in
    let next = c.join_set.ensures.joined in
    let one_label = c.join_set.ensures.one_label in
    let nodes_is : c.as_slice-nodes.result.now ≡ get_or sets (get_or numbers i 0) [] = c.as_slice-nodes.ensures ∙ c.nodes_of.ensures.value in
    let done = nodes_in sets (take (i + 1) numbers) in
    elim c.if-not-is_empty.branch [
      | then-not-is_empty w ↦
          let new = w.join_node.new.labels in
          let one = w.join_node.result in
          let some : 0 < length (get_or sets (get_or numbers i 0) []) =
          subst (λ (ns : List ℕ). 0 < length ns) nodes_is (some_from c.as_slice-nodes.result.now (sym c.is_empty.ensures ∙ w.if-not-is_empty.true)) in
          let last = subst (λ (ns : List ℕ). (r : List ℕ) → ((n : ℕ) → earlier ≡ Some n → Contains r n) → Contains r (get_or ns 0 0) → AreJoined r joined new) nodes_is w.join_node.ensures.joined in
          let fresh = subst (λ (ns : List ℕ). earlier ≡ None → one ≡ get_or ns 0 0) nodes_is w.join_node.ensures.node in
          let old = subst (λ (ns : List ℕ). (n : ℕ) → earlier ≡ Some n → (one ≡ n) × (get_or new n 0 ≡ get_or new (get_or ns 0 0) 0)) nodes_is w.join_node.ensures.earlier in
          record {
            node = subst (IsOneOf done) (sym w.joined-is)
                (some_node sets numbers i lt start labels joined earlier c.requires.there inv.node inv.joined inv.one_label next one_label new one some last fresh old);
            joined = subst (AreJoined (nodes_in sets numbers) start) (sym w.labels-is)
                (some_joined sets numbers i lt start labels joined earlier c.requires.there inv.node inv.joined inv.one_label next one_label new one some last fresh old);
            one_label = subst (λ (ls : List ℕ). HaveOneLabel ls done) (sym w.labels-is)
                (some_one_label sets numbers i lt start labels joined earlier c.requires.there inv.node inv.joined inv.one_label next one_label new one some last fresh old);
            marked = subst (AreMarked sets c.join_set.new.marks) (sym w.labels-is)
                (some_marked sets numbers i lt start labels joined earlier c.requires.there inv.node inv.joined inv.one_label next one_label new one some last fresh old c.join_set.new.marks c.join_set.ensures.marked);
          }
      | else-not-is_empty w ↦
          let empty : get_or sets (get_or numbers i 0) [] ≡ [] = sym nodes_is ∙ empty_from c.as_slice-nodes.result.now (sym c.is_empty.ensures ∙ w.if-not-is_empty.false) in
          record {
            node = subst (IsOneOf done) (sym w.joined-is) (none_node sets numbers i lt start labels joined earlier c.requires.there inv.node inv.joined inv.one_label next one_label empty);
            joined = subst (AreJoined (nodes_in sets numbers) start) (sym w.labels-is)
                (set_joined sets numbers i lt start labels joined earlier c.requires.there inv.node inv.joined inv.one_label next one_label);
            one_label = subst (λ (ls : List ℕ). HaveOneLabel ls done) (sym w.labels-is)
                (none_one_label sets numbers i lt start labels joined earlier c.requires.there inv.node inv.joined inv.one_label next one_label empty);
            marked = subst (AreMarked sets c.join_set.new.marks) (sym w.labels-is) c.join_set.ensures.marked;
          }
    ]

use Rattle.std.proofs.Common.{◌≡◌, ◌∙◌, ◌<◌, ◌≤◌, ◌++◌, ◌+◌, [], ℕ, List, All, get_or, length, map, ap, subst, sym, arith}
use Rattle.std.proofs.lemmas.List.{length-map, length_push, take_all}
use Rattle.tetri_space.specs.Sound.{IsSoundBid}
use Rattle.tetri_space.specs.Space.{bid, space}
use Rattle.tetri_space.proofs.InstanceLaws.{bid_has}
use Rattle.tetri_split.specs.Labels.{AreJoined, AreMarked, HaveOneLabel, IsOneOf, live_sets, nodes_by_bid, nodes_for, nodes_in}
use Rattle.tetri_split.proofs.SplitLemmas.{bid_at_place, live_known, live_nodes, more_links, more_nodes, more_one_label}
use Rattle.tetri_split.proofs.labels.join_jobs.Goals as goal

pub join_sets-requires-clause-known : goal.join_sets-requires-clause-known
join_sets-requires-clause-known c =
    let s = space c.args.inst.now in
    let b = bid c.offer-item.result in
    let numbers : c.deref-in-loop-offer.result.now ≡ live_sets s b = c.deref-in-loop-offer.ensures.value ∙ c.in_ok-push_sets.ensures ∙ ap (λ (ns : List ℕ). ns ++ live_sets s b) c.clear.ensures.items in
    let all = subst (λ os. All (IsSoundBid s) (map bid os)) (sym c.deref-offer-items.ensures.value) c.requires.sound.sound_bids in
    let good = bid_has (IsSoundBid s) _ _ c.offer-item.result all c.loop-offer-test.true c.offer-item.is in
    subst (λ (ns : List ℕ). All (λ k. k < length c.deref.result.now) ns) (sym numbers)
    (subst (λ (ss : List (List ℕ)). All (λ k. k < length ss) (live_sets s b)) (sym c.deref.ensures) (live_known s b good))

pub join_sets-requires-clause-there : goal.join_sets-requires-clause-there
join_sets-requires-clause-there c =
    let s = space c.args.inst.now in
    let b = bid c.offer-item.result in
    let numbers : c.deref-in-loop-offer.result.now ≡ live_sets s b = c.deref-in-loop-offer.ensures.value ∙ c.in_ok-push_sets.ensures ∙ ap (λ (ns : List ℕ). ns ++ live_sets s b) c.clear.ensures.items in
    let all = subst (λ os. All (IsSoundBid s) (map bid os)) (sym c.deref-offer-items.ensures.value) c.requires.sound.sound_bids in
    let good = bid_has (IsSoundBid s) _ _ c.offer-item.result all c.loop-offer-test.true c.offer-item.is in
    let count : length c.loop-offer.labels ≡ s.nodes = omega (arith, c.requires.count) in
    subst (λ (ns : List ℕ). All (λ k. All (λ n. n < length c.loop-offer.labels) (get_or c.deref.result.now k [])) ns) (sym numbers)
    (subst (λ (ss : List (List ℕ)). All (λ k. All (λ n. n < length c.loop-offer.labels) (get_or ss k [])) (live_sets s b)) (sym c.deref.ensures)
    (subst (λ (m : ℕ). All (λ k. All (λ n. n < m) (get_or s.sets k [])) (live_sets s b)) (sym count) (live_nodes s b good)))

pub loop-offer-preserved : goal.loop-offer-preserved
loop-offer-preserved c =
    let s = space c.args.inst.now in
    let i = c.loop-offer.offer-index in
    let os = c.deref-offer-items.result.now in
    let o = c.offer-item.result in
    let b = bid o in
    let inv = c.loop-offer.invariant in
    let jobs : os ≡ c.args.inst.now.jobs.items = c.deref-offer-items.ensures.value in
    let numbers : c.deref-in-loop-offer.result.now ≡ live_sets s b = c.deref-in-loop-offer.ensures.value ∙ c.in_ok-push_sets.ensures ∙ ap (λ (ns : List ℕ). ns ++ live_sets s b) c.clear.ensures.items in
    let nodes : nodes_in c.deref.result.now c.deref-in-loop-offer.result.now ≡ nodes_for s b = ap (λ (ss : List (List ℕ)). nodes_in ss c.deref-in-loop-offer.result.now) c.deref.ensures ∙ ap (nodes_in s.sets) numbers in
    let place = bid_at_place os c.args.inst.now.jobs.items i o jobs c.loop-offer-test.true c.offer-item.is in
    let count : length c.loop-offer.labels ≡ s.nodes = omega (arith, c.requires.count) in
    let new = c.join_sets.new.labels in
    let joined = subst (λ (ns : List ℕ). AreJoined ns c.loop-offer.labels new) nodes c.join_sets.ensures.joined in
    let one = subst (HaveOneLabel new) nodes c.join_sets.ensures.one_label in
    record {
      count = ap length c.in_ok-push.ensures.items ∙ length_push c.loop-offer.nodes.items c.join_sets.result ∙ ap (λ n. n + 1) inv.count;
      node = more_nodes s c.requires.sound i b place.0 place.1 c.loop-offer.nodes.items c.push.new.self.items c.join_sets.result inv.count c.in_ok-push.ensures.items inv.node
          (subst (λ (ns : List ℕ). IsOneOf ns c.join_sets.result) nodes c.join_sets.ensures.node);
      one_label = more_one_label s c.requires.sound i b place.0 place.1 c.loop-offer.labels new count joined inv.one_label one;
      links = more_links s c.requires.sound i b place.0 place.1 c.args.labels.now c.loop-offer.labels new joined inv.links;
      small = λ m h. joined.small m (inv.small m h);
      marked = subst (λ (ss : List (List ℕ)). AreMarked ss c.join_sets.new.marks new) c.deref.ensures c.join_sets.ensures.marked;
    }

pub returns-clause-one_label : goal.returns-clause-one_label
returns-clause-one_label c =
    let s = space c.args.inst.now in
    let past : length (nodes_by_bid s) ≤ c.loop-offer.offer-index =
    omega (arith, c.loop-offer-test.false, ap length c.deref-offer-items.ensures.value, length-map s.bids (nodes_for s), length-map c.args.inst.now.jobs.items bid) in
    subst (λ (rs : List (List ℕ)). All (HaveOneLabel c.loop-offer.labels) rs) (take_all c.loop-offer.offer-index (nodes_by_bid s) past) c.loop-offer.invariant.one_label

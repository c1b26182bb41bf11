use Rattle.std.proofs.Common.{◌≡◌, ◌∙◌, ◌<◌, ℕ, List, All, None, Option, Some, get_or, length, map, ap, subst, sym, arith}
use Rattle.std.specs.List.{range_with_len}
use Rattle.std.proofs.lemmas.List.FromFn.{length-range_with_len}
use Rattle.tetri_space.specs.Space.{space}
use Rattle.tetri_split.specs.Labels.{AreKeysOf, LabelsLink, label_of, nodes_by_bid}
use Rattle.tetri_split.proofs.SplitLemmas.{keys_from, nodes_within, none_marked, own_links, own_small}
use Rattle.tetri_split.proofs.labels.keys_over.Goals as goal

pub join_jobs-requires-clause-count : goal.join_jobs-requires-clause-count
join_jobs-requires-clause-count c = ap length c.requires.labels ∙ length-range_with_len 0 c.args.inst.now.nodes

pub join_jobs-requires-clause-marked : goal.join_jobs-requires-clause-marked
join_jobs-requires-clause-marked c = none_marked (space c.args.inst.now).sets c.args.marks.now c.args.labels.now c.requires.unmarked

pub labels_of-requires : goal.labels_of-requires
labels_of-requires c i n lt is =
    let s = space c.args.inst.now in
    let all : length c.join_jobs.new.labels ≡ s.nodes = omega (arith, ap length c.requires.labels, length-range_with_len 0 s.nodes) in
    let same = c.deref.ensures.value in
    nodes_within s c.requires.sound c.join_jobs.new.labels c.in_ok-nodes.nodes.items c.in_ok-nodes.ensures.count all c.in_ok-nodes.ensures.node i n
    (subst (λ (ns : List (Option ℕ)). i < length ns) same lt) (subst (λ (ns : List (Option ℕ)). get_or ns i None ≡ Some n) same is)

pub returns : goal.returns
returns c =
    let s = space c.args.inst.now in
    let labels = c.join_jobs.new.labels in
    let nodes = c.in_ok-nodes.nodes.items in
    let own = range_with_len 0 s.nodes in
    let all : length labels ≡ s.nodes = omega (arith, ap length c.requires.labels, length-range_with_len 0 s.nodes) in
    let links = c.in_ok-nodes.ensures.links (subst (LabelsLink (nodes_by_bid s)) (sym c.requires.labels) (own_links (nodes_by_bid s) s.nodes)) in
    let small = c.in_ok-nodes.ensures.small s.nodes (subst (λ (ns : List ℕ). All (λ x. x < s.nodes) ns) (sym c.requires.labels) (own_small s.nodes)) in
    let is : c.in_ok-keys.keys.items ≡ map (label_of labels) nodes = c.in_ok-keys.ensures ∙ ap (map (label_of labels)) c.deref.ensures.value in
    subst (AreKeysOf s) (sym is)
    (keys_from s c.requires.sound labels nodes c.in_ok-nodes.ensures.count all c.in_ok-nodes.ensures.node c.in_ok-nodes.ensures.one_label links small)

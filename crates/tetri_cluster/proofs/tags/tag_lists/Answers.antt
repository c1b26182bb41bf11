use Rattle.std.proofs.Common.{◌≡◌, ◌∙◌, ◌+◌, ◌++◌, ◌∷◌, List, ℕ, ap, sym, drop, map, bytes_eq, append_assoc}
use Rattle.std.specs.Prelude.{filter}
use Rattle.std.proofs.lemmas.List.{append-nil, drop_all, drop_more}
use Rattle.tetri_cluster.specs.Tags.{tag_list, tagged_from}
use Rattle.tetri_cluster.proofs.tags.tag_lists.Goals as goal

pub loop-place-preserved : goal.loop-place-preserved
loop-place-preserved c =
    let nodes = c.args.nodes.now in
    let at = c.loop-place.place in
    let node = c.index-nodes-place.result in
    let rest = drop (at + 1) nodes in
    let more : drop at nodes ≡ node ∷ rest = drop_more nodes at node c.loop-place-test.true ∙ ap (λ n. n ∷ rest) (sym c.index-nodes-place.is) in
    record {
      as_many = c.in_ok-put_each.ensures.as_many;
      lists = λ q. let old = tag_list c.loop-place.tags c.loop-place.lists.items q in
          ap (λ l. l ++ tagged_from (at + 1) q rest) (c.in_ok-put_each.ensures.put q) ∙ append_assoc old (map (λ (_ : List ℕ). at) (filter (bytes_eq q) node.tags)) (tagged_from (at + 1) q rest)
          ∙ sym (ap (λ ns. old ++ tagged_from at q ns) more) ∙ c.loop-place.invariant.lists q;
    }

pub returns : goal.returns
returns c =
    let end = drop_all c.loop-place.place c.args.nodes.now c.loop-place-test.false in
    record {
      as_many = c.loop-place.invariant.as_many;
      lists = λ q. let old = tag_list c.loop-place.tags c.loop-place.lists.items q in
          sym (append-nil old) ∙ sym (ap (λ ns. old ++ tagged_from c.loop-place.place q ns) end) ∙ c.loop-place.invariant.lists q;
    }

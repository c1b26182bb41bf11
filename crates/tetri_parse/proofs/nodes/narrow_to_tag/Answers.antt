use Rattle.std.proofs.Common.{◌≡◌, ◌∙◌, ap, filter, length, nat_eq, true}
use Rattle.std.specs.List.{list_any}
use Rattle.tetri_cluster.specs.Cluster.{knows_tag}
use Rattle.tetri_cluster.specs.Names.{is_among}
use Rattle.tetri_parse.proofs.NodeSets.{kept_set}
use Rattle.tetri_parse.proofs.SeenTags.{new_seen, seen_leaves, some_from}
use Rattle.tetri_parse.proofs.nodes.narrow_to_tag.Goals as goal

pub returns-then-is_some-clause-value : goal.returns-then-is_some-clause-value
returns-then-is_some-clause-value c =
    let was : is_among c.args.tag.now c.args.seen.now ≡ true = cc in
    seen_leaves c.args.cluster.now c.args.nodes c.args.tag.now c.args.seen.now c.requires.seen was

pub returns-clause-good : goal.returns-clause-good
returns-clause-good c = kept_set _ _ _ _ _ c.in_ok-left.ensures c.as_slice.ensures c.requires.good

pub returns-clause-seen : goal.returns-clause-seen
returns-clause-seen c =
    let listed = c.nodes_with-tagged.result.now in
    let left_is : c.in_ok-left.left ≡ filter (λ n. list_any (nat_eq n) listed) c.args.nodes = c.in_ok-left.ensures ∙ ap (filter (λ n. list_any (nat_eq n) listed)) c.as_slice.ensures in
    let known : knows_tag c.args.cluster.now c.args.tag.now ≡ true = c.nodes_with-tagged.ensures.known ∙ some_from (length listed) c.is_empty.result c.is_empty.ensures c.if-is_empty.false in
    new_seen c.args.cluster.now c.args.tag.now listed c.args.nodes c.in_ok-left.left c.nodes_with-tagged.ensures.members left_is c.args.seen.now c.add.new.self c.in_ok-_is_new._is_new known c.requires.seen c.in_ok-_is_new.ensures.ok

use Rattle.std.proofs.Common.{◌≡◌, fold, take}
use Rattle.tetri_hosts.specs.Columns.{with_new_tag}
use Rattle.tetri_hosts.proofs.nodes.add_tags.Given as goal

abbrev pub invariant-loop-other : goal.invariant-loop-other
invariant-loop-other l = l.tags ≡ fold with_new_tag l.initial.tags (take l.other-index l.other-items)

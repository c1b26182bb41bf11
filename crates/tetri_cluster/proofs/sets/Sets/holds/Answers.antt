use Rattle.tetri_cluster.proofs.SetsAdded.{search_finds}
use Rattle.tetri_cluster.proofs.sets.Sets.holds.Goals as goal

pub returns : goal.returns
returns c =
    rw (c.is_ok.ensures.value, ← c.nodes_of.ensures.value, ← c.as_slice.ensures)
    (search_finds c.as_slice.result.now c.args.node c.binary_search.result (rw c.as_slice.ensures c.nodes_of.ensures.ascending) c.binary_search.ensures.position)

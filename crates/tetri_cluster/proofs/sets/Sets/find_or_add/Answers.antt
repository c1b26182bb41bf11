use Rattle.std.proofs.Common.{arith, sym}
use Rattle.tetri_cluster.specs.Sets.{AreSets}
use Rattle.tetri_cluster.proofs.SetsAdded.{are_sets, ascending_with, found_set, stored_set}
use Rattle.tetri_cluster.proofs.sets.Sets.find_or_add.Goals as goal
use Rattle.tetri_cluster.proofs.sets.Sets.find_or_add.Goals.{in-Some, in-None}

pub returns-then-len-ge-MAX_SETS-clause-nodes : goal.returns-then-len-ge-MAX_SETS-clause-nodes
returns-then-len-ge-MAX_SETS-clause-nodes c = elim c.match-get_index_of.branch [ in-Some w ↦ rw (w.result-is, ← c.self.view_is) (found_set c.self.inside.sets.keys c.args.nodes w.in-Some.set (sym w.in-Some.ensures.index)) | in-None w ↦ rw w.result-is tt ]

new_sets : (c : goal.In_ok-set) → AreSets c.insert_full.new.self.keys
new_sets c = are_sets _ (rw c.in_ok-set.ensures.keys (ascending_with c.self.inside.sets.keys c.args.nodes c.self.invariant.0.ascending c.requires)) c.in_ok-set.ensures.unique

pub invariant_of-self-2 : goal.invariant_of-self-2
invariant_of-self-2 c = (new_sets c, grind (arith, c.in_ok-set.ensures.len, c.len.ensures.len, c.if-len-ge-MAX_SETS.false))

pub returns-clause-nodes : goal.returns-clause-nodes
returns-clause-nodes c =
    let stored = c.in_ok-set.ensures.stored in
    stored_set c.insert_full.new.self.keys c.args.nodes stored.0 c.in_ok-set.set stored.1 stored.2

pub returns-clause-are_sets : goal.returns-clause-are_sets
returns-clause-are_sets c = new_sets c

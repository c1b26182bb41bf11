use Rattle.std.proofs.Common.{◌≡◌, ◌<◌, ℕ, [], All, None, length, slice_index_or, take}
use Rattle.tetri_space.specs.Space.{space}
use Rattle.tetri_split.specs.Labels.{AreMarked, HaveOneLabel, IsOneOf, LabelsLink, nodes_by_bid}
use Rattle.tetri_split.proofs.labels.join_jobs.Given as goal

abbrev pub invariant-loop-offer : goal.invariant-loop-offer
invariant-loop-offer l = record {
  count : length l.nodes.items ≡ l.offer-index;
  node : (i : ℕ) → i < l.offer-index → IsOneOf (slice_index_or (nodes_by_bid (space l.inst)) i []) (slice_index_or l.nodes.items i None);
  one_label : All (HaveOneLabel l.labels) (take l.offer-index (nodes_by_bid (space l.inst)));
  links : LabelsLink (nodes_by_bid (space l.inst)) l.initial.labels → LabelsLink (nodes_by_bid (space l.inst)) l.labels;
  small : (b : ℕ) → All (λ x. x < b) l.initial.labels → All (λ x. x < b) l.labels;
  marked : AreMarked (space l.inst).sets l.marks l.labels;
}

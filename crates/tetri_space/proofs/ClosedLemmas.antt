-- Nodes that are closed in the same slots, and the sets of nodes that are closed at the turns.
use Rattle.std.proofs.Common.{◌≡◌, ℕ, ◌<◌, ◌≤◌, ◌&&◌, true, sym, ap, ◌∙◌, arith}
use Rattle.tetri_base.specs.Lists.{has, same}
use Rattle.tetri_base.proofs.ListLaws.{Each-at, Each-from, all_from, from_all, has-filter, has-range}
use Rattle.tetri_space.specs.Free.{is_closed}
use Rattle.tetri_space.specs.Partitions.{alike, nodes_of, turns, closed_at, closed_sets}
use Rattle.tetri_space.specs.Space.{Space}
use Rattle.tetri_space.proofs.MemberLemmas.{contains_from, has_from, of_map}
use Rattle.tetri_space.proofs.PartitionLemmas.{same-true, true-same}
use Rattle.tetri_space.proofs.PrunedLemmas.{in_map}
use Rattle.tetri_space.proofs.TurnLemmas.{alike_from_now, turns_late}

module _ (s : Space) where
  has_closed : (n t : ℕ) → n < s.nodes → has (closed_at s t) n ≡ is_closed s n t
  has_closed n t lt =
      has-filter (λ m. is_closed s m t) (nodes_of s) n ∙ ap (λ b. b && is_closed s n t) (has-range 0 s.nodes n (omega arith) (omega arith))

  module _ (m n : ℕ) (lt : m < s.nodes) (short : n < s.nodes) where
    -- nodes that are in the same of these sets are closed in the same slots from now on
    pub closed_from_marks : alike (closed_sets s) m n ≡ true → (t : ℕ) → s.now ≤ t → is_closed s m t ≡ is_closed s n t
    closed_from_marks e t le =
        alike_from_now s.now s.closures m n
        (λ u turn.
        sym (has_closed m u lt)
        ∙ same-true (has (closed_at s u) m) (has (closed_at s u) n)
        (Each-at (λ ns. same (has ns m) (has ns n) ≡ true) (closed_sets s) (closed_at s u) (from_all (λ ns. same (has ns m) (has ns n)) (closed_sets s) e)
        (in_map (closed_at s) (turns s) u (contains_from (turns s) u turn)))
        ∙ has_closed n u short) t le

    pub marks_from_closed : ((t : ℕ) → s.now ≤ t → is_closed s m t ≡ is_closed s n t) → alike (closed_sets s) m n ≡ true
    marks_from_closed h =
        all_from (λ ns. same (has ns m) (has ns n)) (closed_sets s)
        (Each-from (λ ns. same (has ns m) (has ns n) ≡ true) (closed_sets s) (λ ns at.
        let w = of_map (closed_at s) (turns s) ns at in
        ap (λ zs. same (has zs m) (has zs n)) (sym w.2)
        ∙ true-same (has (closed_at s w.0) m) (has (closed_at s w.0) n)
        (has_closed m w.0 lt ∙ h w.0 (turns_late s.now s.closures w.0 (has_from (turns s) w.0 w.1)) ∙ sym (has_closed n w.0 short))))

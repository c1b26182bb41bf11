-- Laws of partitions and closed nodes: a partition is closed as each of its nodes is.
use Rattle.std.proofs.Common.{◌≡◌, ◌⊎◌, ℕ, ◌<◌, ◌≤◌, ◌&&◌, not, Bool, true, false, cond, List, [], ◌++◌, length, get_or, Contains, refl, sym, ap, ◌∙◌, arith, true≢false, inl, inr}
use Rattle.std.specs.List.{filter}
use Rattle.std.proofs.lemmas.Bool.{cases_Bool, cases_lt, and_parts}
use Rattle.std.proofs.lemmas.List.{length-map, get_or-map, get_or_default, get_or_past}
use Rattle.std.proofs.lemmas.List.Folds.{list_all-append}
use Rattle.tetri_base.specs.Lists.{has, same, bit, count}
use Rattle.tetri_base.proofs.ListLaws.{Each-at, Each-filter, Each-from, any_from, none_from, has-filter, has-range, range_from, sum_of-eq, sum_of-zero}
use Rattle.tetri_space.specs.Free.{is_closed, is_free, is_idle}
use Rattle.tetri_space.specs.Partitions.{alike, asked, available, closed_sets, is_closed_part, leads, live_bids, nodes_of, part_at, partitions}
use Rattle.tetri_space.specs.Space.{Space}
use Rattle.tetri_space.proofs.ClosedLemmas.{closed_from_marks}
pub use Rattle.tetri_space.proofs.FreeLemmas.{idle_later}
use Rattle.tetri_space.proofs.MemberLemmas.{contains_from, has_from}
use Rattle.tetri_space.proofs.PartitionLemmas.{alike_self, alike_sym, alike_trans}

module _ (s : Space) where
  abbrev all_sets : List (List ℕ)
  all_sets = asked s (live_bids s) ++ closed_sets s

  abbrev leaders : List ℕ
  leaders = filter (leads (asked s (live_bids s)) (closed_sets s) (nodes_of s)) (nodes_of s)

  below_nodes : (n : ℕ) → has (nodes_of s) n ≡ true → n < s.nodes
  below_nodes n e = Each-at (λ k. k < s.nodes) (nodes_of s) n (range_from (λ k. k < s.nodes) 0 s.nodes (λ k low high. omega arith)) (contains_from (nodes_of s) n e)

  part_is : (p : ℕ) → p < length (partitions s) → part_at (partitions s) p ≡ filter (alike all_sets (get_or leaders p 0)) (nodes_of s)
  part_is p lt = get_or-map (λ n. filter (alike all_sets n) (nodes_of s)) leaders p 0 [] (omega (arith, lt, length-map leaders (λ n. filter (alike all_sets n) (nodes_of s))))

  -- a node of a partition
  record IsNodeOf (p n : ℕ) : Type 0 where
    there : n < s.nodes
    like : alike all_sets (get_or leaders p 0) n ≡ true

  node_of : (p n : ℕ) → has (part_at (partitions s) p) n ≡ true → IsNodeOf p n
  node_of p n e = by_place (cases_lt p (length (partitions s)))
    where
      by_place : (p < length (partitions s)) ⊎ (length (partitions s) ≤ p) → IsNodeOf p n
      by_place (inl lt) =
          let both = and_parts (has (nodes_of s) n) (alike all_sets (get_or leaders p 0) n)
          (sym (has-filter (alike all_sets (get_or leaders p 0)) (nodes_of s) n) ∙ sym (ap (λ ns. has ns n) (part_is p lt)) ∙ e) in
          record { there = below_nodes n both.0; like = both.1 }
      by_place (inr ge) = absurd (true≢false (sym e ∙ ap (λ ns. has ns n) (get_or_past (partitions s) p [] ge)))

  -- all nodes of a partition are closed in the same slots from now on
  pub closed_alike : (p n m t : ℕ) → has (part_at (partitions s) p) n ≡ true → has (part_at (partitions s) p) m ≡ true → s.now ≤ t → is_closed s n t ≡ is_closed s m t
  closed_alike p n m t at other le =
      let a = node_of p n at in
      let b = node_of p m other in
      let like = alike_trans all_sets n (get_or leaders p 0) m (alike_sym all_sets (get_or leaders p 0) n a.like) b.like in
      let marks = (and_parts (alike (asked s (live_bids s)) n m) (alike (closed_sets s) n m) (sym (list_all-append (λ ns. same (has ns n) (has ns m)) (asked s (live_bids s)) (closed_sets s)) ∙ like)).1 in
      closed_from_marks s n m a.there b.there marks t le

  pub closed_part_is : (p n t : ℕ) → has (part_at (partitions s) p) n ≡ true → s.now ≤ t → is_closed_part s (partitions s) p t ≡ is_closed s n t
  closed_part_is p n t at le = by_test (cases_Bool (is_closed s n t))
    where
      by_test : (is_closed s n t ≡ true) ⊎ (is_closed s n t ≡ false) → is_closed_part s (partitions s) p t ≡ is_closed s n t
      by_test (inl e) = any_from (λ m. is_closed s m t) (part_at (partitions s) p) n (contains_from (part_at (partitions s) p) n at) e ∙ sym e
      by_test (inr e) =
          none_from (λ m. is_closed s m t) (part_at (partitions s) p)
          (Each-from (λ m. is_closed s m t ≡ false) (part_at (partitions s) p) (λ m other. closed_alike p m n t (has_from (part_at (partitions s) p) m other) at le ∙ e))
          ∙ sym e

  -- a partition has a node
  pub part_some : (p : ℕ) → p < length (partitions s) → (n : ℕ) × (has (part_at (partitions s) p) n ≡ true)
  part_some p lt =
      let lead = get_or leaders p 0 in
      let short : p < length leaders = omega (arith, lt, length-map leaders (λ n. filter (alike all_sets n) (nodes_of s))) in
      let there : lead < s.nodes = Each-at (λ k. k < s.nodes) leaders lead
      (Each-filter (λ k. k < s.nodes) (leads (asked s (live_bids s)) (closed_sets s) (nodes_of s)) (nodes_of s) (range_from (λ k. k < s.nodes) 0 s.nodes (λ k low high. omega arith)))
      (p, short, get_or_default leaders p lead 0 short) in (
        lead,
        ap (λ ns. has ns lead) (part_is p lt) ∙ has-filter (alike all_sets lead) (nodes_of s) lead
            ∙ ap (λ b. b && alike all_sets lead lead) (has-range 0 s.nodes lead (omega arith) (omega (arith, there))) ∙ alike_self all_sets lead,
      )

  -- where a partition is closed none of its nodes is free, and else the idle ones are
  pub available_is : (p t : ℕ) → s.now ≤ t →
      available s (partitions s) p t ≡ cond (is_closed_part s (partitions s) p t) 0 (count (λ n. is_idle s n t) (part_at (partitions s) p))
  available_is p t le = by_test (is_closed_part s (partitions s) p t) (λ n at. closed_part_is p n t (has_from (part_at (partitions s) p) n at) le)
    where
      idle_and : (b : Bool) → (b && true) ≡ b
      idle_and true = refl
      idle_and false = refl

      and_false : (b : Bool) → (b && false) ≡ false
      and_false true = refl
      and_false false = refl

      by_test : (b : Bool) → ((n : ℕ) → Contains (part_at (partitions s) p) n → b ≡ is_closed s n t) →
          available s (partitions s) p t ≡ cond b 0 (count (λ n. is_idle s n t) (part_at (partitions s) p))
      by_test true each =
          sum_of-eq (λ n. bit (is_free s n t)) (λ n. 0) (part_at (partitions s) p)
          (Each-from _ (part_at (partitions s) p) (λ n at. ap (λ c. bit (is_idle s n t && not c)) (sym (each n at)) ∙ ap bit (and_false (is_idle s n t))))
          ∙ sum_of-zero (part_at (partitions s) p)
      by_test false each =
          sum_of-eq (λ n. bit (is_free s n t)) (λ n. bit (is_idle s n t)) (part_at (partitions s) p)
          (Each-from _ (part_at (partitions s) p) (λ n at. ap (λ c. bit (is_idle s n t && not c)) (sym (each n at)) ∙ ap bit (idle_and (is_idle s n t))))

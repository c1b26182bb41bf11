-- The first node of a partition.
use Rattle.std.proofs.Common.{◌≡◌, ℕ, ◌<◌, ◌≤◌, ◌∙◌, ◌||◌, true, List, [], ◌∷◌, length, get_or, refl, sym, ap, arith, true≢false}
use Rattle.std.specs.List.{list_any}
use Rattle.tetri_base.specs.Lists.{has}
use Rattle.tetri_base.proofs.ListLaws.{range_from, test_from_eq}
use Rattle.tetri_strl.specs.declared.expr.Leaf.{Leaf}
use Rattle.tetri_space.specs.Free.{is_closed, slots}
use Rattle.tetri_space.specs.Partitions.{is_closed_part, part_at, partitions}
use Rattle.tetri_space.specs.Space.{Space}
use Rattle.tetri_space.proofs.ClosedFacts.{closed_part_is, part_some}
use Rattle.tetri_space.proofs.MemberLemmas.{any_same}

some_long : (ns : List ℕ) (n : ℕ) → has ns n ≡ true → 1 ≤ length ns
some_long [] n e = absurd (true≢false (sym e))
some_long (m ∷ ns) n e = omega arith

has_first : (ns : List ℕ) → 1 ≤ length ns → has ns (get_or ns 0 0) ≡ true
has_first [] lt = absurd (omega arith)
has_first (n ∷ ns) lt = ap (λ b. b || has ns n) (test_from_eq n n refl)

-- these nodes, which are those of a partition, have a first one, and it is closed where the partition is
module _ (s : Space) (groups : List (List ℕ)) (p : ℕ) (ns : List ℕ) (are : groups ≡ partitions s) (there : p < length groups) (is : ns ≡ part_at groups p) where
  of_part : ns ≡ part_at (partitions s) p
  of_part = is ∙ ap (λ gs. part_at gs p) are

  pub part_long : 1 ≤ length ns
  part_long = let w = part_some s p (omega (arith, ap length are)) in some_long ns w.0 (ap (λ ms. has ms w.0) of_part ∙ w.1)

  pub first_closed : (t : ℕ) → s.now ≤ t → is_closed s (get_or ns 0 0) t ≡ is_closed_part s (partitions s) p t
  first_closed t le = sym (closed_part_is s p (get_or ns 0 0) t (ap (λ ms. has ms (get_or ns 0 0)) (sym of_part) ∙ has_first ns part_long) le)

  pub first_closed_within : (l : Leaf) → s.now ≤ l.start → list_any (is_closed s (get_or ns 0 0)) (slots l) ≡ list_any (is_closed_part s (partitions s) p) (slots l)
  first_closed_within l le =
      any_same (is_closed s (get_or ns 0 0)) (is_closed_part s (partitions s) p) (slots l)
      (range_from (λ t. is_closed s (get_or ns 0 0) t ≡ is_closed_part s (partitions s) p t) l.start l.dur (λ t low high. first_closed t (omega (arith, low, le))))

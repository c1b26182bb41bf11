-- What the code makes of a point is what is assigned to it.
use Rattle.std.proofs.Common.{◌≡◌, ℕ, zero, suc, ◌+◌, ◌<◌, ◌≤◌, true, false, List, [], ◌∷◌, length, get_or, map, refl, sym, ap, ◌∙◌, subst, arith, All, Some}
use Rattle.std.specs.Prelude.{nat_lt}
use Rattle.std.specs.List.{list_all, range_with_len}
use Rattle.tetri_strl.specs.declared.expr.Leaf.{Leaf}
use Rattle.tetri_strl.specs.Tree.{leaves}
use Rattle.tetri_strl.specs.WellMade.{IsSound}
use Rattle.tetri_strl.proofs.ExprLaws.{AreApart}
use Rattle.tetri_base.specs.Lists.{sum_of, has, Each, EachPair, Ascends}
use Rattle.tetri_space.specs.Partitions.{part_at, set_at, asked, live_bids, partitions, closed_sets}
use Rattle.tetri_space.specs.Space.{Bid, Space, leaf_in}
use Rattle.tetri_base.proofs.ListLaws.{Each-map, Each-all, Each-append, Each-across, EachPair-append, range-ascends, filter-ascends, EachPair-filter, Each-both}
use Rattle.tetri_compile.specs.declared.outline.Tally.{Tally}
use Rattle.tetri_compile.specs.Draft.{bid_tallies, draft}
use Rattle.tetri_compile.specs.Walk.{width}
use Rattle.tetri_compile.proofs.ProgramLaws.{Each-has, all_of, IsOf, counts_are, tallies_leaf, tallies_other}
use Rattle.std.specs.List.Sorted.{IsNonDecreasingBy, IsPermutation}
use lib.IntN.{ℤ}
use Rattle.tetri_ip.specs.Points.{IsPoint, box_of}
use Rattle.tetri_space.specs.Sound.{IsSound as IsSoundSpace}
use Rattle.std.proofs.lemmas.List.FromFn.{length-map-range_with_len}
use Rattle.tetri_compile.specs.declared.compiling.Compiled.{Compiled}
use Rattle.tetri_compile.specs.declared.taking.Taken.{Taken}
use Rattle.tetri_compile.specs.Counting.{AreCountsOf, taken_at}
use Rattle.tetri_compile.specs.Flat.{IsCompiled}
use Rattle.tetri_assign.specs.Assigned.{all_held, assigned, count_at, gathered}
use Rattle.tetri_assign.specs.steps.Taking.{NEVER, back_at, backs, taken_from, want_of, wants_from}
use Rattle.tetri_assign.specs.declared.held.Held.{Held}
use Rattle.tetri_assign.specs.declared.wants.Want.{Want}
use Rattle.tetri_assign.proofs.BackLemmas.{IsOpenAt, first_backs, taken_sum}
use Rattle.tetri_assign.proofs.Law.{meeting}
use Rattle.tetri_assign.proofs.LawfulFacts.{not_closed}
use Rattle.tetri_assign.proofs.MarkLemmas.{each_of, parts_small}
use Rattle.tetri_assign.proofs.Meeting.{IsMeeting, IsOpen, IsPlaced, all_placed, cs, good_leaf, inside, leaf_is, ordered, ordered_open, ordered_placed, parts, part_inside, above_zero, made_pieces, usable}
use Rattle.tetri_assign.proofs.Turns.{StartsFirst, in_turn}
use Rattle.tetri_assign.proofs.Wanting.{IsOtherCount, held_test, sorted_held, sorted_wants, want_test, wants_are}

-- no two counts are of the same leaf and partition
module _ (ins : ℕ → List ℕ) (rm : ℕ → Leaf → ℕ) (sorted : (k : ℕ) → Ascends (ins k)) where
  of_others : (job : ℕ) (ds : List Bid) (m : ℕ) → Each (λ d. job ≡ d.job → ⊥) ds → Each (λ d. job ≡ d.job → ⊥) (bid_tallies ins rm ds m)
  of_others job [] m h = tt
  of_others job (c ∷ ds) m h =
      Each-append (λ d. job ≡ d.job → ⊥) _ _
      (Each-map (IsOf ins rm c.job (leaves c.expr)) (λ d. job ≡ d.job → ⊥) (λ d o e. h.0 (e ∙ o.job)) _ (tallies_leaf ins rm c.job c.expr (m + 1)))
      (of_others job ds (m + 1 + width ins rm c.expr) h.1)

  tallies_apart : (bs : List Bid) (n : ℕ) → Each (λ b. IsSound b.expr × AreApart b.expr) bs → EachPair (λ b c. b.job ≡ c.job → ⊥) bs → EachPair IsOtherCount (bid_tallies ins rm bs n)
  tallies_apart [] n fine jobs = tt
  tallies_apart (b ∷ bs) n fine jobs =
      EachPair-append IsOtherCount _ _ (tallies_other ins rm sorted b.job b.expr (n + 1) fine.0.1) (tallies_apart bs (n + 1 + width ins rm b.expr) fine.1 jobs.1)
      (Each-across (λ c. c.job ≡ b.job) (λ d. b.job ≡ d.job → ⊥) IsOtherCount (λ c d p q e f g. q (sym p ∙ e)) _ _
      (Each-map (IsOf ins rm b.job (leaves b.expr)) (λ c. c.job ≡ b.job) (λ c o. o.job) _ (tallies_leaf ins rm b.job b.expr (n + 1)))
      (of_others b.job bs (n + 1 + width ins rm b.expr) jobs.0))

-- a fact of each count as one of each want
each_want : (x : ℕ → ℕ) (P : Want → Type 0) (ds : List Tally) → Each (λ d. P (want_of x d)) ds → Each P (map (want_of x) ds)
each_want x P [] h = tt
each_want x P (d ∷ ds) h = (h.0, each_want x P ds h.1)

starts_rise : (x : ℕ → ℕ) (ds : List Tally) → EachPair StartsFirst ds → IsNonDecreasingBy (λ (w : Want). w.start) (map (want_of x) ds)
starts_rise x [] h i j d le lt = absurd (omega (arith, lt))
starts_rise x (c ∷ ds) h zero zero d le lt = omega arith
starts_rise x (c ∷ ds) h zero (suc j) d le lt = all_of (λ (w : Want). c.leaf.start ≤ w.start) (map (want_of x) ds) (each_want x (λ w. c.leaf.start ≤ w.start) ds h.0) j d (omega (arith, lt))
starts_rise x (c ∷ ds) h (suc i) zero d le lt = absurd (omega (arith, le))
starts_rise x (c ∷ ds) h (suc i) (suc j) d le lt = starts_rise x ds h.1 i j d (omega (arith, le)) (omega (arith, lt))

module _ (s : Space) (sound : IsSoundSpace s) (c : Compiled) (is : IsCompiled s c) (point : List ℤ) (at : IsPoint c.program (box_of c.program) point) where
  abbrev bs : List Bid
  bs = live_bids s

  abbrev asks : List (List ℕ)
  asks = asked s bs

  abbrev marks : List (List ℕ)
  marks = closed_sets s

  abbrev x : ℕ → ℕ
  x = count_at point

  meets : IsMeeting s bs asks marks x
  meets = meeting s sound c.program is.program point at

  abbrev turn : List Tally
  turn = ordered s bs asks marks x meets

  pub counts_right : AreCountsOf c.program c.counts.items
  counts_right =
      counts_are (inside s bs asks marks x) (usable s bs asks marks x) bs (Each-map (λ b. IsSound b.expr × AreApart b.expr) (λ b. IsSound b.expr) (λ b h. h.0) bs meets.sound)
      (draft s) refl refl c.program is.program c.counts.items is.counts

  offered : Each (λ d. leaf_in s.bids d.job d.leaf.num ≡ Some d.leaf) (draft s).tallies
  offered =
      Each-map (IsPlaced s bs asks marks x) (λ d. leaf_in s.bids d.job d.leaf.num ≡ Some d.leaf) (λ d k. leaf_is s bs asks marks x meets d k) (cs s bs asks marks x) (all_placed s bs asks marks x)

  others : EachPair IsOtherCount (above_zero s bs asks marks x meets)
  others =
      EachPair-filter IsOtherCount (λ d. nat_lt 0 (x d.column)) (cs s bs asks marks x)
      (tallies_apart (inside s bs asks marks x) (usable s bs asks marks x)
      (λ k. filter-ascends (λ p. list_all (has (set_at s k)) (part_at (parts s bs asks marks x) p)) (range_with_len 0 (length (parts s bs asks marks x))) (range-ascends 0 (length (parts s bs asks marks x))))
      bs 0 meets.sound meets.jobs)

  module _ (counts : List Taken) (wants sorted : List Want) (counted : counts ≡ taken_at point c.counts.items) (wanted : wants ≡ wants_from s.bids counts)
      (moved : IsPermutation wants sorted) (sorts : (k : ℕ) (d : Want) → 0 ≤ k → k + 1 < length sorted → want_test (get_or sorted (k + 1) d) (get_or sorted k d) ≡ false) where
    turn_is : sorted ≡ map (want_of x) turn
    turn_is =
        let first : wants ≡ map (want_of x) (above_zero s bs asks marks x meets) =
        wanted ∙ ap (wants_from s.bids) (counted ∙ ap (taken_at point) is.counts) ∙ wants_are s.bids point (draft s).tallies offered in
        sorted_wants x (above_zero s bs asks marks x meets) others sorted (subst (λ (ws : List Want). IsPermutation ws sorted) first moved) sorts

    all_wants : (P : Want → Type 0) → ((d : Tally) → IsPlaced s bs asks marks x d → P (want_of x d)) → All P sorted
    all_wants P f =
        subst (All P) (sym turn_is)
        (all_of P (map (want_of x) turn) (each_want x P turn (Each-map (IsPlaced s bs asks marks x) (λ d. P (want_of x d)) f turn (ordered_placed s bs asks marks x meets))))

    pub wants_there : All (λ w. w.part < length (partitions s)) sorted
    wants_there = all_wants (λ w. w.part < length (partitions s)) (λ d k. part_inside s bs asks marks x meets d k)

    pub wants_last : All (λ w. w.start < w.end) sorted
    wants_last = all_wants (λ w. w.start < w.end) (λ d k. omega (arith, (good_leaf s bs asks marks x meets k.bid d.leaf k.among k.of_bid.leaf).some_slots))

    pub wants_turn : IsNonDecreasingBy (λ (w : Want). w.start) sorted
    wants_turn = subst (IsNonDecreasingBy (λ (w : Want). w.start)) (sym turn_is) (starts_rise x turn (in_turn (above_zero s bs asks marks x meets)))

    module _ (taken ordered_held : List Held) (took : taken ≡ taken_from (partitions s) (backs s) sorted)
        (held_moved : IsPermutation taken ordered_held)
        (held_sorts : (k : ℕ) (d : Held) → 0 ≤ k → k + 1 < length ordered_held → held_test (get_or ordered_held (k + 1) d) (get_or ordered_held k d) ≡ false) where
      small : (p n : ℕ) → has (part_at (partitions s) p) n ≡ true → n < s.nodes
      small p n e = Each-has (λ m. m < s.nodes) (part_at (partitions s) p) n (each_of (λ m. m < s.nodes) (part_at (partitions s) p) (parts_small s p)) e

      same_sums : (f : Held → ℕ) → sum_of f taken ≡ sum_of f (all_held (made_pieces s bs asks marks x meets))
      same_sums f =
          let early = Each-map (IsPlaced s bs asks marks x) (λ d. d.leaf.start < NEVER) (λ d k. omega (arith, (good_leaf s bs asks marks x meets k.bid d.leaf k.among k.of_bid.leaf).within)) turn (ordered_placed s bs asks marks x meets) in
          let long : length (backs s) ≡ s.nodes = length-map-range_with_len (back_at s) 0 s.nodes in
          let opened =
          Each-both (IsPlaced s bs asks marks x) (IsOpen s bs asks marks x meets) (IsOpenAt s (partitions s) x small)
          (λ d k o n e. not_closed s (partitions s) d.part d.leaf o n d.leaf.start e (omega arith) (omega (arith, (good_leaf s bs asks marks x meets k.bid d.leaf k.among k.of_bid.leaf).some_slots)))
          turn (ordered_placed s bs asks marks x meets) (ordered_open s bs asks marks x meets) in
          let sums = taken_sum s (partitions s) x small f turn [] (backs s) 0 long (first_backs s 0) (Each-all (λ d. 0 ≤ d.leaf.start) (λ d. omega arith) turn) (in_turn (above_zero s bs asks marks x meets)) early opened in
          ap (sum_of f) (took ∙ ap (taken_from (partitions s) (backs s)) turn_is) ∙ plus_none (sum_of f (taken_from (partitions s) (backs s) (map (want_of x) turn))) ∙ sums
        where
          plus_none : (n : ℕ) → n ≡ n + 0
          plus_none n = omega arith

      pub gathered_assigned : gathered ordered_held ≡ assigned s point
      gathered_assigned = ap gathered (sorted_held taken ordered_held (all_held (made_pieces s bs asks marks x meets)) held_moved held_sorts same_sums)

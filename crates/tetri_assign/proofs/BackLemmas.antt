-- The slot from which each node may be used again tells which nodes are spare.
use Rattle.std.proofs.Common.{◌≡◌, ℕ, ◌+◌, ◌<◌, ◌≤◌, ◌==◌, ◌&&◌, ◌||◌, not, nat_le, nat_lt, get_or, Bool, true, false, cond, List, [], ◌∷◌, length, map, take, refl, sym, ap, ◌∙◌, subst, arith, true≢false, inl, inr, le_trans}
use Rattle.std.specs.Prelude.{slice_index_or, slice_set}
use Rattle.std.proofs.lemmas.Bool.{and_from, and_parts, cases_eq}
use Rattle.std.proofs.lemmas.Bool.Decides.{nat_tests}
use Rattle.std.proofs.lemmas.List.{get_or-set_same, get_or-set_other, length-set}
use Rattle.std.proofs.lemmas.List.FromFn.{get_or-map-range_with_len}
use Rattle.tetri_base.specs.Lists.{sum_of, has, Each, EachPair}
use Rattle.tetri_space.specs.Free.{is_closed, is_free, is_idle}
use Rattle.tetri_space.specs.Partitions.{part_at}
use Rattle.tetri_space.specs.Space.{Space}
use Rattle.tetri_space.proofs.InstanceLaws.{filter-same}
use Rattle.tetri_base.proofs.ListLaws.{Each-map, has-filter, sum_of-append, test_from_eq, test_from_ne}
use Rattle.tetri_compile.specs.declared.outline.Tally.{Tally}
use Rattle.tetri_compile.specs.Sizes.{covers}
use Rattle.tetri_assign.specs.Assigned.{Piece, is_taken, spare, piece, pieces, held, all_held}
use Rattle.tetri_assign.specs.steps.Taking.{NEVER, back_at, backs, ready, hold, want_of, taken_from}
use Rattle.tetri_assign.specs.declared.held.Held.{Held}
use Rattle.tetri_assign.proofs.LawfulFacts.{free_if_idle, idle_of_free}
use Rattle.tetri_assign.proofs.Pieces.{has-take, has_own}
use Rattle.tetri_assign.proofs.Turns.{StartsFirst}

-- ---- holding nodes
pub length-hold : (back : List ℕ) (slot : ℕ) (ns : List ℕ) → length (hold back slot ns) ≡ length back
length-hold back slot [] = refl
length-hold back slot (n ∷ ns) = length-hold (slice_set back n slot) slot ns ∙ length-set back n slot

get_or-set : (back : List ℕ) (m slot n : ℕ) → n < length back → get_or (slice_set back m slot) n 0 ≡ cond (m == n) slot (get_or back n 0)
get_or-set back m slot n lt =
    elim (cases_eq m n) [
      | inl e ↦
          ap (λ k. get_or (slice_set back k slot) n 0) e ∙ get_or-set_same back n slot 0 lt ∙ sym (ap (λ b. cond b slot (get_or back n 0)) (test_from_eq m n e))
      | inr ne ↦
          get_or-set_other back m n slot 0 (λ e. absurd (ne (sym e))) ∙ sym (ap (λ b. cond b slot (get_or back n 0)) (test_from_ne m n ne))
    ]

pub get_or-hold : (back : List ℕ) (slot : ℕ) (ns : List ℕ) (n : ℕ) → n < length back → get_or (hold back slot ns) n 0 ≡ cond (has ns n) slot (get_or back n 0)
get_or-hold back slot [] n lt = refl
get_or-hold back slot (m ∷ ns) n lt =
    get_or-hold (slice_set back m slot) slot ns n (subst (λ (k : ℕ). n < k) (sym (length-set back m slot)) lt)
    ∙ ap (λ k. cond (has ns n) slot k) (get_or-set back m slot n lt) ∙ by_tests (m == n) (has ns n)
  where
    by_tests : (b c : Bool) → cond c slot (cond b slot (get_or back n 0)) ≡ cond (b || c) slot (get_or back n 0)
    by_tests true true = refl
    by_tests true false = refl
    by_tests false c = refl

-- ---- which nodes are spare
-- from the slot `from` on, a node may be used exactly where it is idle and no piece holds it
abbrev pub IsBack : Space → List Piece → List ℕ → ℕ → Type 0
IsBack s ps back from =
    (n : ℕ) → n < s.nodes → (u : ℕ) → from ≤ u → u < NEVER → nat_le (get_or back n 0) u ≡ (is_idle s n u && not (is_taken ps u n))

pub first_backs : (s : Space) (from : ℕ) → IsBack s [] (backs s) from
first_backs s from n lt u le early =
    let there : get_or (backs s) n 0 ≡ back_at s n = get_or-map-range_with_len (back_at s) 0 s.nodes n n 0 lt (omega arith) in
    ap (λ k. nat_le k u) there ∙ by_mark (slice_index_or s.drained n true) (slice_index_or s.busy_until n 0)
  where
    below : nat_lt n s.nodes ≡ true
    below = lt_test n s.nodes lt
      where
        lt_test : (a b : ℕ) → a < b → nat_lt a b ≡ true
        lt_test a b h = grind (arith, nat_tests)

    never : nat_le NEVER u ≡ false
    never = late NEVER u early
      where
        late : (a b : ℕ) → b < a → nat_le a b ≡ false
        late a b h = grind (arith, nat_tests)

    by_mark : (d : Bool) (b : ℕ) → nat_le (cond d NEVER b) u ≡ (((nat_lt n s.nodes && not d) && nat_le b u) && true)
    by_mark true b = never ∙ sym (ap (λ (t : Bool). ((t && false) && nat_le b u) && true) below)
    by_mark false b = and_true (nat_le b u) ∙ sym (ap (λ (t : Bool). ((t && true) && nat_le b u) && true) below)
      where
        and_true : (t : Bool) → t ≡ (t && true)
        and_true true = refl
        and_true false = refl

module _ (s : Space) (parts : List (List ℕ)) (x : ℕ → ℕ) (there : (p n : ℕ) → has (part_at parts p) n ≡ true → n < s.nodes) where
  -- no node of the count's partition is closed at its start
  abbrev pub IsOpenAt : Tally → Type 0
  IsOpenAt c = (n : ℕ) → has (part_at parts c.part) n ≡ true → is_closed s n c.leaf.start ≡ false

  -- what is ready is spare
  pub ready_spare : (ps : List Piece) (back : List ℕ) (from : ℕ) (c : Tally) → IsBack s ps back from → from ≤ c.leaf.start → c.leaf.start < NEVER → IsOpenAt c →
      ready back c.leaf.start (x c.column) (part_at parts c.part) ≡ (piece s parts x ps c).nodes
  ready_spare ps back from c is le early opened =
      ap (take (x c.column))
      (filter-same (λ n. nat_le (get_or back n 0) c.leaf.start) (λ n. is_free s n c.leaf.start && not (is_taken ps c.leaf.start n)) (part_at parts c.part)
      (Each-map (λ n. has (part_at parts c.part) n ≡ true) (λ n. nat_le (get_or back n 0) c.leaf.start ≡ (is_free s n c.leaf.start && not (is_taken ps c.leaf.start n)))
      (λ n e. is n (there c.part n e) c.leaf.start le early ∙ ap (λ b. b && not (is_taken ps c.leaf.start n)) (sym (free_if_idle s n c.leaf.start (opened n e)))) (part_at parts c.part) (has_own (part_at parts c.part))))

  -- a piece's nodes were idle, and no piece held them
  spare_at : (ps : List Piece) (c : Tally) (n : ℕ) → has (piece s parts x ps c).nodes n ≡ true → (is_idle s n c.leaf.start && not (is_taken ps c.leaf.start n)) ≡ true
  spare_at ps c n e =
      let p = λ (m : ℕ). is_free s m c.leaf.start && not (is_taken ps c.leaf.start m) in
      let passed = (and_parts (has (part_at parts c.part) n) (p n) (sym (has-filter p (part_at parts c.part) n) ∙ has-take (x c.column) (spare s parts x ps c) n e)).1 in
      let both = and_parts (is_free s n c.leaf.start) (not (is_taken ps c.leaf.start n)) passed in
      and_from (is_idle s n c.leaf.start) (not (is_taken ps c.leaf.start n)) (idle_of_free s n c.leaf.start both.0) both.1

  pub next_backs : (ps : List Piece) (back : List ℕ) (from : ℕ) (c : Tally) → length back ≡ s.nodes → IsBack s ps back from → from ≤ c.leaf.start → c.leaf.start < NEVER →
      IsBack s (piece s parts x ps c ∷ ps) (hold back (c.leaf.start + c.leaf.dur) (piece s parts x ps c).nodes) c.leaf.start
  next_backs ps back from c long is le early n lt u low high =
      let ns = (piece s parts x ps c).nodes in
      let end = c.leaf.start + c.leaf.dur in
      let inside : n < length back = subst (λ (k : ℕ). n < k) (sym long) lt in
      ap (λ k. nat_le k u) (get_or-hold back end ns n inside) ∙ by_test (has ns n) refl
    where
      ends : ℕ
      ends = c.leaf.start + c.leaf.dur

      now_at : nat_le (get_or back n 0) u ≡ (is_idle s n u && not (is_taken ps u n))
      now_at = is n lt u (le_trans le low) high

      covers_till : (a e t : ℕ) → a ≤ t → nat_le e t ≡ not (nat_le a t && nat_lt t e)
      covers_till a e t h = grind (arith, nat_tests)

      held_until : (f k : Bool) → (f && not k) ≡ true → (b : Bool) → not b ≡ (f && not ((b && true) || k))
      held_until true false e true = refl
      held_until true false e false = refl
      held_until true true e b = absurd (true≢false (sym e))
      held_until false k e b = absurd (true≢false (sym e))

      other : (f k b : Bool) → (f && not k) ≡ (f && not ((b && false) || k))
      other f k true = refl
      other f k false = refl

      later_le : (b t v : ℕ) → nat_le b t ≡ true → t ≤ v → nat_le b v ≡ true
      later_le b t v e h = grind (arith, nat_tests)

      by_test : (b : Bool) → has (piece s parts x ps c).nodes n ≡ b →
          nat_le (cond b ends (get_or back n 0)) u ≡ (is_idle s n u && not ((covers c.leaf u && has (piece s parts x ps c).nodes n) || is_taken ps u n))
      by_test true e =
          let was : nat_le (get_or back n 0) c.leaf.start ≡ true = is n lt c.leaf.start le early ∙ spare_at ps c n e in
          let still : (is_idle s n u && not (is_taken ps u n)) ≡ true = sym now_at ∙ later_le (get_or back n 0) c.leaf.start u was low in
          covers_till c.leaf.start ends u low ∙ held_until (is_idle s n u) (is_taken ps u n) still (covers c.leaf u)
          ∙ ap (λ (t : Bool). is_idle s n u && not ((covers c.leaf u && t) || is_taken ps u n)) (sym e)
      by_test false e = now_at ∙ other (is_idle s n u) (is_taken ps u n) (covers c.leaf u) ∙ ap (λ (t : Bool). is_idle s n u && not ((covers c.leaf u && t) || is_taken ps u n)) (sym e)

  -- what the wants take is what the pieces hold
  pub taken_sum : (f : Held → ℕ) (cs : List Tally) (ps : List Piece) (back : List ℕ) (from : ℕ) → length back ≡ s.nodes → IsBack s ps back from →
      Each (λ c. from ≤ c.leaf.start) cs → EachPair StartsFirst cs → Each (λ c. c.leaf.start < NEVER) cs → Each IsOpenAt cs →
      sum_of f (taken_from parts back (map (want_of x) cs)) + sum_of f (all_held ps) ≡ sum_of f (all_held (pieces s parts x ps cs))
  taken_sum f [] ps back from long is le turn early opened = omega arith
  taken_sum f (c ∷ cs) ps back from long is le turn early opened =
      let end = c.leaf.start + c.leaf.dur in
      let ns = (piece s parts x ps c).nodes in
      let rest = taken_sum f cs (piece s parts x ps c ∷ ps) (hold back end ns) c.leaf.start (length-hold back end ns ∙ long)
      (next_backs ps back from c long is le.0 early.0) turn.0 turn.1 early.1 opened.1 in
      let same = ready_spare ps back from c is le.0 early.0 opened.0 in
      let got = sum_of-append f (map (held c) ns) (taken_from parts (hold back end ns) (map (want_of x) cs)) in
      let more = sum_of-append f (map (held c) ns) (all_held ps) in
      rw same (omega (arith, rest, got, more))

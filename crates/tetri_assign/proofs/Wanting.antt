-- The wants of counts, in the order of their turns.
use Rattle.std.proofs.Common.{◌≡◌, ℕ, zero, suc, ◌+◌, ◌<◌, ◌≤◌, ◌==◌, ◌&&◌, ◌||◌, nat_lt, get_or, Bool, true, false, cond, List, [], ◌∷◌, length, map, filter, Option, Some, refl, sym, ap, ◌∙◌, arith}
use Rattle.std.specs.List.{filter_map}
use Rattle.std.specs.List.Sorted.{IsPermutation}
use Rattle.std.specs.Option.{option_map}
use Rattle.std.specs.Ordering.{is_lt, nat_cmp, ordering_then}
use Rattle.std.proofs.lemmas.Bool.Decides.{nat_tests}
use lib.IntN.{ℤ}
use Rattle.tetri_base.specs.Lists.{sum_of, Each, EachPair}
use Rattle.tetri_space.specs.Space.{Bid, leaf_in}
use Rattle.tetri_base.proofs.ListLaws.{sum_of-map}
use Rattle.tetri_compile.specs.declared.outline.Tally.{Tally}
use Rattle.tetri_compile.specs.declared.taking.Taken.{Taken}
use Rattle.tetri_compile.specs.Counting.{taken, taken_at}
use Rattle.tetri_compile.specs.Flat.{count_of}
use Rattle.tetri_assign.specs.Assigned.{count_at, held_before, turn_before}
use Rattle.tetri_base.specs.Order.{in_order, by_then}
use Rattle.tetri_assign.specs.steps.Taking.{want, want_of, wants_from}
use Rattle.tetri_assign.specs.declared.held.Held.{Held}
use Rattle.tetri_assign.specs.declared.wants.Want.{Want}
use Rattle.tetri_assign.proofs.HeldLemmas.{held_order, same_held}
use Rattle.tetri_base.proofs.OrderLaws.{EachPair-in_order, in_order-rises, IsOrder, NotAfter, order_by, order_then, sorted_is, sum_of-in_order, test_last, test_then, tied_first, tied_last, tied_rest}
use Rattle.tetri_assign.proofs.Turns.{turn_order}

-- ---- what counts above 0 want
module _ (bids : List Bid) (point : List ℤ) where
  abbrev IsOffered : Tally → Type 0
  IsOffered c = leaf_in bids c.job c.leaf.num ≡ Some c.leaf

  abbrev wanted : Taken → Option Want
  wanted t = option_map (want t.job t.part t.nodes) (leaf_in bids t.job t.leaf)

  kept_some : (t : Taken) (w : Want) (ts : List Taken) → wanted t ≡ Some w → filter_map wanted (t ∷ ts) ≡ w ∷ filter_map wanted ts
  kept_some t w ts e = rw e refl

  pub wants_are : (cs : List Tally) → Each IsOffered cs →
      wants_from bids (taken_at point (map count_of cs)) ≡ map (want_of (count_at point)) (filter (λ c. nat_lt 0 (count_at point c.column)) cs)
  wants_are [] h = refl
  wants_are (c ∷ cs) h = by_count (count_at point c.column) refl (wants_are cs h.1)
    where
      rest : List Taken
      rest = taken_at point (map count_of cs)

      kept : List Tally
      kept = filter (λ (d : Tally). nat_lt 0 (count_at point d.column)) cs

      some : (n : ℕ) → wanted (taken (count_of c) n) ≡ Some (want c.job c.part n c.leaf)
      some n = ap (option_map (want c.job c.part n)) h.0

      by_count : (n : ℕ) → count_at point c.column ≡ n → wants_from bids rest ≡ map (want_of (count_at point)) kept →
          wants_from bids (cond (n == 0) rest (taken (count_of c) n ∷ rest)) ≡ map (want_of (count_at point)) (cond (nat_lt 0 n) (c ∷ kept) kept)
      by_count zero e r = r
      by_count (suc n) e r =
          ap (λ (b : Bool). wants_from bids (cond b rest (taken (count_of c) (suc n) ∷ rest))) (not_none n)
          ∙ kept_some (taken (count_of c) (suc n)) (want c.job c.part (suc n) c.leaf) rest (some (suc n))
          ∙ ap (λ ws. want c.job c.part (suc n) c.leaf ∷ ws) r
          ∙ ap (λ m. want c.job c.part m c.leaf ∷ map (want_of (count_at point)) kept) (sym e)
          ∙ sym (ap (λ (b : Bool). map (want_of (count_at point)) (cond b (c ∷ kept) kept)) (above n))
        where
          not_none : (m : ℕ) → (suc m == 0) ≡ false
          not_none m = grind (arith, nat_tests)

          above : (m : ℕ) → nat_lt 0 (suc m) ≡ true
          above m = grind (arith, nat_tests)

-- ---- the order of wants
abbrev pub want_before : Want → Want → Bool
want_before =
    by_then (λ w. w.start) (by_then (λ w. w.job) (by_then (λ w. w.leaf) (by_then (λ w. w.part) (by_then (λ w. w.nodes) (λ v w. nat_lt v.end w.end)))))

pub want_order : IsOrder want_before
want_order =
    order_then (λ (w : Want). w.start) _
    (order_then (λ (w : Want). w.job) _
    (order_then (λ (w : Want). w.leaf) _
    (order_then (λ (w : Want). w.part) _
    (order_then (λ (w : Want). w.nodes) _ (order_by (λ (w : Want). w.end))))))

same_parts : (v w : Want) → v.start ≡ w.start → v.job ≡ w.job → v.leaf ≡ w.leaf → v.part ≡ w.part → v.nodes ≡ w.nodes → v.end ≡ w.end → v ≡ w
same_parts v w a b c d e f =
    let made : ℕ → ℕ → ℕ → ℕ → ℕ → ℕ → Want = λ s j l p n t. record { start = s; job = j; leaf = l; part = p; nodes = n; end = t } in
    ap (λ s. made s v.job v.leaf v.part v.nodes v.end) a ∙ ap (λ j. made w.start j v.leaf v.part v.nodes v.end) b
    ∙ ap (λ l. made w.start w.job l v.part v.nodes v.end) c ∙ ap (λ p. made w.start w.job w.leaf p v.nodes v.end) d
    ∙ ap (λ n. made w.start w.job w.leaf w.part n v.end) e ∙ ap (λ t. made w.start w.job w.leaf w.part w.nodes t) f

-- each pair of tests without the first number, where that is the same
module _ {X : Type 0} (f : X → ℕ) (rest : X → X → Bool) (v w : X) (p : by_then f rest w v ≡ false) (q : by_then f rest v w ≡ false) where
  first_same : f v ≡ f w
  first_same = tied_first (f v) (f w) (rest v w) (rest w v) p q

  rest_from : rest w v ≡ false
  rest_from = tied_rest (f w) (f v) (rest w v) (sym first_same) p

  rest_to : rest v w ≡ false
  rest_to = tied_rest (f v) (f w) (rest v w) first_same q

pub same_want : (v w : Want) → NotAfter want_before v w → NotAfter want_before w v → v ≡ w
same_want v w p q =
    let B5 : Want → Want → Bool = λ a b. nat_lt a.end b.end in
    let B4 : Want → Want → Bool = by_then (λ (a : Want). a.nodes) B5 in
    let B3 : Want → Want → Bool = by_then (λ (a : Want). a.part) B4 in
    let B2 : Want → Want → Bool = by_then (λ (a : Want). a.leaf) B3 in
    let B1 : Want → Want → Bool = by_then (λ (a : Want). a.job) B2 in
    let p1 = rest_from (λ (a : Want). a.start) B1 v w p q in
    let q1 = rest_to (λ (a : Want). a.start) B1 v w p q in
    let p2 = rest_from (λ (a : Want). a.job) B2 v w p1 q1 in
    let q2 = rest_to (λ (a : Want). a.job) B2 v w p1 q1 in
    let p3 = rest_from (λ (a : Want). a.leaf) B3 v w p2 q2 in
    let q3 = rest_to (λ (a : Want). a.leaf) B3 v w p2 q2 in
    let p4 = rest_from (λ (a : Want). a.part) B4 v w p3 q3 in
    let q4 = rest_to (λ (a : Want). a.part) B4 v w p3 q3 in
    let p5 = rest_from (λ (a : Want). a.nodes) B5 v w p4 q4 in
    let q5 = rest_to (λ (a : Want). a.nodes) B5 v w p4 q4 in
    same_parts v w
    (first_same (λ (a : Want). a.start) B1 v w p q) (first_same (λ (a : Want). a.job) B2 v w p1 q1) (first_same (λ (a : Want). a.leaf) B3 v w p2 q2)
    (first_same (λ (a : Want). a.part) B4 v w p3 q3) (first_same (λ (a : Want). a.nodes) B5 v w p4 q4) (tied_last v.end w.end p5 q5)

-- the comparison of wants, as the sort has it
abbrev pub want_test : Want → Want → Bool
want_test v w =
    is_lt (ordering_then (nat_cmp v.start w.start) (ordering_then (nat_cmp v.job w.job) (ordering_then (nat_cmp v.leaf w.leaf)
    (ordering_then (nat_cmp v.part w.part) (ordering_then (nat_cmp v.nodes w.nodes) (nat_cmp v.end w.end))))))

pub want_test_is : (v w : Want) → want_test v w ≡ want_before v w
want_test_is v w =
    test_then v.start w.start _ _ (test_then v.job w.job _ _ (test_then v.leaf w.leaf _ _ (test_then v.part w.part _ _ (test_then v.nodes w.nodes _ _ (test_last v.end w.end)))))

-- ---- counts in their turn are wants in order
abbrev pub IsOtherCount : Tally → Tally → Type 0
IsOtherCount c d = c.job ≡ d.job → c.leaf.num ≡ d.leaf.num → c.part ≡ d.part → ⊥

module _ (x : ℕ → ℕ) where
  turn_wants : (c d : Tally) → NotAfter turn_before c d → IsOtherCount c d → NotAfter want_before (want_of x c) (want_of x d)
  turn_wants c d e other = by_keys c.leaf.start d.leaf.start c.job d.job c.leaf.num d.leaf.num c.part d.part _ e other
    where
      by_keys : (s t j k l m p q : ℕ) (b : Bool) →
          (nat_lt t s || (t == s && (nat_lt k j || (k == j && (nat_lt m l || (m == l && nat_lt q p)))))) ≡ false →
          (j ≡ k → l ≡ m → p ≡ q → ⊥) →
          (nat_lt t s || (t == s && (nat_lt k j || (k == j && (nat_lt m l || (m == l && (nat_lt q p || (q == p && b)))))))) ≡ false
      by_keys s t j k l m p q false e other = grind (arith, nat_tests)
      by_keys s t j k l m p q true e other = grind (arith, nat_tests)

  map_rises : (cs : List Tally) → EachPair (λ c d. NotAfter want_before (want_of x c) (want_of x d)) cs → EachPair (NotAfter want_before) (map (want_of x) cs)
  map_rises [] h = tt
  map_rises (c ∷ cs) h = (each cs h.0, map_rises cs h.1)
    where
      each : (ds : List Tally) → Each (λ d. NotAfter want_before (want_of x c) (want_of x d)) ds → Each (NotAfter want_before (want_of x c)) (map (want_of x) ds)
      each [] k = tt
      each (d ∷ ds) k = (k.0, each ds k.1)

  both_pairs : (cs : List Tally) → EachPair (NotAfter turn_before) cs → EachPair IsOtherCount cs → EachPair (λ c d. NotAfter want_before (want_of x c) (want_of x d)) cs
  both_pairs [] p q = tt
  both_pairs (c ∷ cs) p q = (each cs p.0 q.0, both_pairs cs p.1 q.1)
    where
      each : (ds : List Tally) → Each (NotAfter turn_before c) ds → Each (IsOtherCount c) ds → Each (λ d. NotAfter want_before (want_of x c) (want_of x d)) ds
      each [] a b = tt
      each (d ∷ ds) a b = (turn_wants c d a.0 b.0, each ds a.1 b.1)

  pub sorted_wants : (cs : List Tally) → EachPair IsOtherCount cs → (ws : List Want) → IsPermutation (map (want_of x) cs) ws →
      ((k : ℕ) (d : Want) → 0 ≤ k → k + 1 < length ws → want_test (get_or ws (k + 1) d) (get_or ws k d) ≡ false) →
      ws ≡ map (want_of x) (in_order turn_before cs)
  sorted_wants cs other ws moved sorts =
      sorted_is want_before want_order same_want (map (want_of x) cs) ws (map (want_of x) (in_order turn_before cs)) moved
      (λ k d low lt. sym (want_test_is (get_or ws (k + 1) d) (get_or ws k d)) ∙ sorts k d low lt)
      (map_rises (in_order turn_before cs)
      (both_pairs (in_order turn_before cs) (in_order-rises turn_before turn_order cs)
      (EachPair-in_order turn_before IsOtherCount (λ c d h p q r. h (sym p) (sym q) (sym r)) cs other)))
      (λ f. sum_of-map f (want_of x) cs ∙ sym (sum_of-map f (want_of x) (in_order turn_before cs) ∙ sum_of-in_order turn_before (λ c. f (want_of x c)) cs))

-- ---- what was taken, in order
abbrev pub held_test : Held → Held → Bool
held_test a b = is_lt (ordering_then (nat_cmp a.job b.job) (ordering_then (nat_cmp a.leaf b.leaf) (nat_cmp a.node b.node)))

held_test_is : (a b : Held) → held_test a b ≡ held_before a b
held_test_is a b = test_then a.job b.job _ _ (test_then a.leaf b.leaf _ _ (test_last a.node b.node))

pub sorted_held : (hs ks ls : List Held) → IsPermutation hs ks →
    ((k : ℕ) (d : Held) → 0 ≤ k → k + 1 < length ks → held_test (get_or ks (k + 1) d) (get_or ks k d) ≡ false) →
    ((f : Held → ℕ) → sum_of f hs ≡ sum_of f ls) → ks ≡ in_order held_before ls
sorted_held hs ks ls moved sorts sums =
    sorted_is held_before held_order same_held hs ks (in_order held_before ls) moved
    (λ k d low lt. sym (held_test_is (get_or ks (k + 1) d) (get_or ks k d)) ∙ sorts k d low lt)
    (in_order-rises held_before held_order ls)
    (λ f. sums f ∙ sym (sum_of-in_order held_before f ls))

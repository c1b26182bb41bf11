-- The groups of nodes by signature are the partitions.
use Rattle.std.proofs.Common.{◌≡◌, ◌⊎◌, ℕ, zero, suc, ◌+◌, ◌-◌, ◌<◌, ◌≤◌, ◌==◌, ◌&&◌, ◌||◌, not, Bool, true, false, cond, List, [], ◌∷◌, ◌++◌, length, map, get_or, All, Contains, Vec, Global, bytes_eq, slice_index_or, refl, sym, ap, ◌∙◌, subst, arith, true≢false, inl, inr, ⊎_elim}
use Rattle.std.specs.Prelude.{nat_lt}
use Rattle.std.specs.Bool.{one_answer}
use Rattle.std.specs.List.{list_any, list_all, filter, range_with_len}
use Rattle.std.specs.List.Sorted.{IsStrictlyIncreasing}
use Rattle.std.proofs.lemmas.Bool.{and_parts, and_from, or_cases, cases_Bool, cases_lt}
use Rattle.std.proofs.lemmas.Bool.Decides.{nat_tests}
use Rattle.std.proofs.lemmas.List.{append_cancel_left, length-map, get_or-map, get_or_default}
use Rattle.std.proofs.lemmas.List.Elements.{All-contains, Contains-append_cases}
use Rattle.std.proofs.lemmas.List.Folds.{list_any-append, list_all-append}
use Rattle.std.proofs.lemmas.List.FromFn.{length-range_with_len, get_or-range_with_len}
use Rattle.std.proofs.lemmas.List.Kept.{AllPairs-from_increasing, IsStrictlyIncreasing-filter}
use Rattle.std.proofs.lemmas.Slice.Eq.{bytes_eq-Decides}
use Rattle.tetri_strl.specs.declared.expr.Leaf.{Leaf}
use Rattle.tetri_strl.specs.Tree.{leaves}
use Rattle.tetri_space.specs.Closed.{AreTurns, is_odd_at}
use Rattle.tetri_space.specs.Free.{is_closed}
use Rattle.tetri_space.specs.steps.Finding.{AreSignatures, IsSigned, has_some, is_first, firsts, grouped}
use Rattle.tetri_base.specs.Lists.{has, same, list_at}
use Rattle.tetri_space.specs.Partitions.{live_bids, sets_in, asked, alike, leads, closed_sets, partitions, set_at, part_at, parts_in}
use Rattle.tetri_space.specs.Sound.{IsSound, IsSoundBid, HasKnownSet}
use Rattle.tetri_space.specs.Space.{Bid, Space}
use Rattle.tetri_space.proofs.GroupLemmas.{filter-same, map-same, range_next}
use Rattle.tetri_base.proofs.ListLaws.{Each-filter, Each-passed, Each-across, Each-at, Each-from, EachPair-append, EachPair-from, all_from, from_all, any_from, none_from, has-filter, has-range, range_from, test_from_eq, test_from_ne}
use Rattle.tetri_space.proofs.ClosedLemmas.{closed_from_marks, marks_from_closed}
use Rattle.tetri_space.proofs.MemberLemmas.{any_same, contains_from, has_from, of_map}
use Rattle.tetri_space.proofs.PartitionLemmas.{same-true, true-same}
use Rattle.tetri_space.proofs.SpanLemmas.{each_of, rises}
use Rattle.tetri_space.proofs.TurnLemmas.{same_turns}
use Rattle.tetri_space.proofs.PrunedLemmas.{AllLeavesOf, lefts_leaves, in_map}

-- ---- the sets of the live leaves are known
-- a leaf that names the set
record Names (bs : List Bid) (k : ℕ) : Type 0 where
  bid : Bid
  among : Contains bs bid
  leaf : Leaf
  below : Contains (leaves bid.expr) leaf
  set : leaf.set ≡ k

names_of : (bs : List Bid) (k : ℕ) → Contains (sets_in bs) k → Names bs k
names_of [] k at = absurd (omega (arith, at.1))
names_of (b ∷ bs) k at =
    ⊎_elim
    (λ h. let l = of_map (λ (m : Leaf). m.set) (leaves b.expr) k h in record { bid = b; among = (0, omega arith, refl); leaf = l.0; below = l.1; set = l.2 })
    (λ h. let n = names_of bs k h in record { bid = n.bid; among = (suc n.among.0, omega (arith, n.among.1), n.among.2); leaf = n.leaf; below = n.below; set = n.set })
    (Contains-append_cases (map (λ (m : Leaf). m.set) (leaves b.expr)) (sets_in bs) k at)

-- what is known of the set
record IsKnown (s : Space) (k : ℕ) : Type 0 where
  within : k < length s.sets
  there : All (λ n. n < s.nodes) (set_at s k)

known_set : (s : Space) (k : ℕ) → IsSound s → Contains (sets_in (live_bids s)) k → IsKnown s k
known_set s k sound at = from_leaf (names_of (live_bids s) k at)
  where
    from_leaf : Names (live_bids s) k → IsKnown s k
    from_leaf n =
        let h = Each-at (AllLeavesOf s.now (s.now + s.window) s.bids) (live_bids s) n.bid (lefts_leaves s.now (s.now + s.window) s.bids) n.among n.leaf n.below in
        let known = All-contains (HasKnownSet s) (leaves h.bid.expr) n.leaf (All-contains (IsSoundBid s) s.bids h.bid sound.sound_bids h.among).known_sets h.below in
        record { within = subst (λ j. j < length s.sets) n.set known.known; there = subst (λ j. All (λ m. m < s.nodes) (set_at s j)) n.set known.there }

all_from_contains : {X : Type 0} (P : X → Type 0) (xs : List X) → ((x : X) → Contains xs x → P x) → All P xs
all_from_contains P xs f k d lt = f (get_or xs k d) (k, lt, get_or_default xs k (get_or xs k d) d lt)

pub live_within : (s : Space) → IsSound s → All (λ k. k < length s.sets) (sets_in (live_bids s))
live_within s sound = all_from_contains (λ k. k < length s.sets) (sets_in (live_bids s)) (λ k at. (known_set s k sound at).within)

pub live_there : (s : Space) (k : ℕ) → IsSound s → has (sets_in (live_bids s)) k ≡ true → All (λ n. n < s.nodes) (set_at s k)
live_there s k sound e = (known_set s k sound (contains_from (sets_in (live_bids s)) k e)).there

-- ---- tests over nodes below one
-- whether one of the numbers below n passes, among more numbers
any_below : (q : ℕ → Bool) (n m : ℕ) → n ≤ m → list_any (λ k. nat_lt k n && q k) (range_with_len 0 m) ≡ list_any q (range_with_len 0 n)
any_below q n zero le = let e : n ≡ 0 = omega arith in rw e refl
any_below q n (suc m) le = ⊎_elim (λ lt. further (omega arith) (any_below q n m (omega arith))) (λ ge. last (omega arith)) (cases_lt n (suc m))
  where
    below_test : (k j : ℕ) → k < j → nat_lt k j ≡ true
    below_test k j lt = grind (arith, nat_tests)

    above_test : (k j : ℕ) → j ≤ k → nat_lt k j ≡ false
    above_test k j le = grind (arith, nat_tests)

    or_false : (b : Bool) → (b || false) ≡ b
    or_false true = refl
    or_false false = refl

    further : n ≤ m → list_any (λ k. nat_lt k n && q k) (range_with_len 0 m) ≡ list_any q (range_with_len 0 n) →
        list_any (λ k. nat_lt k n && q k) (range_with_len 0 (suc m)) ≡ list_any q (range_with_len 0 n)
    further short rest =
        ap (list_any (λ k. nat_lt k n && q k)) (range_next m) ∙ list_any-append (λ k. nat_lt k n && q k) (range_with_len 0 m) (m ∷ [])
        ∙ ap (λ b. list_any (λ k. nat_lt k n && q k) (range_with_len 0 m) || ((b && q m) || false)) (above_test m n short)
        ∙ or_false (list_any (λ k. nat_lt k n && q k) (range_with_len 0 m)) ∙ rest

    last : n ≡ suc m → list_any (λ k. nat_lt k n && q k) (range_with_len 0 (suc m)) ≡ list_any q (range_with_len 0 n)
    last e =
        any_same (λ k. nat_lt k n && q k) q (range_with_len 0 (suc m))
        (range_from (λ k. (nat_lt k n && q k) ≡ q k) 0 (suc m) (λ k low high. ap (λ b. b && q k) (below_test k n (omega (arith, high, e)))))
        ∙ ap (λ j. list_any q (range_with_len 0 j)) (sym e)

pub filter_shorter : {X : Type 0} (p : X → Bool) (xs : List X) → length (filter p xs) ≤ length xs
filter_shorter p [] = omega arith
filter_shorter p (x ∷ xs) = by_test (p x) (filter_shorter p xs)
  where
    by_test : (b : Bool) → length (filter p xs) ≤ length xs → length (cond b (x ∷ filter p xs) (filter p xs)) ≤ suc (length xs)
    by_test true le = omega arith
    by_test false le = omega arith

pub rise_at : (vs : List (Vec ℕ Global)) (k : ℕ) → All (λ (v : Vec ℕ Global). IsStrictlyIncreasing v.items) vs → k < length vs → IsStrictlyIncreasing (list_at vs k)
rise_at [] k h lt = absurd (omega arith)
rise_at (v ∷ vs) k h lt = subst IsStrictlyIncreasing (sym (get_or-map (λ (w : Vec ℕ Global). w.items) (v ∷ vs) k v [] lt)) (h k v lt)

pub range_rises : (a n : ℕ) → IsStrictlyIncreasing (range_with_len a n)
range_rises a n k lt =
    let long = length-range_with_len a n in
    omega (arith, get_or-range_with_len a n k 0 (omega (arith, long)), get_or-range_with_len a n (k + 1) 0 (omega (arith, long)))

-- numbers of sets, and turns past them
behind_sets : (base now : ℕ) (ts : List ℕ) (k : ℕ) → All (λ x. base + now ≤ x) ts → k < base → has ts k ≡ false
behind_sets base now ts k late lt =
    none_from (λ x. x == k) ts (Each-from (λ x. (x == k) ≡ false) ts (λ x at. test_from_ne x k (λ e. omega (arith, e, lt, All-contains (λ x. base + now ≤ x) ts x late at))))

-- the sets and then the turns ascend
rises_on : (xs ys : List ℕ) (base : ℕ) → IsStrictlyIncreasing xs → IsStrictlyIncreasing ys → All (λ x. x < base) xs → All (λ y. base ≤ y) ys → IsStrictlyIncreasing (xs ++ ys)
rises_on xs ys base up others_up low high =
    rises (xs ++ ys) (EachPair-append (λ m n. m < n) xs ys (EachPair-from (λ m n. m < n) xs (AllPairs-from_increasing xs up)) (EachPair-from (λ m n. m < n) ys (AllPairs-from_increasing ys others_up))
    (Each-across (λ x. x < base) (λ y. base ≤ y) (λ m n. m < n) (λ x y a b. omega (arith, a, b)) xs ys (each_of (λ x. x < base) xs low) (each_of (λ y. base ≤ y) ys high)))

-- ---- signatures, and the sets that are asked for with the slots in which nodes are closed
module _ (s : Space) (sound : IsSound s) (sigs : List (Vec ℕ Global)) (used : List Bool) (count : length used ≡ length s.sets)
    (marks : (k : ℕ) → slice_index_or used k false ≡ has (sets_in (live_bids s)) k)
    (is : (n : ℕ) → n < s.nodes →
    IsSigned s (length s.sets) n (filter (λ k. slice_index_or used k false && has (set_at s k) n) (range_with_len 0 (length used))) (list_at sigs n)) where
  abbrev asked_sets : List (List ℕ)
  asked_sets = asked s (live_bids s)

  abbrev all_sets : List (List ℕ)
  all_sets = asked_sets ++ closed_sets s

  abbrev sig : ℕ → List ℕ
  sig = list_at sigs

  -- the numbers of the asked sets that a node is in
  abbrev ins : ℕ → List ℕ
  ins n = filter (λ k. slice_index_or used k false && has (set_at s k) n) (range_with_len 0 (length used))

  ins_within : (n : ℕ) → All (λ k. k < length s.sets) (ins n)
  ins_within n =
      all_from_contains (λ k. k < length s.sets) (ins n) (λ k at.
      Each-at (λ j. j < length s.sets) _ k (Each-filter (λ j. j < length s.sets) (λ j. slice_index_or used j false && has (set_at s j) n) (range_with_len 0 (length used))
      (range_from (λ j. j < length s.sets) 0 (length used) (λ j low high. omega (arith, count, high)))) at)

  -- a signature has the sets of its node
  has_set : (k n : ℕ) → k < length s.sets → n < s.nodes → has (sig n) k ≡ has (ins n) k
  has_set k n known lt = by_some (cases_Bool (has_some (ins n)))
    where
      or_false : (b c : Bool) → c ≡ false → (b || c) ≡ b
      or_false true c e = refl
      or_false false c e = e

      by_some : (has_some (ins n) ≡ true) ⊎ (has_some (ins n) ≡ false) → has (sig n) k ≡ has (ins n) k
      by_some (inl some) =
          let ts = (is n lt).some some in
          ap (λ ns. has ns k) ts.1 ∙ list_any-append (λ m. m == k) (ins n) ts.0
          ∙ or_false (has (ins n) k) (has ts.0 k) (behind_sets (length s.sets) s.now ts.0 k ts.2.not_before known)
      by_some (inr none) = ap (λ ns. has ns k) ((is n lt).none none)

  -- a signature is empty exactly where its node is in no asked set
  some_set : (n : ℕ) → n < s.nodes → has_some (sig n) ≡ has_some (ins n)
  some_set n lt = by_some (cases_Bool (has_some (ins n)))
    where
      longer : (xs ys : List ℕ) → has_some xs ≡ true → has_some (xs ++ ys) ≡ true
      longer [] ys e = absurd (true≢false (sym e))
      longer (x ∷ xs) ys e = refl

      by_some : (has_some (ins n) ≡ true) ⊎ (has_some (ins n) ≡ false) → has_some (sig n) ≡ has_some (ins n)
      by_some (inl some) = let ts = (is n lt).some some in ap has_some ts.1 ∙ longer (ins n) ts.0 some ∙ sym some
      by_some (inr none) = ap has_some ((is n lt).none none)

  -- an asked set is in the signatures of its nodes
  in_sig : (k n : ℕ) → Contains (sets_in (live_bids s)) k → n < s.nodes → has (sig n) k ≡ has (set_at s k) n
  in_sig k n at lt =
      has_set k n (known_set s k sound at).within lt
      ∙ has-filter (λ j. slice_index_or used j false && has (set_at s j) n) (range_with_len 0 (length used)) k
      ∙ ap (λ b. b && (slice_index_or used k false && has (set_at s k) n)) (has-range 0 (length used) k (omega arith) (omega (arith, (known_set s k sound at).within, count)))
      ∙ ap (λ b. b && has (set_at s k) n) (marks k ∙ has_from (sets_in (live_bids s)) k at)

  -- what a node is in is an asked set
  of_ins : (k n : ℕ) → has (ins n) k ≡ true → Contains (sets_in (live_bids s)) k × (has (set_at s k) n ≡ true)
  of_ins k n e =
      let all = sym (has-filter (λ j. slice_index_or used j false && has (set_at s j) n) (range_with_len 0 (length used)) k) ∙ e in
      let both = and_parts (slice_index_or used k false) (has (set_at s k) n) (and_parts (has (range_with_len 0 (length used)) k) _ all).1 in
      (contains_from (sets_in (live_bids s)) k (sym (marks k) ∙ both.0), both.1)

  -- nodes in exactly the same asked sets have the same numbers of sets
  same_ins : (m n : ℕ) → alike asked_sets m n ≡ true → ins m ≡ ins n
  same_ins m n e =
      filter-same (λ k. slice_index_or used k false && has (set_at s k) m) (λ k. slice_index_or used k false && has (set_at s k) n) (range_with_len 0 (length used))
      (Each-from _ (range_with_len 0 (length used)) (λ k at. by_used k (slice_index_or used k false) (λ t.
      same-true (has (set_at s k) m) (has (set_at s k) n)
      (Each-at (λ ns. same (has ns m) (has ns n) ≡ true) asked_sets (set_at s k) (from_all (λ ns. same (has ns m) (has ns n)) asked_sets e)
      (in_map (set_at s) (sets_in (live_bids s)) k (contains_from (sets_in (live_bids s)) k (sym (marks k) ∙ t))))) refl))
    where
      by_used : (k : ℕ) (b : Bool) → (b ≡ true → has (set_at s k) m ≡ has (set_at s k) n) → b ≡ b → (b && has (set_at s k) m) ≡ (b && has (set_at s k) n)
      by_used k true f u = f refl
      by_used k false f u = refl

  -- and the other way round, by their signatures
  same_asked : (m n : ℕ) → m < s.nodes → n < s.nodes → sig m ≡ sig n → alike asked_sets m n ≡ true
  same_asked m n lt short e =
      all_from (λ ns. same (has ns m) (has ns n)) asked_sets (Each-from (λ ns. same (has ns m) (has ns n) ≡ true) asked_sets (λ ns at.
      let w = of_map (set_at s) (sets_in (live_bids s)) ns at in
      ap (λ zs. same (has zs m) (has zs n)) (sym w.2)
      ∙ true-same (has (set_at s w.0) m) (has (set_at s w.0) n) (sym (in_sig w.0 m w.1 lt) ∙ ap (λ zs. has zs w.0) e ∙ in_sig w.0 n w.1 short)))

  -- the turns of nodes that are closed in the same slots are the same
  turns_same : (m n : ℕ) (ts us : List ℕ) → AreTurns s.closures m s.now (length s.sets) ts → AreTurns s.closures n s.now (length s.sets) us →
      ((t : ℕ) → s.now ≤ t → is_closed s m t ≡ is_closed s n t) → ts ≡ us
  turns_same m n ts us h j closed =
      let base = length s.sets in
      same_turns (base + s.now) ts us
      (EachPair-from (λ x y. x < y) ts (AllPairs-from_increasing ts h.rising)) (EachPair-from (λ x y. x < y) us (AllPairs-from_increasing us j.rising))
      (each_of (λ x. base + s.now ≤ x) ts h.not_before) (each_of (λ x. base + s.now ≤ x) us j.not_before)
      (λ t low.
      let at : base + (t - base) ≡ t = omega arith in
      ap (is_odd_at ts) (sym at) ∙ h.closed (t - base) (omega arith) ∙ closed (t - base) (omega arith) ∙ sym (j.closed (t - base) (omega arith)) ∙ ap (is_odd_at us) at)

  -- nodes in exactly the same asked sets that are closed in the same slots have one signature
  sig_from_alike : (m n : ℕ) → m < s.nodes → n < s.nodes → alike all_sets m n ≡ true → sig m ≡ sig n
  sig_from_alike m n lt short e =
      let both = and_parts (alike asked_sets m n) (alike (closed_sets s) m n) (sym (list_all-append (λ ns. same (has ns m) (has ns n)) asked_sets (closed_sets s)) ∙ e) in
      by_some (same_ins m n both.0) (closed_from_marks s m n lt short both.1) (cases_Bool (has_some (ins m)))
    where
      by_some : ins m ≡ ins n → ((t : ℕ) → s.now ≤ t → is_closed s m t ≡ is_closed s n t) → (has_some (ins m) ≡ true) ⊎ (has_some (ins m) ≡ false) → sig m ≡ sig n
      by_some sets closed (inl some) =
          let a = (is m lt).some some in
          let b = (is n short).some (sym (ap has_some sets) ∙ some) in
          a.1 ∙ ap (λ xs. xs ++ a.0) sets ∙ ap (λ ys. ins n ++ ys) (turns_same m n a.0 b.0 a.2 b.2 closed) ∙ sym b.1
      by_some sets closed (inr none) = (is m lt).none none ∙ sets ∙ sym ((is n short).none (sym (ap has_some sets) ∙ none))

  alike_from_sig : (m n : ℕ) → m < s.nodes → n < s.nodes → has_some (sig n) ≡ true → sig m ≡ sig n → alike all_sets m n ≡ true
  alike_from_sig m n lt short some e =
      let one = same_asked m n lt short e in
      let sets = same_ins m n one in
      let b = (is n short).some (sym (some_set n short) ∙ some) in
      let a = (is m lt).some (ap has_some sets ∙ sym (some_set n short) ∙ some) in
      let ends : a.0 ≡ b.0 = append_cancel_left (ins n) a.0 b.0 (ap (λ xs. xs ++ a.0) (sym sets) ∙ sym a.1 ∙ e ∙ b.1) in
      list_all-append (λ ns. same (has ns m) (has ns n)) asked_sets (closed_sets s)
      ∙ and_from (alike asked_sets m n) (alike (closed_sets s) m n) one
      (marks_from_closed s m n lt short (λ t low. sym (a.2.closed t low) ∙ ap (λ xs. is_odd_at xs (length s.sets + t)) ends ∙ b.2.closed t low))

  alike_is : (m n : ℕ) → m < s.nodes → n < s.nodes → has_some (sig n) ≡ true → alike all_sets m n ≡ bytes_eq (sig m) (sig n)
  alike_is m n lt short some =
      one_answer {P = sig m ≡ sig n} (alike all_sets m n) (bytes_eq (sig m) (sig n)) (sig_from_alike m n lt short, alike_from_sig m n lt short some) (bytes_eq-Decides (sig m) (sig n))

  -- a node of an asked set has a signature
  some_is : (n : ℕ) → n < s.nodes → list_any (λ ns. has ns n) asked_sets ≡ has_some (sig n)
  some_is n lt =
      one_answer {P = has_some (sig n) ≡ true} (list_any (λ ns. has ns n) asked_sets) (has_some (sig n)) (
        (λ e. from_any asked_sets (λ ns at f.
            let w = of_map (set_at s) (sets_in (live_bids s)) ns at in
            some_of (sig n) w.0 (in_sig w.0 n w.1 lt ∙ ap (λ zs. has zs n) w.2 ∙ f)) e),
        (λ e. let w = first_of_list (ins n) (sym (some_set n lt) ∙ e) in
            let set = of_ins w.0 n w.1 in
            any_from (λ ns. has ns n) asked_sets (set_at s w.0) (in_map (set_at s) (sets_in (live_bids s)) w.0 set.0) set.1),
      )
      ((λ e. e), (λ e. e))
    where
      from_any : (xs : List (List ℕ)) → ((ns : List ℕ) → Contains xs ns → has ns n ≡ true → has_some (sig n) ≡ true) → list_any (λ ns. has ns n) xs ≡ true → has_some (sig n) ≡ true
      from_any [] f e = absurd (true≢false (sym e))
      from_any (x ∷ xs) f e =
          ⊎_elim (λ t. f x (0, omega arith, refl) t) (λ t. from_any xs (λ ns at. f ns (suc at.0, omega (arith, at.1), at.2)) t) (or_cases (has x n) (list_any (λ ns. has ns n) xs) e)

      some_of : (ks : List ℕ) (k : ℕ) → has ks k ≡ true → has_some ks ≡ true
      some_of [] k e = e
      some_of (j ∷ ks) k e = refl

      first_of_list : (ks : List ℕ) → has_some ks ≡ true → (k : ℕ) × (has ks k ≡ true)
      first_of_list [] e = absurd (true≢false (sym e))
      first_of_list (k ∷ ks) e = (k, ap (λ b. b || has ks k) (test_from_eq k k refl))

  leads_is : (n : ℕ) → n < s.nodes → leads asked_sets (closed_sets s) (range_with_len 0 s.nodes) n ≡ is_first sig n
  leads_is n lt =
      ap (λ b. b && not (list_any (λ m. nat_lt m n && alike all_sets m n) (range_with_len 0 s.nodes))) (some_is n lt)
      ∙ where_some (has_some (sig n)) (λ some.
      any_below (λ m. alike all_sets m n) n s.nodes (omega arith)
      ∙ any_same (λ m. alike all_sets m n) (λ m. bytes_eq (sig m) (sig n)) (range_with_len 0 n)
      (range_from (λ m. alike all_sets m n ≡ bytes_eq (sig m) (sig n)) 0 n (λ m low high. alike_is m n (omega arith) lt some)))
    where
      where_some : (b : Bool) {c d : Bool} → (b ≡ true → c ≡ d) → (b && not c) ≡ (b && not d)
      where_some true e = ap not (e refl)
      where_some false e = refl

  firsts_within : (m : ℕ) → Contains (firsts sig s.nodes) m → m < s.nodes
  firsts_within m at =
      Each-at (λ k. k < s.nodes) (firsts sig s.nodes) m (Each-filter (λ k. k < s.nodes) (is_first sig) (range_with_len 0 s.nodes) (range_from (λ k. k < s.nodes) 0 s.nodes (λ k low high. omega arith))) at

  -- the first nodes have signatures
  firsts_some : (m : ℕ) → Contains (firsts sig s.nodes) m → has_some (sig m) ≡ true
  firsts_some m at =
      Each-at (λ k. has_some (sig k) ≡ true) (firsts sig s.nodes) m
      (Each-passed (λ k. has_some (sig k) ≡ true) (is_first sig) (λ k e. (and_parts (has_some (sig k)) _ e).0) (range_with_len 0 s.nodes)) at

  pub groups_are : grouped sig s.nodes ≡ partitions s
  groups_are =
      sym (ap (map (λ n. filter (alike all_sets n) (range_with_len 0 s.nodes)))
      (filter-same (leads asked_sets (closed_sets s) (range_with_len 0 s.nodes)) (is_first sig) (range_with_len 0 s.nodes)
      (range_from (λ n. leads asked_sets (closed_sets s) (range_with_len 0 s.nodes) n ≡ is_first sig n) 0 s.nodes (λ n low high. leads_is n (omega arith))))
      ∙ map-same (λ n. filter (alike all_sets n) (range_with_len 0 s.nodes)) (λ n. filter (λ k. bytes_eq (sig n) (sig k)) (range_with_len 0 s.nodes)) (firsts sig s.nodes)
      (Each-from _ (firsts sig s.nodes) (λ m at.
      filter-same (alike all_sets m) (λ k. bytes_eq (sig m) (sig k)) (range_with_len 0 s.nodes)
      (range_from (λ k. alike all_sets m k ≡ bytes_eq (sig m) (sig k)) 0 s.nodes (λ k low high. like_first m k at (omega arith))))))
    where
      like_first : (m k : ℕ) → Contains (firsts sig s.nodes) m → k < s.nodes → alike all_sets m k ≡ bytes_eq (sig m) (sig k)
      like_first m k at lt =
          one_answer {P = sig m ≡ sig k} (alike all_sets m k) (bytes_eq (sig m) (sig k))
          (sig_from_alike m k (firsts_within m at) lt, λ e. alike_from_sig m k (firsts_within m at) lt (ap has_some (sym e) ∙ firsts_some m at) e)
          (bytes_eq-Decides (sig m) (sig k))

  abbrev like_group : ℕ → List ℕ
  like_group m = filter (λ j. bytes_eq (sig m) (sig j)) (range_with_len 0 s.nodes)

  -- a group lies in an asked set exactly where its first node does
  group_in : (k m : ℕ) → Contains (sets_in (live_bids s)) k → m < s.nodes →
      list_all (has (set_at s k)) (filter (λ j. bytes_eq (sig m) (sig j)) (range_with_len 0 s.nodes)) ≡ has (sig m) k
  group_in k m at lt =
      one_answer {P = has (set_at s k) m ≡ true} (list_all (has (set_at s k)) (like_group m)) (has (sig m) k) (
        (λ e. Each-at (λ n. has (set_at s k) n ≡ true) (like_group m) m (from_all (has (set_at s k)) (like_group m) e)
            (contains_from (like_group m) m (has-filter (λ j. bytes_eq (sig m) (sig j)) (range_with_len 0 s.nodes) m
            ∙ ap (λ b. b && bytes_eq (sig m) (sig m)) (has-range 0 s.nodes m (omega arith) (omega arith)) ∙ (bytes_eq-Decides (sig m) (sig m)).1 refl))),
        (λ e. all_from (has (set_at s k)) (like_group m) (Each-from (λ n. has (set_at s k) n ≡ true) (like_group m) (λ n there.
            let both = and_parts (has (range_with_len 0 s.nodes) n) (bytes_eq (sig m) (sig n)) (sym (has-filter (λ j. bytes_eq (sig m) (sig j)) (range_with_len 0 s.nodes) n) ∙ has_from (like_group m) n there) in
            let short : n < s.nodes = Each-at (λ j. j < s.nodes) (like_group m) n (Each-filter (λ j. j < s.nodes) (λ j. bytes_eq (sig m) (sig j)) (range_with_len 0 s.nodes) (range_from (λ j. j < s.nodes) 0 s.nodes (λ j low high. omega arith))) there in
            sym (in_sig k n at short) ∙ ap (λ ns. has ns k) (sym ((bytes_eq-Decides (sig m) (sig n)).0 both.1)) ∙ in_sig k m at lt ∙ e))),
      )
      ((λ e. sym (in_sig k m at lt) ∙ e), (λ e. in_sig k m at lt ∙ e))

  -- the places of the signatures that have an asked set are the partitions in it
  pub parts_are : (keys : List (Vec ℕ Global)) (k : ℕ) → map (λ (v : Vec ℕ Global). v.items) keys ≡ map sig (firsts sig s.nodes) → Contains (sets_in (live_bids s)) k →
      filter (λ p. has (list_at keys p) k) (range_with_len 0 (length keys)) ≡ parts_in s (partitions s) k
  parts_are keys k known at =
      ap (λ n. filter (λ p. has (list_at keys p) k) (range_with_len 0 n)) lengths
      ∙ filter-same (λ p. has (list_at keys p) k) (λ p. list_all (has (set_at s k)) (part_at (grouped sig s.nodes) p)) (range_with_len 0 (length (grouped sig s.nodes)))
      (range_from (λ p. has (list_at keys p) k ≡ list_all (has (set_at s k)) (part_at (grouped sig s.nodes) p)) 0 (length (grouped sig s.nodes)) (λ p low high. one_part p (omega arith)))
      ∙ ap (λ gs. filter (λ p. list_all (has (set_at s k)) (part_at gs p)) (range_with_len 0 (length gs))) groups_are
    where
      lengths : length keys ≡ length (grouped sig s.nodes)
      lengths = sym (length-map keys (λ (v : Vec ℕ Global). v.items)) ∙ ap length known ∙ length-map (firsts sig s.nodes) sig
          ∙ sym (length-map (firsts sig s.nodes) (λ m. filter (λ j. bytes_eq (sig m) (sig j)) (range_with_len 0 s.nodes)))

      one_part : (p : ℕ) → p < length (grouped sig s.nodes) → has (list_at keys p) k ≡ list_all (has (set_at s k)) (part_at (grouped sig s.nodes) p)
      one_part p lt =
          let short : p < length (firsts sig s.nodes) = omega (arith, lt, length-map (firsts sig s.nodes) (λ m. filter (λ j. bytes_eq (sig m) (sig j)) (range_with_len 0 s.nodes))) in
          let m = get_or (firsts sig s.nodes) p 0 in
          let among : Contains (firsts sig s.nodes) m = (p, short, get_or_default (firsts sig s.nodes) p m 0 short) in
          ap (λ ns. has ns k) (ap (λ zs. get_or zs p []) known ∙ get_or-map sig (firsts sig s.nodes) p 0 [] short)
          ∙ sym (group_in k m at (firsts_within m among))
          ∙ ap (list_all (has (set_at s k))) (sym (get_or-map (λ j. filter (λ i. bytes_eq (sig j) (sig i)) (range_with_len 0 s.nodes)) (firsts sig s.nodes) p 0 [] short))

  -- signatures ascend
  pub sig_rises : (n : ℕ) → n < s.nodes → IsStrictlyIncreasing (sig n)
  sig_rises n lt = by_some (cases_Bool (has_some (ins n)))
    where
      by_some : (has_some (ins n) ≡ true) ⊎ (has_some (ins n) ≡ false) → IsStrictlyIncreasing (sig n)
      by_some (inl some) =
          let ts = (is n lt).some some in
          subst IsStrictlyIncreasing (sym ts.1) (rises_on (ins n) ts.0 (length s.sets)
          (IsStrictlyIncreasing-filter (λ k. slice_index_or used k false && has (set_at s k) n) (range_with_len 0 (length used)) (range_rises 0 (length used)))
          ts.2.rising (ins_within n) (λ k d short. omega (arith, ts.2.not_before k d short)))
      by_some (inr none) =
          subst IsStrictlyIncreasing (sym ((is n lt).none none))
          (IsStrictlyIncreasing-filter (λ k. slice_index_or used k false && has (set_at s k) n) (range_with_len 0 (length used)) (range_rises 0 (length used)))

  -- ---- what the code hands on
  module _ (keys : List (Vec ℕ Global)) (known : map (λ (v : Vec ℕ Global). v.items) keys ≡ map sig (firsts sig s.nodes)) where
    long : length keys ≡ length (firsts sig s.nodes)
    long = sym (length-map keys (λ (v : Vec ℕ Global). v.items)) ∙ ap length known ∙ length-map (firsts sig s.nodes) sig

    key_is : (p : ℕ) (d : Vec ℕ Global) → p < length keys → sig (get_or (firsts sig s.nodes) p 0) ≡ (get_or keys p d).items
    key_is p d lt =
        sym (get_or-map sig (firsts sig s.nodes) p 0 [] (omega (arith, long))) ∙ ap (λ zs. get_or zs p []) (sym known)
        ∙ get_or-map (λ (v : Vec ℕ Global). v.items) keys p d [] lt

    key_within : (p : ℕ) → p < length keys → get_or (firsts sig s.nodes) p 0 < s.nodes
    key_within p lt =
        let m = get_or (firsts sig s.nodes) p 0 in
        let short : p < length (firsts sig s.nodes) = omega (arith, lt, long) in
        firsts_within m (p, short, get_or_default (firsts sig s.nodes) p m 0 short)

    pub keys_rise : All (λ (v : Vec ℕ Global). IsStrictlyIncreasing v.items) keys
    keys_rise p d lt = subst IsStrictlyIncreasing (key_is p d lt) (sig_rises (get_or (firsts sig s.nodes) p 0) (key_within p lt))

    pub keys_few : length keys ≤ 4096
    keys_few = omega (arith, long, filter_shorter (is_first sig) (range_with_len 0 s.nodes), length-range_with_len 0 s.nodes, sound.few_nodes)

    pub groups_few : (groups : List (List ℕ)) → groups ≡ grouped sig s.nodes → length groups ≤ 4096
    groups_few groups e = omega (arith, ap length e, length-map (firsts sig s.nodes) (λ m. filter (λ j. bytes_eq (sig m) (sig j)) (range_with_len 0 s.nodes)), long, keys_few)

    pub are_signatures : AreSignatures s keys
    are_signatures = record {
      ascending = keys_rise;
      few = keys_few;
      parts = λ k at. ((known_set s k sound at).within, parts_are keys k known at);
    }

-- by set, the places of the signatures that have it, ascending
pub places_rise : (inside : List (Vec ℕ Global)) (keys : List (Vec ℕ Global)) →
    ((k : ℕ) → k < length inside → list_at inside k ≡ filter (λ p. has (list_at keys p) k) (range_with_len 0 (length keys))) →
    All (λ (v : Vec ℕ Global). IsStrictlyIncreasing v.items) inside
places_rise inside keys parts k d lt =
    subst IsStrictlyIncreasing (sym (parts k lt) ∙ get_or-map (λ (v : Vec ℕ Global). v.items) inside k d [] lt)
    (IsStrictlyIncreasing-filter (λ p. has (list_at keys p) k) (range_with_len 0 (length keys)) (range_rises 0 (length keys)))

-- a partition has no more nodes than there are
pub part_short : (s : Space) (p : ℕ) → p < length (partitions s) → length (part_at (partitions s) p) ≤ s.nodes
part_short s p lt =
    let asks = asked s (live_bids s) in
    let marks = closed_sets s in
    let nodes = range_with_len 0 s.nodes in
    let leaders = filter (leads asks marks nodes) nodes in
    let group = λ (n : ℕ). filter (alike (asks ++ marks) n) nodes in
    let is : part_at (partitions s) p ≡ group (get_or leaders p 0) = get_or-map group leaders p 0 [] (omega (arith, lt, length-map leaders group)) in
    omega (arith, ap length is, filter_shorter (alike (asks ++ marks) (get_or leaders p 0)) nodes, length-range_with_len 0 s.nodes)

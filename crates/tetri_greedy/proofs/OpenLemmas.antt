-- How many nodes are not held in a slot.
use Rattle.std.proofs.Common.{◌≡◌, ℕ, zero, suc, ◌+◌, ◌-◌, ◌<◌, ◌≤◌, ◌==◌, ◌&&◌, ◌||◌, inl, inr, Bool, true, false, not, min, List, [], ◌∷◌, ◌++◌, cond, length, get_or, set, replicate, take, All, Contains, bit_or, refl, sym, ap, ◌∙◌, subst, arith, true≢false}
use Rattle.std.specs.Int.{bit_at}
use Rattle.std.specs.List.{filter, range_with_len}
use Rattle.std.specs.List.Sorted.{IsStrictlyIncreasing}
use Rattle.std.proofs.lemmas.Bool.{cases_eq}
use Rattle.std.proofs.lemmas.Grind.{get_or_default_zero}
use Rattle.std.proofs.lemmas.List.{append-nil, get_or-replicate, length-replicate}
use Rattle.std.proofs.lemmas.List.Elements.{All-contains, All-filter, All-take, All-weaker, filter_passes}
use Rattle.std.proofs.lemmas.List.Kept.{AllPairs-from_increasing}
use Rattle.std.proofs.lemmas.Nat.Bits.{bit_at-lt, bit_at_mask_inside, bit_at_or}
use Rattle.tetri_base.specs.Lists.{Ascends, Each, bit, count, has, sum_of}
use Rattle.tetri_base.proofs.ListLaws.{Each-at, Each-from, EachPair-from, common-le, eq_from_test, filter-ascends, has-range, sum_of-le, sum_of-range, test_from_eq}
use Rattle.tetri_strl.specs.declared.expr.Leaf.{Leaf}
use Rattle.tetri_space.specs.Slots.{is_marked, slots_of}
use Rattle.tetri_space.proofs.InstanceLaws.{meets_at}
use Rattle.tetri_space.specs.Free.{is_free_throughout}
use Rattle.tetri_space.specs.Space.{Space, set_of}
use Rattle.tetri_advice.specs.Fit.{Placement, enough, fit_of_leaf, is_available, is_held, is_live, lowest}
use Rattle.tetri_advice.proofs.AdviceLaws.{each_of}
use Rattle.tetri_greedy.specs.Fitted.{Fitted, grown}
use Rattle.tetri_greedy.specs.Held.{AreMost, is_clear}

-- ---- one mask changes
count-set : (p : ℕ → Bool) (xs : List ℕ) (n y : ℕ) → n < length xs → count p (set xs n y) + bit (p (get_or xs n 0)) ≡ count p xs + bit (p y)
count-set p [] n y lt = absurd (omega (arith, lt))
count-set p (x ∷ xs) zero y lt = omega arith
count-set p (x ∷ xs) (suc n) y lt = let rest = count-set p xs n y (omega (arith, lt)) in omega (arith, rest)

-- a slot that is clear with more slots held is clear without them
clear_before : (slot mask slots : ℕ) → is_clear slot (bit_or mask slots) ≡ true → is_clear slot mask ≡ true
clear_before slot mask slots e =
    let none = eq_from_test (bit_at (bit_or mask slots) slot) 0 e in
    test_from_eq (bit_at mask slot) 0 (omega (arith, bit_at_or mask slots slot, none))

-- b and a tell whether a slot was clear and is
fewer : (b a : Bool) (old now most more : ℕ) → (a ≡ true → b ≡ true) → now + bit b ≡ old + bit a → more ≡ most - bit (b && not a) → old ≤ most → now ≤ more
fewer true true old now most more h e f le = omega (arith, e, f, le)
fewer true false old now most more h e f le = omega (arith, e, f, le)
fewer false true old now most more h e f le = absurd (true≢false (sym (h refl)))
fewer false false old now most more h e f le = omega (arith, e, f, le)

pub still_most : (masks most now : List ℕ) (n slots : ℕ) → AreMost masks most → n < length masks → length now ≡ 64 →
    ((slot : ℕ) → slot < 64 → get_or now slot 0 ≡ get_or most slot 0 - bit (is_clear slot (get_or masks n 0) && not (is_clear slot (bit_or (get_or masks n 0) slots)))) →
    AreMost (set masks n (bit_or (get_or masks n 0) slots)) now
still_most masks most now n slots are lt sixty closed = record {
  slots = sixty;
  most_clear = λ slot small.
      let before = get_or masks n 0 in
      let after = bit_or before slots in
      fewer (is_clear slot before) (is_clear slot after) (count (is_clear slot) masks) (count (is_clear slot) (set masks n after)) (get_or most slot 0) (get_or now slot 0)
      (clear_before slot before slots) (count-set (is_clear slot) masks n after lt) (closed slot small) (are.most_clear slot small);
}

-- the same where the mask was read before
pub still_most_at : (masks most now : List ℕ) (n before slots : ℕ) → before ≡ get_or masks n before → AreMost masks most → n < length masks → length now ≡ 64 →
    ((slot : ℕ) → slot < 64 → get_or now slot 0 ≡ get_or most slot 0 - bit (is_clear slot before && not (is_clear slot (bit_or before slots)))) →
    AreMost (set masks n (bit_or before slots)) now
still_most_at masks most now n before slots is are lt sixty closed =
    let same : get_or masks n 0 ≡ before = sym (is ∙ get_or_default_zero masks n before lt) in
    subst (λ b. ((slot : ℕ) → slot < 64 → get_or now slot 0 ≡ get_or most slot 0 - bit (is_clear slot b && not (is_clear slot (bit_or b slots)))) → AreMost (set masks n (bit_or b slots)) now)
    same (still_most masks most now n slots are lt sixty) closed

-- ---- no node is held
count-le : (p : ℕ → Bool) (xs : List ℕ) → count p xs ≤ length xs
count-le p [] = omega arith
count-le p (x ∷ xs) = omega (arith, bit_le (p x), count-le p xs)
  where
    bit_le : (b : Bool) → bit b ≤ 1
    bit_le true = omega arith
    bit_le false = omega arith

pub most_at_first : (nodes : ℕ) (masks most : List ℕ) → masks ≡ replicate nodes 0 → most ≡ replicate 64 nodes → AreMost masks most
most_at_first nodes masks most none all = record {
  slots = ap length all ∙ length-replicate 64 nodes;
  most_clear = λ slot small.
      omega (arith, count-le (is_clear slot) masks, ap length none ∙ length-replicate nodes 0, ap (λ ns. get_or ns slot 0) all ∙ get_or-replicate 64 slot nodes 0 small);
}

-- ---- nodes that are not held in a slot
count_all : (ns ms : List ℕ) → Each (λ n. has ms n ≡ true) ns → count (has ms) ns ≡ length ns
count_all [] ms h = refl
count_all (n ∷ ns) ms h = omega (arith, ap bit h.0, count_all ns ms h.1)

member : (P : ℕ → Type 0) (ns : List ℕ) (k : ℕ) → Each P ns → has ns k ≡ true → P k
member P [] k h e = absurd (true≢false (sym e))
member P (n ∷ ns) k h e = by_test (n == k) refl (member P ns k h.1) e
  where
    by_test : (b : Bool) → (n == k) ≡ b → (has ns k ≡ true → P k) → (b || has ns k) ≡ true → P k
    by_test true same rest f = subst P (eq_from_test n k same) h.0
    by_test false other rest f = rest f

-- different places at which a test passes are no more than pass it
count_places : (p : ℕ → Bool) (xs ns : List ℕ) → Ascends ns → Each (λ n. n < length xs) ns → Each (λ n. p (get_or xs n 0) ≡ true) ns → length ns ≤ count p xs
count_places p xs ns up within passes =
    let places = range_with_len 0 (length xs) in
    let all : count (has places) ns ≡ length ns = count_all ns places (Each-from _ ns (λ n at. has-range 0 (length xs) n (omega arith) (member_at n at))) in
    let common = common-le ns places up in
    let each : count (has ns) places ≤ sum_of (λ k. bit (p (get_or xs k 0))) places =
    sum_of-le (λ k. bit (has ns k)) (λ k. bit (p (get_or xs k 0))) places (Each-from _ places (λ k at. lesser (has ns k) (p (get_or xs k 0)) (member (λ n. p (get_or xs n 0) ≡ true) ns k passes))) in
    let whole = sum_of-range (λ x. bit (p x)) xs 0 in
    omega (arith, all, common, each, whole)
  where
    member_at : (n : ℕ) → Contains ns n → n < 0 + length xs
    member_at n at = let lt : n < length xs = Each-at (λ m. m < length xs) ns n within at in omega (arith, lt)

    lesser : (b c : Bool) → (b ≡ true → c ≡ true) → bit b ≤ bit c
    lesser true true h = omega arith
    lesser true false h = absurd (true≢false (sym (h refl)))
    lesser false c h = omega arith

-- where a slot of a leaf has fewer clear nodes than wanted, there are not so many nodes that are not held in any
pub few_open : (masks most : List ℕ) → AreMost masks most → (now : ℕ) (l : Leaf) (slot wanted : ℕ) → l.start - now ≤ slot → slot < min 64 (l.start - now + l.dur) →
    get_or most slot 0 < wanted → (nodes : List ℕ) → Ascends nodes → All (λ n. n < length masks) nodes → All (λ n. is_marked masks now l n ≡ false) nodes → length nodes < wanted
few_open masks most are now l slot wanted low high few nodes up within open_nodes =
    let small : slot < 64 = omega (arith, high) in
    let counted = count_places (is_clear slot) masks nodes up (each_of (λ n. n < length masks) nodes within)
    (Each-from (λ n. is_clear slot (get_or masks n 0) ≡ true) nodes (λ n at. clear_at n (All-contains (λ m. is_marked masks now l m ≡ false) nodes n open_nodes at))) in
    omega (arith, counted, few, are.most_clear slot small)
  where
    clear_at : (n : ℕ) → is_marked masks now l n ≡ false → is_clear slot (get_or masks n 0) ≡ true
    clear_at n not_marked = elim (cases_eq (bit_at (get_or masks n 0) slot) 1) [
      | inl held ↦ absurd (true≢false (sym (meets_at (get_or masks n 0) (slots_of now l) slot held (bit_at_mask_inside (l.start - now) (min 64 (l.start - now + l.dur)) slot low high)) ∙ not_marked))
      | inr other ↦ test_from_eq (bit_at (get_or masks n 0) slot) 0 (omega (arith, other, bit_at-lt (get_or masks n 0) slot))
    ]

-- ---- ascending nodes
pub ascends_from : (ns : List ℕ) → IsStrictlyIncreasing ns → Ascends ns
ascends_from ns h = EachPair-from (λ m n. m < n) ns (AllPairs-from_increasing ns h)

each-take : (P : ℕ → Type 0) (k : ℕ) (ns : List ℕ) → Each P ns → Each P (take k ns)
each-take P zero ns h = tt
each-take P (suc k) [] h = tt
each-take P (suc k) (n ∷ ns) h = (h.0, each-take P k ns h.1)

pub ascends-take : (k : ℕ) (ns : List ℕ) → Ascends ns → Ascends (take k ns)
ascends-take zero ns h = tt
ascends-take (suc k) [] h = tt
ascends-take (suc k) (n ∷ ns) h = (each-take (λ m. n < m) k ns h.0, ascends-take k ns h.1)

-- ---- a leaf that is passed over
module _ (s : Space) (taken : Leaf → ℕ → Bool) (held : List Placement) (l : Leaf) (up : IsStrictlyIncreasing (set_of s l)) (there : All (λ n. n < s.nodes) (set_of s l)) where
  abbrev opens : ℕ → Bool
  opens = is_available s taken held l

  not_taken : (n : ℕ) → opens n ≡ true → taken l n ≡ false
  not_taken n e = by_tests (is_free_throughout s l n) (taken l n) (is_held held l n) e
    where
      by_tests : (a b c : Bool) → (a && not b && not c) ≡ true → b ≡ false
      by_tests true true c e = absurd (true≢false (sym e))
      by_tests false true c e = absurd (true≢false (sym e))
      by_tests a false c e = refl

  -- where there are fewer nodes than it needs, a leaf gets none
  pub no_fit : (wanted : ℕ) → ((nodes : List ℕ) → Ascends nodes → All (λ n. n < s.nodes) nodes → All (λ n. taken l n ≡ false) nodes → length nodes < wanted) →
      ((n : ℕ) → n < wanted → enough l n ≡ false) → fit_of_leaf s taken held l ≡ []
  no_fit wanted fewer least =
      let nodes = lowest s taken held l in
      let few = fewer nodes (ascends-take l.k (filter opens (set_of s l)) (filter-ascends opens (set_of s l) (ascends_from (set_of s l) up)))
      (All-take (λ n. n < s.nodes) l.k (filter opens (set_of s l)) (All-filter opens (λ n. n < s.nodes) (set_of s l) there))
      (All-take (λ n. taken l n ≡ false) l.k (filter opens (set_of s l))
      (All-weaker (λ n. opens n ≡ true) (λ n. taken l n ≡ false) not_taken (filter opens (set_of s l)) (filter_passes opens (set_of s l)))) in
      ap (λ b. cond (is_live s l && b) (record { leaf = l; nodes = nodes } ∷ []) []) (least (length nodes) few)
      ∙ ap (λ b. cond b (record { leaf = l; nodes = nodes } ∷ []) []) (and_false (is_live s l))
    where
      and_false : (b : Bool) → (b && false) ≡ false
      and_false true = refl
      and_false false = refl

-- with nothing more a job has what it had
pub grown_by_none : (f : Fitted) (ps : List Placement) → ps ≡ [] → f ≡ grown f ps
grown_by_none f ps none = sym (ap (λ qs. record { job = f.job; placements = qs }) (ap (λ qs. f.placements ++ qs) none ∙ append-nil f.placements))

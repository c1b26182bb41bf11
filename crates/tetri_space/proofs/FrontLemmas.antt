-- Grants that ascend by job and leaf, beside masks of the slots in which their nodes are held.
use Rattle.std.proofs.Common.{◌≡◌, ◌⊎◌, ℕ, ◌+◌, ◌-◌, ◌<◌, ◌≤◌, ◌==◌, ◌&&◌, ◌||◌, Bool, true, false, List, [], ◌∷◌, ◌++◌, length, get_or, take, All, AllPairs, Contains, Some, Result, Ok, Err, refl, sym, ap, ◌∙◌, subst, arith, true≢false, inl, inr, nat_lt}
use Rattle.std.specs.Prelude.{OnOk, is_err}
use Rattle.std.proofs.lemmas.Bool.{cases_lt}
use Rattle.std.proofs.lemmas.Bool.Decides.{nat_tests}
use Rattle.std.proofs.lemmas.List.{get_or-take, length-take}
use Rattle.std.proofs.lemmas.List.Elements.{All-contains, All-nil, All-push, All-weaker}
use Rattle.std.proofs.lemmas.List.Quantifiers.{all_pairs_push}
use Rattle.std.proofs.lemmas.Option.{same_Some}
use Rattle.tetri_base.proofs.ListLaws.{any_from, test_from_eq}
use Rattle.tetri_strl.specs.declared.expr.Leaf.{Leaf}
use Rattle.tetri_strl.specs.declared.grants.Grant.{Grant}
use Rattle.tetri_space.specs.Free.{IsFree}
use Rattle.tetri_space.specs.steps.Front.{IsTaken}
use Rattle.tetri_space.specs.GrantOrder.{ComesBefore, comes_first}
use Rattle.tetri_space.specs.Lawful.{AreApart, IsLawful, IsLawfulGrant, MayBeGranted}
use Rattle.tetri_space.specs.Slots.{is_marked, overlap, slots_of}
use Rattle.tetri_space.specs.Sound.{IsSound}
use Rattle.tetri_space.specs.Space.{Covers, Space, leaf_in}
use Rattle.tetri_space.proofs.ClashLemmas.{value_in}
use Rattle.tetri_space.proofs.SearchLemmas.{offered_leaf}
use Rattle.tetri_space.proofs.SlotLemmas.{IsInWindow, marked_meets, meets_overlap, slots_bound}

lt_test : (x y : ℕ) → x < y → nat_lt x y ≡ true
lt_test x y h = grind (arith, nat_tests)

-- leaves with a slot in common overlap
pub overlap_from : (m l : Leaf) (slot : ℕ) → Covers l slot → Covers m slot → overlap m l ≡ true
overlap_from m l slot p q =
    let first : m.start < l.start + l.dur = omega (arith, q.begun, p.not_over) in
    let second : l.start < m.start + m.dur = omega (arith, p.begun, q.not_over) in
    rw (lt_test m.start (l.start + l.dur) first, lt_test l.start (m.start + m.dur) second) refl

or_true : (b c : Bool) → b ≡ true → (b || c) ≡ true
or_true true c e = refl
or_true false c e = absurd (true≢false (sym e))

or_second : (b c : Bool) → c ≡ true → (b || c) ≡ true
or_second true c e = refl
or_second false c e = e

-- the test of the order
pub before_from_test : (g h : Grant) → comes_first g h ≡ true → ComesBefore g h
before_from_test g h e = by_numbers g.job h.job g.leaf h.leaf e
  where
    by_numbers : (a b c d : ℕ) → (nat_lt a b || (a == b && nat_lt c d)) ≡ true → (a < b) ⊎ ((a ≡ b) × (c < d))
    by_numbers a b c d t = grind (arith, nat_tests)

pub test_from_before : (g h : Grant) → ComesBefore g h → comes_first g h ≡ true
test_from_before g h (inl lt) = or_true (nat_lt g.job h.job) _ (lt_test g.job h.job lt)
test_from_before g h (inr at) = or_second (nat_lt g.job h.job) _ (rw (test_from_eq g.job h.job at.0, lt_test g.leaf h.leaf at.1) refl)

pub before_on : (f g h : Grant) → ComesBefore f g → ComesBefore g h → ComesBefore f h
before_on f g h (inl x) (inl y) = inl (omega (arith, x, y))
before_on f g h (inl x) (inr y) = inl (omega (arith, x, y.0))
before_on f g h (inr x) (inl y) = inl (omega (arith, x.0, y))
before_on f g h (inr x) (inr y) = inr (x.0 ∙ y.0, omega (arith, x.1, y.1))

before_other : (g h : Grant) → ComesBefore g h → g.job ≡ h.job → g.leaf ≡ h.leaf → ⊥
before_other g h (inl lt) job leaf = omega (arith, lt, job)
before_other g h (inr at) job leaf = omega (arith, at.1, leaf)

module _ (s : Space) where
  -- the masks have the slots of the leaf that the grant names, at each of its nodes
  abbrev Covered : List ℕ → Grant → Type 0
  Covered masks g =
      (l : Leaf) → leaf_in s.bids g.job g.leaf ≡ Some l → (n : ℕ) → Contains g.nodes n → (m : Leaf) → IsInWindow s.now m → overlap m l ≡ true → is_marked masks s.now m n ≡ true

  -- lawful grants that ascend, and masks that have what they hold
  pub record IsFront (grants : List Grant) (masks : List ℕ) : Type 0 where
    pub lawful : IsLawful s grants
    pub ordered : AllPairs ComesBefore grants
    pub covered : All (Covered masks) grants

  pub front_none : (masks : List ℕ) → IsFront [] masks
  front_none masks = record {
    lawful = record { grants = All-nil (IsLawfulGrant s); apart = λ i j d lt within. absurd (omega (arith, within)) };
    ordered = λ i j d lt within. absurd (omega (arith, within));
    covered = All-nil (Covered masks);
  }

module _ (s : Space) (sound : IsSound s) where
  module _ (masks new : List ℕ) (g : Grant) (taken : IsTaken s masks g new) (as_many : length masks ≡ 4096) where
    granted_leaf : (l : Leaf) × (leaf_in s.bids g.job g.leaf ≡ Some l) × MayBeGranted s l g.nodes
    granted_leaf = value_in (leaf_in s.bids g.job g.leaf) (λ l. MayBeGranted s l g.nodes) taken.lawful

    -- the leaf that the grant names may have the nodes
    right : MayBeGranted s taken.leaf g.nodes
    right =
        let w = granted_leaf in
        subst (λ l. MayBeGranted s l g.nodes) (same_Some w.0 taken.leaf (sym w.1 ∙ taken.found)) w.2

    in_window : IsInWindow s.now taken.leaf
    in_window = record {
      live = right.live.not_early;
      window = omega (arith, right.live.not_late, sound.few_slots);
      some_slots = (offered_leaf s g.job g.leaf taken.leaf sound taken.found).0.some_slots;
    }

    known : All (λ n. n < length masks) g.nodes
    known =
        All-weaker (λ n. (slot : ℕ) → Covers taken.leaf slot → IsFree s n slot) (λ n. n < length masks)
        (λ n free. omega (arith, (free taken.leaf.start (record { begun = omega arith; not_over = omega (arith, in_window.some_slots) })).there, sound.few_nodes, as_many)) g.nodes right.nodes_right.free

    -- what was marked stays so
    still : (m : Leaf) (n : ℕ) → n < length masks → is_marked masks s.now m n ≡ true → is_marked new s.now m n ≡ true
    still m n lt e =
        ap (λ ms. is_marked ms s.now m n) taken.held
        ∙ marked_meets (slots_of s.now taken.leaf) (slots_of s.now m) n (slots_bound s.now m) g.nodes masks known lt
        ∙ or_true (is_marked masks s.now m n) _ e

    -- and the nodes of the grant are marked
    own : Covered s new g
    own l found n at m window shared =
        let same : l ≡ taken.leaf = same_Some l taken.leaf (sym found ∙ taken.found) in
        ap (λ ms. is_marked ms s.now m n) taken.held
        ∙ marked_meets (slots_of s.now taken.leaf) (slots_of s.now m) n (slots_bound s.now m) g.nodes masks known (All-contains (λ k. k < length masks) g.nodes n known at)
        ∙ or_second (is_marked masks s.now m n) _
        (rw (any_from (λ k. k == n) g.nodes n at (test_from_eq n n refl))
        (meets_overlap s.now m taken.leaf window in_window ∙ ap (overlap m) (sym same) ∙ shared))

    -- a grant that is covered and comes before it is apart from it
    apart : (h : Grant) → ComesBefore h g → Covered s masks h → AreApart s h g
    apart h before covered = record {
      other_leaf = before_other h g before;
      other_slots = λ n held also l found m also_found slot covers also_covers.
          let same : m ≡ taken.leaf = same_Some m taken.leaf (sym also_found ∙ taken.found) in
          let marks : is_marked masks s.now taken.leaf n ≡ true =
          covered l found n held taken.leaf in_window (overlap_from taken.leaf l slot covers (subst (λ o. Covers o slot) same also_covers)) in
          true≢false (sym (any_from (is_marked masks s.now taken.leaf) g.nodes n also marks) ∙ taken.open_nodes);
    }

    pub front_more : (grants : List Grant) → IsFront s grants masks → All (λ h. ComesBefore h g) grants → IsFront s (grants ++ g ∷ []) new
    front_more grants front before = record {
      lawful = record {
        grants = All-push (IsLawfulGrant s) grants g front.lawful.grants taken.lawful;
        apart = all_pairs_push (AreApart s) grants g front.lawful.apart (λ k d lt. apart (get_or grants k d) (before k d lt) (front.covered k d lt));
      };
      ordered = all_pairs_push ComesBefore grants g front.ordered before;
      covered = All-push (Covered s new) grants g
          (λ k d lt l found n at m window shared.
          let covers = front.covered k d lt l found n at m window shared in
          still m n (below grants front k d lt l found n at) covers) own;
    }
      where
        -- a node of a lawful grant has a mask
        below : (gs : List Grant) → IsFront s gs masks → (k : ℕ) (d : Grant) → k < length gs → (l : Leaf) → leaf_in s.bids (get_or gs k d).job (get_or gs k d).leaf ≡ Some l →
            (n : ℕ) → Contains (get_or gs k d).nodes n → n < length masks
        below gs front k d lt l found n at =
            let h = get_or gs k d in
            let w = value_in (leaf_in s.bids h.job h.leaf) (λ l. MayBeGranted s l h.nodes) (front.lawful.grants k d lt) in
            let some = (offered_leaf s h.job h.leaf w.0 sound w.1).0.some_slots in
            let free = All-contains (λ m. (slot : ℕ) → Covers w.0 slot → IsFree s m slot) h.nodes n w.2.nodes_right.free at in
            omega (arith, (free w.0.start (record { begun = omega arith; not_over = omega (arith, some) })).there, sound.few_nodes, as_many)

-- the grants before one that comes behind the last of them
pub all_before : (grants : List Grant) (i : ℕ) (g : Grant) → AllPairs ComesBefore (take i grants) → i ≤ length grants → ((d : Grant) → 1 ≤ i → ComesBefore (get_or grants (i - 1) d) g) →
    All (λ h. ComesBefore h g) (take i grants)
all_before grants i g ordered within last k d lt =
    let long : length (take i grants) ≡ i = omega (arith, length-take i grants) in
    let final : get_or (take i grants) (i - 1) d ≡ get_or grants (i - 1) d = get_or-take i grants (i - 1) d (omega (arith, lt, long)) in
    let behind : ComesBefore (get_or (take i grants) (i - 1) d) g = subst (λ h. ComesBefore h g) (sym final) (last d (omega (arith, lt, long))) in
    elim (cases_lt k (i - 1)) [
      | inl less ↦ before_on (get_or (take i grants) k d) (get_or (take i grants) (i - 1) d) g (ordered k (i - 1) d less (omega (arith, lt, long))) behind
      | inr more ↦ let same : k ≡ i - 1 = omega (arith, lt, long, more) in subst (λ j. ComesBefore (get_or (take i grants) j d) g) (sym same) behind
    ]

-- what the code asks of a lawful grant
module _ (s : Space) (sound : IsSound s) (g : Grant) (l : Leaf) (found : leaf_in s.bids g.job g.leaf ≡ Some l) where
  pub short_leaf : l.dur ≤ 10000
  short_leaf = (offered_leaf s g.job g.leaf l sound found).0.few_slots

  pub lawful_nodes : (count : ℕ) → count ≡ 4096 → IsLawfulGrant s g → All (λ n. n < count) g.nodes
  lawful_nodes count as_many lawful =
      let w = value_in (leaf_in s.bids g.job g.leaf) (λ m. MayBeGranted s m g.nodes) lawful in
      let some = (offered_leaf s g.job g.leaf w.0 sound w.1).0.some_slots in
      All-weaker (λ n. (slot : ℕ) → Covers w.0 slot → IsFree s n slot) (λ n. n < count)
      (λ n free. omega (arith, (free w.0.start (record { begun = omega arith; not_over = omega (arith, some) })).there, sound.few_nodes, as_many)) g.nodes w.2.nodes_right.free

pub ok_of : {T E : Type 0} (r : Result T E) (P : Type 0) → false ≡ is_err r → OnOk r P → P
ok_of (Ok x) P e h = h
ok_of (Err x) P e h = absurd (true≢false (sym e))

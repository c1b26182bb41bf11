-- What is left of a pending job's offer in one slot.
use Rattle.std.proofs.Common.{◌≡◌, ◌≢◌, ℕ, ◌+◌, List, [], ◌∷◌, ◌++◌, All, AllPairs, Contains, refl, sym, subst, arith, inl, inr}
use Rattle.std.specs.Prelude.{Option, Some}
use Rattle.std.specs.List.Sorted.{IsStrictlyIncreasing}
use Rattle.std.proofs.lemmas.List.Elements.{All-contains, Contains-append_cases, Contains-append_left, Contains-append_right}
use Rattle.tetri_base.specs.Lists.{Each}
use Rattle.tetri_strl.specs.declared.expr.Leaf.{Leaf}
use Rattle.tetri_strl.specs.Aligned.{EachLeaf}
use Rattle.tetri_strl.specs.Prune.{pruned}
use Rattle.tetri_strl.specs.Tree.{Tree, one, join, scale, barrier, Trees, none, more, leaves, leaves_of, numbers, numbers_of}
use Rattle.tetri_strl.specs.WellMade as made
use Rattle.tetri_strl.proofs.ExprLaws.{AreApart, AreApartOf, EachLeaf-from, apart_of_pairs, each_good, the_one}
use Rattle.tetri_space.specs.Partitions.{with_left}
use Rattle.tetri_space.specs.Sound.{HasKnownSet, IsSound, IsSoundBid}
use Rattle.tetri_space.specs.Space.{Bid, Space, set_of}
use Rattle.tetri_space.proofs.InstanceLaws.{AllPairs-append, AreFrom, EachLeaf-at, IsGood, IsLess, OfLeft, left_leaves, left_sound, lefts_good}

-- two leaves have two numbers
abbrev pub Differ : Leaf → Leaf → Type 0
Differ l m = l.num ≢ m.num

mutual
  -- the number of a leaf is one of the numbers
  number_of : (t : Tree) (l : Leaf) → Contains (leaves t) l → Contains (numbers t) l.num
  number_of (one m) l at = subst (λ (k : Leaf). Contains (m.num ∷ []) k.num) (the_one m l at) (0, omega arith, refl)
  number_of (join op ts) l at = number_among ts l at
  number_of (scale t v) l at = number_of t l at
  number_of (barrier t v) l at = number_of t l at

  number_among : (ts : Trees) (l : Leaf) → Contains (leaves_of ts) l → Contains (numbers_of ts) l.num
  number_among none l at = absurd (omega (arith, at.1))
  number_among (more t ts) l at = elim (Contains-append_cases (leaves t) (leaves_of ts) l at) [
    | inl here ↦ Contains-append_left (numbers t) (numbers_of ts) l.num (number_of t l here)
    | inr later ↦ Contains-append_right (numbers t) (numbers_of ts) l.num (number_among ts l later)
  ]

mutual
  -- leaves that are apart part by part differ in number
  pairs_of_apart : (t : Tree) → AreApart t → AllPairs Differ (leaves t)
  pairs_of_apart (one l) apart = λ i j d lt within. absurd (omega (arith, lt, within))
  pairs_of_apart (join op ts) apart = pairs_of_all ts apart
  pairs_of_apart (scale t v) apart = pairs_of_apart t apart
  pairs_of_apart (barrier t v) apart = pairs_of_apart t apart

  pairs_of_all : (ts : Trees) → AreApartOf ts → AllPairs Differ (leaves_of ts)
  pairs_of_all none apart = λ i j d lt within. absurd (omega (arith, within))
  pairs_of_all (more t ts) apart =
      AllPairs-append Differ (leaves t) (leaves_of ts) (pairs_of_apart t apart.0) (pairs_of_all ts apart.1)
      (λ l m at bt same. apart.2 l.num (number_of t l at) (subst (Contains (numbers_of ts)) (sym same) (number_among ts m bt)))

module _ (s : Space) (sound : IsSound s) (b : Bid) (pending : Contains s.bids b) (from to : ℕ) (t : Tree) (left : pruned from to b.expr ≡ Some t) where
  good_bid : IsSoundBid s b
  good_bid = All-contains (IsSoundBid s) s.bids b sound.sound_bids pending

  pub left_good : made.IsSound t
  left_good = (subst (OfLeft (IsLess from to (made.peak b.expr))) left (left_sound from to b.expr good_bid.well_made.sound)).0

  pub left_within : (l : Leaf) → Contains (leaves t) l → Contains (leaves b.expr) l
  left_within l at = (subst (OfLeft (λ u. AreFrom from to (leaves b.expr) (leaves u))) left (left_leaves from to b.expr) l at).0

  left_set : (l : Leaf) → Contains (leaves t) l → HasKnownSet s l
  left_set l at = All-contains (HasKnownSet s) (leaves b.expr) l good_bid.known_sets (left_within l at)

  pub left_known : EachLeaf (HasKnownSet s) t
  left_known = EachLeaf-from (HasKnownSet s) t left_set

  pub left_leaf : (l : Leaf) → Contains (leaves t) l → made.IsGoodLeaf l
  left_leaf l at = EachLeaf-at made.IsGoodLeaf t l (each_good t left_good) at

  pub left_ascends : All IsStrictlyIncreasing s.sets → (l : Leaf) → Contains (leaves t) l → IsStrictlyIncreasing (set_of s l)
  left_ascends sets l at = sets l.set [] (left_set l at).known

  pub left_differ : AllPairs Differ (leaves t)
  left_differ =
      pairs_of_apart t
      (subst (λ o. Each (IsGood from to) (with_left b.job o [])) left
      (lefts_good from to (b ∷ []) ((good_bid.well_made.sound, apart_of_pairs b.expr good_bid.well_made.distinct), tt))).0.1

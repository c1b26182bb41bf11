-- Grants that are thrifty for an offer are so for another offer of the ask.
use Rattle.std.proofs.Common.{◌≡◌, ◌⊎◌, ℕ, zero, suc, ◌≤◌, ◌<◌, ◌==◌, Bool, true, false, List, [], ◌∷◌, length, get_or, map, Contains, Some, refl, sym, ap, ◌∙◌, subst, arith, inl, inr}
use Rattle.std.specs.List.{list_any}
use Rattle.std.proofs.lemmas.Bool.{cases_order}
use Rattle.std.proofs.lemmas.List.{get_or_default, length-map}
use Rattle.std.proofs.lemmas.Map.Views.{Contains-from_any}
use Rattle.std.proofs.Math.ListN.{get_or-map}
use Rattle.std.proofs.lemmas.Option.{same_Some}
use Rattle.tetri_base.specs.Lists.{Each, EachPair}
use Rattle.tetri_base.proofs.ListLaws.{EachPair-with, Each-all, Each-at, Each-from, Each-map, any_from, eq_from_test, test_from_eq}
use Rattle.tetri_strl.specs.declared.expr.Leaf.{Leaf}
use Rattle.tetri_strl.specs.Thrifty.{AreThrifty, AtMostOne, IsBare, IsThrifty}
use Rattle.tetri_strl.specs.Tree.{greatest, Tree, one, join, row, numbers, numbers_of}
use Rattle.tetri_strl.specs.Worth.{greatest_of, worths_by}
use Rattle.tetri_strl.proofs.ExprLaws.{the_one}
use Rattle.tetri_request.specs.declared.ask.Ask.{Ask}
use Rattle.tetri_request.specs.Cycles.{KeepsThrift}
use Rattle.tetri_request.specs.Options.{IsSoundAsk, offer, one_of, options_between}
use Rattle.tetri_request.proofs.OfferLemmas.{IsBefore, between_rises, numbers_of_row, pairs_of}
use Rattle.tetri_request.proofs.ExpiryLemmas.{offer_leaves, one_leaf_by_number}

-- ---- numbers of leaves
abbrev pub HasNumber : List Leaf → ℕ → Type 0
HasNumber ls n = (l : Leaf) × Contains ls l × (l.num ≡ n)

number_at : (ls : List Leaf) (n k : ℕ) → k < length (map (λ (l : Leaf). l.num) ls) → get_or (map (λ (l : Leaf). l.num) ls) k n ≡ n → HasNumber ls n
number_at [] n k lt e = absurd (omega arith)
number_at (l ∷ ls) n zero lt e = (l, (0, omega arith, refl), e)
number_at (l ∷ ls) n (suc k) lt e =
    let found = number_at ls n k (omega arith) e in
    (found.0, (suc found.1.0, omega (arith, found.1.1), found.1.2), found.2)

from_numbers : (ls : List Leaf) (n : ℕ) → Contains (map (λ (l : Leaf). l.num) ls) n → HasNumber ls n
from_numbers ls n at = number_at ls n at.0 at.1 at.2

to_numbers : (ls : List Leaf) (l : Leaf) → Contains ls l → Contains (map (λ (k : Leaf). k.num) ls) l.num
to_numbers ls l at = (at.0, omega (arith, at.1, length-map ls (λ (k : Leaf). k.num)), get_or-map (λ (k : Leaf). k.num) ls at.0 l ∙ ap (λ (k : Leaf). k.num) at.2)

pub offer_numbers : (ls : List Leaf) (t : Tree) → one_of (map one ls) ≡ Some t → numbers t ≡ map (λ l. l.num) ls
offer_numbers [] t e = absurd (cc)
offer_numbers (l ∷ []) t e = let same : one l ≡ t = cc in sym (ap numbers same)
offer_numbers (l ∷ m ∷ ls) t e = ap numbers (sym (same_Some _ t e)) ∙ numbers_of_row (l ∷ m ∷ ls)

-- ---- a `max` of leaves
module _ (value : Leaf → ℕ) (held : List ℕ) where
  abbrev pub Held : Leaf → Type 0
  Held l = Contains held l.num

  -- a leaf that is held is worth something
  abbrev pub Earns : Leaf → Type 0
  Earns l = value l ≡ 0 → Held l → ⊥

  -- no two leaves are both held
  abbrev pub Apart : Leaf → Leaf → Type 0
  Apart l m = Held l → Held m → ⊥

  decided : (n : ℕ) → Contains held n ⊎ (Contains held n → ⊥)
  decided n = by_test (list_any (λ m. n == m) held) refl
    where
      by_test : (b : Bool) → list_any (λ m. n == m) held ≡ b → Contains held n ⊎ (Contains held n → ⊥)
      by_test true e = inl (Contains-from_any {K = ℕ} {eq = λ x y. x == y} (λ x y h. eq_from_test x y h) n held e)
      by_test false e = inr (λ at. let found = any_from (λ m. n == m) held n at (test_from_eq n n refl) in absurd (cc))

  bare_one : (n : ℕ) → (Contains held n → ⊥) → IsBare value held (n ∷ [])
  bare_one n bare = λ m at h. bare (subst (λ k. Contains held k) (sym (the_one n m at)) h)

  from_bare_one : (n : ℕ) → IsBare value held (n ∷ []) → Contains held n → ⊥
  from_bare_one n bare h = bare n (0, omega arith, refl) h

  bare_row : (ls : List Leaf) → Each (λ l. Held l → ⊥) ls → IsBare value held (numbers_of (row (map one ls)))
  bare_row ls none_held = λ n at h.
      let found = from_numbers ls n (subst (λ (ns : List ℕ). Contains ns n) (numbers_of_row ls) at) in
      Each-at (λ l. Held l → ⊥) ls found.0 none_held found.1 (subst (λ k. Contains held k) (sym found.2) h)

  from_bare_row : (ls : List Leaf) → IsBare value held (numbers_of (row (map one ls))) → Each (λ l. Held l → ⊥) ls
  from_bare_row ls bare = Each-from (λ l. Held l → ⊥) ls (λ l at h. bare l.num (subst (λ (ns : List ℕ). Contains ns l.num) (sym (numbers_of_row ls)) (to_numbers ls l at)) h)

  nothing_apart : (ls : List Leaf) → Each (λ l. Held l → ⊥) ls → EachPair Apart ls
  nothing_apart [] h = tt
  nothing_apart (l ∷ ls) h = (Each-map (λ m. Held m → ⊥) (Apart l) (λ m no first. no) ls h.1, nothing_apart ls h.1)

  from_at_most_one : (ls : List Leaf) → AtMostOne value held (row (map one ls)) → EachPair Apart ls
  from_at_most_one [] h = tt
  from_at_most_one (l ∷ ls) (inl h) = (Each-all (Apart l) (λ m first second. from_bare_one l.num h.0 first) ls, from_at_most_one ls h.1)
  from_at_most_one (l ∷ ls) (inr h) =
      let none_held = from_bare_row ls h in
      (Each-map (λ m. Held m → ⊥) (Apart l) (λ m no first. no) ls none_held, nothing_apart ls none_held)

  at_most_one : (ls : List Leaf) → EachPair Apart ls → AtMostOne value held (row (map one ls))
  at_most_one [] h = tt
  at_most_one (l ∷ ls) h = by_held (decided l.num) (at_most_one ls h.1)
    where
      by_held : Held l ⊎ (Held l → ⊥) → AtMostOne value held (row (map one ls)) → AtMostOne value held (row (map one (l ∷ ls)))
      by_held (inl first) rest = inr (bare_row ls (Each-map (Apart l) (λ m. Held m → ⊥) (λ m apart. apart first) ls h.0))
      by_held (inr bare) rest = inl (bare_one l.num bare, rest)

  from_thrifty_row : (ls : List Leaf) → AreThrifty value held (row (map one ls)) → Each Earns ls
  from_thrifty_row [] h = tt
  from_thrifty_row (l ∷ ls) h = (λ zero_worth first. from_bare_one l.num (h.0 zero_worth) first, from_thrifty_row ls h.1)

  thrifty_row : (ls : List Leaf) → Each Earns ls → AreThrifty value held (row (map one ls))
  thrifty_row [] h = tt
  thrifty_row (l ∷ ls) h = (λ zero_worth. bare_one l.num (h.0 zero_worth), thrifty_row ls h.1)

  below_greatest : (ls : List Leaf) → Each (λ l. value l ≤ greatest_of (worths_by value (row (map one ls)))) ls
  below_greatest [] = tt
  below_greatest (l ∷ ls) = (
    omega arith,
    Each-map (λ m. value m ≤ greatest_of (worths_by value (row (map one ls))))
        (λ m. value m ≤ greatest_of (worths_by value (row (map one (l ∷ ls))))) (λ m le. omega arith) ls (below_greatest ls),
  )

  idle_row : (ls : List Leaf) → Each Earns ls → greatest_of (worths_by value (row (map one ls))) ≡ 0 → IsBare value held (numbers_of (row (map one ls)))
  idle_row ls earn none_worth = bare_row ls (Each-from (λ l. Held l → ⊥) ls (λ l at.
      let le = Each-at (λ m. value m ≤ greatest_of (worths_by value (row (map one ls)))) ls l (below_greatest ls) at in
      Each-at Earns ls l earn at (omega arith)))

  from_thrifty : (ls : List Leaf) (t : Tree) → one_of (map one ls) ≡ Some t → IsThrifty value held t → Each Earns ls × EachPair Apart ls
  from_thrifty [] t e h = absurd (cc)
  from_thrifty (l ∷ []) t e h =
      let same : t ≡ one l = cc in
      let own = subst (IsThrifty value held) same h in
      ((λ zero_worth first. from_bare_one l.num (own zero_worth) first, tt), (tt, tt))
  from_thrifty (l ∷ m ∷ ls) t e h =
      let same : t ≡ join greatest (row (map one (l ∷ m ∷ ls))) = sym (same_Some _ t e) in
      let own = subst (IsThrifty value held) same h in
      (from_thrifty_row (l ∷ m ∷ ls) own.2, from_at_most_one (l ∷ m ∷ ls) own.1)

  to_thrifty : (ls : List Leaf) (t : Tree) → one_of (map one ls) ≡ Some t → Each Earns ls → EachPair Apart ls → IsThrifty value held t
  to_thrifty [] t e earn apart = absurd (cc)
  to_thrifty (l ∷ []) t e earn apart =
      let same : one l ≡ t = cc in
      subst (IsThrifty value held) same (λ zero_worth. bare_one l.num (earn.0 zero_worth))
  to_thrifty (l ∷ m ∷ ls) t e earn apart =
      subst (IsThrifty value held) (same_Some _ t e) (idle_row (l ∷ m ∷ ls) earn, at_most_one (l ∷ m ∷ ls) apart, thrifty_row (l ∷ m ∷ ls) earn)

  in_order : (ls : List Leaf) → EachPair Apart ls → (x y : Leaf) (i j : ℕ) → i < j → j < length ls → get_or ls i x ≡ x → get_or ls j y ≡ y → Held x → Held y → ⊥
  in_order ls apart x y i j lt short is_x is_y g h =
      let within : i < length ls = omega arith in
      let first : get_or ls i y ≡ x = get_or_default ls i y x within ∙ is_x in
      pairs_of Apart ls apart i j y lt short
      (subst (λ (k : Leaf). Contains held k.num) (sym first) g)
      (subst (λ (k : Leaf). Contains held k.num) (sym is_y) h)

  -- two leaves of different numbers, in either order
  both_apart : (ls : List Leaf) (l m : Leaf) → EachPair Apart ls → Contains ls l → Contains ls m → l.num < m.num → Apart l m
  both_apart ls l m apart at bt less g h = elim (cases_order at.0 bt.0) [
    | inl same ↦
        let is : l ≡ m = sym at.2 ∙ get_or_default ls at.0 l m at.1 ∙ ap (λ k. get_or ls k m) same ∙ bt.2 in
        let numbers_same = ap (λ (k : Leaf). k.num) is in absurd (omega (arith, numbers_same, less))
    | inr (inl lt) ↦ in_order ls apart l m at.0 bt.0 lt bt.1 at.2 bt.2 g h
    | inr (inr gt) ↦ in_order ls apart m l bt.0 at.0 gt at.1 bt.2 at.2 h g
  ]

module _ (a : Ask) (arrival : ℕ) (sound : IsSoundAsk a) where
  pub keeps_thrift : KeepsThrift a arrival
  keeps_thrift = λ now later window longer t u value held arrived early late few first second known thrifty.
      let ls = options_between a arrival now window in
      let ms = options_between a arrival later longer in
      let good = from_thrifty value held ls t first thrifty in
      let same = λ (m : Leaf) (at : Contains ms m) (h : Contains held m.num). back now later window longer t u arrived early first second held known m at h in
      to_thrifty value held ms u second
      (Each-from (Earns value held) ms (λ m at zero_worth h. Each-at (Earns value held) ls m good.0 (same m at h) zero_worth h))
      (EachPair-with (λ m. Contains ms m) IsBefore (Apart value held)
      (λ x y at bt less g h. both_apart value held ls x y good.1 (same x at g) (same y bt h) less g h)
      ms (Each-from (λ m. Contains ms m) ms (λ m at. at)) (between_rises a arrival sound later longer early (omega arith)))
    where
      -- a leaf that is held was in the first offer
      back : (now later window longer : ℕ) (t u : Tree) → arrival ≤ now → arrival ≤ later → offer a arrival now window ≡ Some t → offer a arrival later longer ≡ Some u →
          (held : List ℕ) → ((n : ℕ) → Contains held n → Contains (numbers u) n → Contains (numbers t) n) →
          (m : Leaf) → Contains (options_between a arrival later longer) m → Contains held m.num → Contains (options_between a arrival now window) m
      back now later window longer t u arrived early first second held known m at h =
          let here = subst (λ (ns : List ℕ). Contains ns m.num) (sym (offer_numbers (options_between a arrival later longer) u second)) (to_numbers (options_between a arrival later longer) m at) in
          let there = subst (λ (ns : List ℕ). Contains ns m.num) (offer_numbers (options_between a arrival now window) t first) (known m.num h here) in
          let found = from_numbers (options_between a arrival now window) m.num there in
          let is = one_leaf_by_number a arrival now later window longer t u found.0 m arrived early first second
          (subst (λ (ks : List Leaf). Contains ks found.0) (sym (offer_leaves (options_between a arrival now window) t first)) found.1)
          (subst (λ (ks : List Leaf). Contains ks m) (sym (offer_leaves (options_between a arrival later longer) u second)) at)
          found.2 in
          subst (λ k. Contains (options_between a arrival now window) k) is found.1

-- When an ask has expired, and which leaves its offers have.
use Rattle.std.proofs.Common.{◌≡◌, ◌⊎◌, ℕ, zero, suc, ◌+◌, ◌-◌, ◌*◌, ◌≤◌, ◌<◌, ◌==◌, ◌&&◌, Bool, true, false, cond, List, [], ◌∷◌, ◌++◌, map, All, Contains, Option, Some, None, refl, sym, ap, ◌∙◌, subst, arith, inl, inr}
use Rattle.std.specs.Prelude.{nat_le}
use Rattle.std.specs.List.{list_all}
use Rattle.std.proofs.lemmas.Bool.Decides.{nat_tests}
use Rattle.std.proofs.lemmas.List.Elements.{All-contains, Contains-append_left}
use Rattle.std.proofs.lemmas.Option.{same_Some}
use Rattle.tetri_base.specs.Lists.{Each}
use Rattle.tetri_base.proofs.ListLaws.{Each-append, Each-at, Each-from, Each-map, all_from, eq_from_test, from_all, test_from_eq}
use Rattle.tetri_strl.specs.declared.expr.Leaf.{Leaf}
use Rattle.tetri_strl.specs.Tree.{Tree, one, leaves}
use Rattle.tetri_request.specs.declared.ask.Ask.{Ask}
use Rattle.tetri_request.specs.declared.ask.Prefer.{Prefer}
use Rattle.tetri_request.specs.Cycles.{EarnsNothingExpired, HasOneLeafByNumber, OffersUntilExpired}
use Rattle.tetri_request.specs.Options.{HasExpired, IsSoundAsk, end_of, has_expired, offer, one_of, option_leaf, option_on, options_at, options_between, preferred}
use Rattle.tetri_request.proofs.OptionLemmas.{worth_falls}
use Rattle.tetri_request.proofs.OfferLemmas.{all_of, leaves_of_row}

abbrev pub IsIdle : Leaf → Type 0
IsIdle l = l.v ≡ 0

-- ---- lists
each_left : {X : Type 0} (P : X → Type 0) (xs ys : List X) → Each P (xs ++ ys) → Each P xs
each_left P [] ys h = tt
each_left P (x ∷ xs) ys h = (h.0, each_left P xs ys h.1)

each_right : {X : Type 0} (P : X → Type 0) (xs ys : List X) → Each P (xs ++ ys) → Each P ys
each_right P [] ys h = h
each_right P (x ∷ xs) ys h = each_right P xs ys h.1

each_of : (P : Leaf → Type 0) (ls : List Leaf) → All P ls → Each P ls
each_of P ls h = Each-from P ls (λ l at. All-contains P ls l h at)

idle_from_test : (ls : List Leaf) → list_all (λ l. l.v == 0) ls ≡ true → Each IsIdle ls
idle_from_test ls h = Each-map (λ (l : Leaf). (l.v == 0) ≡ true) IsIdle (λ l e. eq_from_test l.v 0 e) ls (from_all (λ (l : Leaf). l.v == 0) ls h)

test_from_idle : (ls : List Leaf) → Each IsIdle ls → list_all (λ l. l.v == 0) ls ≡ true
test_from_idle ls h = all_from (λ (l : Leaf). l.v == 0) ls (Each-map IsIdle (λ (l : Leaf). (l.v == 0) ≡ true) (λ l e. test_from_eq l.v 0 e) ls h)

-- where not all are worth nothing, one is worth something
abbrev pub HasWorth : List Leaf → Type 0
HasWorth ls = (l : Leaf) × Contains ls l × (0 < l.v)

some_worth : (ls : List Leaf) → list_all (λ l. l.v == 0) ls ≡ false → HasWorth ls
some_worth [] h = absurd (cc)
some_worth (l ∷ ls) h = by_worth (λ e. some_worth ls e) l.v refl
  where
    shift : HasWorth ls → HasWorth (l ∷ ls)
    shift found = (found.0, (suc found.1.0, omega (arith, found.1.1), found.1.2), found.2)

    by_worth : (list_all (λ (m : Leaf). m.v == 0) ls ≡ false → HasWorth ls) → (v : ℕ) → l.v ≡ v → HasWorth (l ∷ ls)
    by_worth rest zero e = shift (rest (subst (λ b. (b && list_all (λ (m : Leaf). m.v == 0) ls) ≡ false) (test_from_eq l.v 0 e) h))
    by_worth rest (suc v) e = (l, (0, omega arith, refl), omega arith)

-- ---- later options are worth no more
fall : (b c : Bool) (l m : Leaf) → (c ≡ true → b ≡ true) → m.v ≤ l.v → Each IsIdle (cond b (l ∷ []) []) → Each IsIdle (cond c (m ∷ []) [])
fall b false l m on le h = tt
fall false true l m on le h = absurd (let e = on refl in cc)
fall true true l m on le h = let z = h.0 in (omega arith, tt)

module _ (a : Ask) (arrival : ℕ) (sound : IsSoundAsk a) where
  on_falls : (now start num other set dur : ℕ) → arrival ≤ now → now ≤ start → Each IsIdle (option_on a arrival now num set dur) → Each IsIdle (option_on a arrival start other set dur)
  on_falls now start num other set dur arrived le h =
      fall (nat_le (end_of arrival now dur) a.deadline) (nat_le (end_of arrival start dur) a.deadline)
      (option_leaf a arrival now num set dur) (option_leaf a arrival start other set dur)
      in_time (worth_falls a sound (end_of arrival now dur) (end_of arrival start dur) sooner) h
    where
      sooner : now + dur - arrival ≤ start + dur - arrival
      sooner = omega arith

      in_time : nat_le (end_of arrival start dur) a.deadline ≡ true → nat_le (end_of arrival now dur) a.deadline ≡ true
      in_time e = let later : start + dur - arrival ≤ a.deadline = grind (arith, nat_tests, e) in
          let le : now + dur - arrival ≤ a.deadline = omega arith in grind (arith, nat_tests, le)

  preferred_falls : (now start num other : ℕ) (o : Option Prefer) → arrival ≤ now → now ≤ start → Each IsIdle (preferred a arrival now num o) → Each IsIdle (preferred a arrival start other o)
  preferred_falls now start num other None arrived le h = tt
  preferred_falls now start num other (Some p) arrived le h = on_falls now start num other p.set p.dur arrived le h

  at_falls : (now start : ℕ) → arrival ≤ now → now ≤ start → Each IsIdle (options_at a arrival now) → Each IsIdle (options_at a arrival start)
  at_falls now start arrived le h = Each-append IsIdle (preferred a arrival start (2 * (start - arrival)) a.prefer) _
      (preferred_falls now start (2 * (now - arrival)) (2 * (start - arrival)) a.prefer arrived le
      (each_left IsIdle (preferred a arrival now (2 * (now - arrival)) a.prefer) (option_on a arrival now (2 * (now - arrival) + 1) a.set a.dur) h))
      (on_falls now start (2 * (now - arrival) + 1) (2 * (start - arrival) + 1) a.set a.dur arrived le
      (each_right IsIdle (preferred a arrival now (2 * (now - arrival)) a.prefer) (option_on a arrival now (2 * (now - arrival) + 1) a.set a.dur) h))

  -- what the options of this slot say of all later ones
  pub expired_from_test : (now : ℕ) → arrival ≤ now → has_expired a arrival now ≡ true → HasExpired a arrival now
  expired_from_test now arrived h = λ start le. all_of IsIdle (options_at a arrival start) (at_falls now start arrived le (idle_from_test (options_at a arrival now) h))

  pub test_from_expired : (now : ℕ) → HasExpired a arrival now → has_expired a arrival now ≡ true
  test_from_expired now h = test_from_idle (options_at a arrival now) (each_of IsIdle (options_at a arrival now) (h now (omega arith)))

-- ---- the leaves of an offer
pub offer_leaves : (ls : List Leaf) (t : Tree) → one_of (map one ls) ≡ Some t → leaves t ≡ ls
offer_leaves [] t e = absurd (cc)
offer_leaves (l ∷ []) t e = let same : one l ≡ t = cc in sym (ap leaves same)
offer_leaves (l ∷ m ∷ ls) t e = ap leaves (sym (same_Some _ t e)) ∙ leaves_of_row (l ∷ m ∷ ls)

some_offer : (ls : List Leaf) (l : Leaf) → Contains ls l → (t : Tree) × (one_of (map one ls) ≡ Some t)
some_offer [] l at = absurd (omega (arith, at.1))
some_offer (m ∷ []) l at = (one m, refl)
some_offer (m ∷ n ∷ ls) l at = (_, refl)

module _ (a : Ask) (arrival : ℕ) where
  -- ---- what a number names
  abbrev pub IsPreferredAt : ℕ → Leaf → Type 0
  IsPreferredAt start l = (p : Prefer) × (a.prefer ≡ Some p) × (l ≡ option_leaf a arrival start (2 * (start - arrival)) p.set p.dur)

  abbrev pub IsGeneralAt : ℕ → Leaf → Type 0
  IsGeneralAt start l = l ≡ option_leaf a arrival start (2 * (start - arrival) + 1) a.set a.dur

  abbrev pub StartsAtLeast : ℕ → Leaf → Type 0
  StartsAtLeast from l = (start : ℕ) × (from ≤ start) × (IsPreferredAt start l ⊎ IsGeneralAt start l)

  each_one : (P : Leaf → Type 0) (b : Bool) (l : Leaf) → P l → Each P (cond b (l ∷ []) [])
  each_one P true l h = (h, tt)
  each_one P false l h = tt

  preferred_named : (from start : ℕ) (o : Option Prefer) → o ≡ a.prefer → from ≤ start → Each (StartsAtLeast from) (preferred a arrival start (2 * (start - arrival)) o)
  preferred_named from start None e le = tt
  preferred_named from start (Some p) e le = each_one (StartsAtLeast from) (nat_le (end_of arrival start p.dur) a.deadline)
      (option_leaf a arrival start (2 * (start - arrival)) p.set p.dur) (start, le, inl (p, sym e, refl))

  at_named : (from start : ℕ) → from ≤ start → Each (StartsAtLeast from) (options_at a arrival start)
  at_named from start le = Each-append (StartsAtLeast from) (preferred a arrival start (2 * (start - arrival)) a.prefer) _
      (preferred_named from start a.prefer refl le)
      (each_one (StartsAtLeast from) (nat_le (end_of arrival start a.dur) a.deadline)
      (option_leaf a arrival start (2 * (start - arrival) + 1) a.set a.dur) (start, le, inr refl))

  between_named : (low from n : ℕ) → low ≤ from → Each (StartsAtLeast low) (options_between a arrival from n)
  between_named low from zero le = tt
  between_named low from (suc n) le = Each-append (StartsAtLeast low) (options_at a arrival from) _ (at_named low from le) (between_named low (from + 1) n (omega arith))

  same_prefer : (p q : Prefer) → a.prefer ≡ Some p → a.prefer ≡ Some q → p ≡ q
  same_prefer p q e f = cc

  same_leaf : (s u : ℕ) (l m : Leaf) → arrival ≤ s → arrival ≤ u → IsPreferredAt s l ⊎ IsGeneralAt s l → IsPreferredAt u m ⊎ IsGeneralAt u m → l.num ≡ m.num → l ≡ m
  same_leaf s u l m p q (inl x) (inl y) e =
      let left : l.num ≡ 2 * (s - arrival) = ap (λ (k : Leaf). k.num) x.2 in
      let right : m.num ≡ 2 * (u - arrival) = ap (λ (k : Leaf). k.num) y.2 in
      let starts : s ≡ u = omega arith in
      x.2 ∙ ap (λ n. option_leaf a arrival n (2 * (n - arrival)) x.0.set x.0.dur) starts
      ∙ ap (λ (r : Prefer). option_leaf a arrival u (2 * (u - arrival)) r.set r.dur) (same_prefer x.0 y.0 x.1 y.1) ∙ sym y.2
  same_leaf s u l m p q (inl x) (inr y) e =
      let left : l.num ≡ 2 * (s - arrival) = ap (λ (k : Leaf). k.num) x.2 in
      let right : m.num ≡ 2 * (u - arrival) + 1 = ap (λ (k : Leaf). k.num) y in
      absurd (omega arith)
  same_leaf s u l m p q (inr x) (inl y) e =
      let left : l.num ≡ 2 * (s - arrival) + 1 = ap (λ (k : Leaf). k.num) x in
      let right : m.num ≡ 2 * (u - arrival) = ap (λ (k : Leaf). k.num) y.2 in
      absurd (omega arith)
  same_leaf s u l m p q (inr x) (inr y) e =
      let left : l.num ≡ 2 * (s - arrival) + 1 = ap (λ (k : Leaf). k.num) x in
      let right : m.num ≡ 2 * (u - arrival) + 1 = ap (λ (k : Leaf). k.num) y in
      let starts : s ≡ u = omega arith in
      x ∙ ap (λ n. option_leaf a arrival n (2 * (n - arrival) + 1) a.set a.dur) starts ∙ sym y

  pub one_leaf_by_number : HasOneLeafByNumber a arrival
  one_leaf_by_number = λ now later window longer t u l m arrived early first second at bt same.
      let left = Each-at (StartsAtLeast arrival) (options_between a arrival now window) l (between_named arrival now window arrived)
      (subst (λ (ls : List Leaf). Contains ls l) (offer_leaves (options_between a arrival now window) t first) at) in
      let right = Each-at (StartsAtLeast arrival) (options_between a arrival later longer) m (between_named arrival later longer early)
      (subst (λ (ls : List Leaf). Contains ls m) (offer_leaves (options_between a arrival later longer) u second) bt) in
      same_leaf left.0 right.0 l m left.1 right.1 left.2 right.2 same

  -- ---- what has expired
  between_idle : (now from n : ℕ) → HasExpired a arrival now → now ≤ from → Each IsIdle (options_between a arrival from n)
  between_idle now from zero h le = tt
  between_idle now from (suc n) h le = Each-append IsIdle (options_at a arrival from) _ (each_of IsIdle (options_at a arrival from) (h from le)) (between_idle now (from + 1) n h (omega arith))

  pub earns_nothing : EarnsNothingExpired a arrival
  earns_nothing = λ now later window t h le same.
      subst (λ (ls : List Leaf). All IsIdle ls) (sym (offer_leaves (options_between a arrival later window) t same))
      (all_of IsIdle (options_between a arrival later window) (between_idle now later window h le))

  preferred_starts : (start : ℕ) (o : Option Prefer) → Each (λ l. l.start ≡ start) (preferred a arrival start (2 * (start - arrival)) o)
  preferred_starts start None = tt
  preferred_starts start (Some p) = each_one (λ l. l.start ≡ start) (nat_le (end_of arrival start p.dur) a.deadline) (option_leaf a arrival start (2 * (start - arrival)) p.set p.dur) refl

  at_starts : (start : ℕ) → Each (λ l. l.start ≡ start) (options_at a arrival start)
  at_starts start = Each-append (λ l. l.start ≡ start) (preferred a arrival start (2 * (start - arrival)) a.prefer) _ (preferred_starts start a.prefer)
      (each_one (λ l. l.start ≡ start) (nat_le (end_of arrival start a.dur) a.deadline) (option_leaf a arrival start (2 * (start - arrival) + 1) a.set a.dur) refl)

  with_worth : (now window : ℕ) (l : Leaf) → 1 ≤ window → Contains (options_at a arrival now) l → Contains (options_between a arrival now window) l
  with_worth now zero l some at = absurd (omega arith)
  with_worth now (suc n) l some at = Contains-append_left (options_at a arrival now) (options_between a arrival (now + 1) n) l at

  offered_now : IsSoundAsk a → (now window : ℕ) → arrival ≤ now → 1 ≤ window → (HasExpired a arrival now → ⊥) →
      (t : Tree) × (offer a arrival now window ≡ Some t) × (l : Leaf) × Contains (leaves t) l × (l.start ≡ now) × (0 < l.v)
  offered_now sound now window arrived some alive = by_test (has_expired a arrival now) refl
    where
      by_test : (b : Bool) → has_expired a arrival now ≡ b →
          (t : Tree) × (offer a arrival now window ≡ Some t) × (l : Leaf) × Contains (leaves t) l × (l.start ≡ now) × (0 < l.v)
      by_test true e = absurd (alive (expired_from_test a arrival sound now arrived e))
      by_test false e =
          let found = some_worth (options_at a arrival now) e in
          let at = with_worth now window found.0 some found.1 in
          let made = some_offer (options_between a arrival now window) found.0 at in (
            made.0,
            made.1,
            found.0,
            subst (λ (ls : List Leaf). Contains ls found.0) (sym (offer_leaves (options_between a arrival now window) made.0 made.1)) at,
            Each-at (λ l. l.start ≡ now) (options_at a arrival now) found.0 (at_starts now) found.1,
            found.2,
          )

  pub offers_until_expired : IsSoundAsk a → OffersUntilExpired a arrival
  offers_until_expired sound = offered_now sound

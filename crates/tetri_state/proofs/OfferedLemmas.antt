-- What jobs offer from slot to slot.
use Rattle.std.proofs.Common.{◌≡◌, ℕ, zero, suc, ◌+◌, ◌-◌, ◌*◌, ◌<◌, ◌≤◌, ◌==◌, Bool, true, false, cond, List, [], ◌∷◌, length, get_or, All, Contains, Option, Some, None, refl, sym, ap, ◌∙◌, subst, arith, inl, inr}
use Rattle.std.specs.Prelude.{IfSome, nat_le, unwrap_or}
use Rattle.std.specs.List.{find}
use Rattle.std.proofs.lemmas.List.{get_or-map, length-map}
use Rattle.std.proofs.lemmas.List.Elements.{Contains-append_cases, Contains-append_left, Contains-append_right, Contains-get_or}
use Rattle.tetri_base.specs.Lists.{Each}
use Rattle.tetri_base.proofs.ListLaws.{Each-append, Each-at}
use Rattle.tetri_strl.specs.declared.expr.Leaf.{Leaf}
use Rattle.tetri_strl.specs.Thrifty.{IsThrifty}
use Rattle.tetri_strl.specs.Tree.{Tree, leaves, numbers}
use Rattle.tetri_strl.specs.WellMade.{IsWellMade}
use Rattle.tetri_space.proofs.InstanceLaws.{EachLeaf-at, find-by_key}
use Rattle.tetri_request.specs.declared.ask.Ask.{Ask}
use Rattle.tetri_request.specs.declared.ask.Prefer.{Prefer}
use Rattle.tetri_request.specs.Options.{IsSetOf, IsSoundAsk, end_of, has_expired as ask_has_expired, offer, option_leaf, option_on, options_at, options_between, preferred}
use Rattle.tetri_request.proofs.AskLaws.{IsOffer, keeps_thrift, offer_is, offer_leaves, offer_numbers, offers_until_expired, one_leaf_by_number, test_from_expired}
use Rattle.tetri_trace.specs.Scenario.{Demand, Scenario, strl, asks, submission_of}
use Rattle.tetri_trace.specs.Sound.{IsAskOver, IsSound, IsSoundDemand}
use Rattle.tetri_trace.proofs.TraceLaws.{submission_sound}
use Rattle.tetri_state.specs.Begin.{has_expired, is_spent}
use Rattle.tetri_state.specs.Snapshot.{ArrivedBefore, no_leaves, offered, offered_for}

-- an expression that may be offered, of sets below this number
pub record IsGoodOffer (sets : ℕ) (e : Tree) : Type 0 where
  pub well_made : IsWellMade e
  pub known_sets : All (λ l. l.set < sets) (leaves e)

-- each number is one of these leaves'
abbrev pub AreNumbersOf : Tree → List ℕ → Type 0
AreNumbersOf e ns = (n : ℕ) → Contains ns n → (l : Leaf) × Contains (leaves e) l × (l.num ≡ n)

-- what is offered in a slot, beside what the same job offered in the slot before
pub record IsNextOffer (e u : Tree) (now window : ℕ) : Type 0 where
  -- a leaf that still starts in the window is offered again
  pub stays : (l : Leaf) → Contains (leaves e) l → now ≤ l.start → l.start < now + window → find (λ m. m.num == l.num) (leaves u) ≡ Some l
  -- a number names the same leaf
  pub same : (l m : Leaf) → Contains (leaves e) l → Contains (leaves u) m → l.num ≡ m.num → l ≡ m
  -- thrift for what was offered is thrift for what is offered
  pub thrift : (value : Leaf → ℕ) (held : List ℕ) → AreNumbersOf e held → IsThrifty value held e → IsThrifty value held u

-- a leaf is the only one of its number
pub only_leaf : (e : Tree) → IsWellMade e → (l m : Leaf) → Contains (leaves e) l → Contains (leaves e) m → l.num ≡ m.num → l ≡ m
only_leaf e good l m at bt same =
    let first = find-by_key (λ (k : Leaf). k.num) (leaves e) l good.distinct at in
    let second = find-by_key (λ (k : Leaf). k.num) (leaves e) m good.distinct bt in
    let both : Some l ≡ Some m = sym first ∙ ap (λ n. find (λ (k : Leaf). k.num == n) (leaves e)) same ∙ second in
    cc

module _ (a : Ask) (arrival : ℕ) where
  one_start : (b : Bool) (l : Leaf) → Each (λ m. m.start ≡ l.start) (cond b (l ∷ []) [])
  one_start true l = (refl, tt)
  one_start false l = tt

  on_starts : (start num set dur : ℕ) → Each (λ l. l.start ≡ start) (option_on a arrival start num set dur)
  on_starts start num set dur = one_start (nat_le (end_of arrival start dur) a.deadline) (option_leaf a arrival start num set dur)

  preferred_starts : (start num : ℕ) (o : Option Prefer) → Each (λ l. l.start ≡ start) (preferred a arrival start num o)
  preferred_starts start num None = tt
  preferred_starts start num (Some p) = on_starts start num p.set p.dur

  at_starts : (start : ℕ) → Each (λ l. l.start ≡ start) (options_at a arrival start)
  at_starts start =
      Each-append (λ l. l.start ≡ start) (preferred a arrival start (2 * (start - arrival)) a.prefer) (option_on a arrival start (2 * (start - arrival) + 1) a.set a.dur)
      (preferred_starts start (2 * (start - arrival)) a.prefer) (on_starts start (2 * (start - arrival) + 1) a.set a.dur)

  -- one slot more has the same options and its own
  grows : (from n : ℕ) (l : Leaf) → Contains (options_between a arrival from n) l → Contains (options_between a arrival from (suc n)) l
  grows from zero l at = absurd (omega (arith, at.1))
  grows from (suc n) l at = elim (Contains-append_cases (options_at a arrival from) (options_between a arrival (from + 1) n) l at) [
    | inl here ↦ Contains-append_left (options_at a arrival from) (options_between a arrival (from + 1) (suc n)) l here
    | inr rest ↦ Contains-append_right (options_at a arrival from) (options_between a arrival (from + 1) (suc n)) l (grows (from + 1) n l rest)
  ]

  -- an option that starts after the first slot stands in the window that begins one slot later
  later : (from n : ℕ) (l : Leaf) → from < l.start → Contains (options_between a arrival from n) l → Contains (options_between a arrival (from + 1) n) l
  later from zero l after at = absurd (omega (arith, at.1))
  later from (suc n) l after at = elim (Contains-append_cases (options_at a arrival from) (options_between a arrival (from + 1) n) l at) [
    | inl here ↦
        let starts = Each-at (λ (m : Leaf). m.start ≡ from) (options_at a arrival from) l (at_starts from) here in
        absurd (omega (arith, starts, after))
    | inr rest ↦ grows (from + 1) n l rest
  ]

  module _ (sound : IsSoundAsk a) where
    -- an ask that has not expired has an offer
    is_made : (now window : ℕ) → arrival ≤ now → 1 ≤ window → ask_has_expired a arrival now ≡ false → (e : Tree) × (offer a arrival now window ≡ Some e)
    is_made now window arrived some alive =
        let found = offers_until_expired a arrival sound now window arrived some
        (λ expired. let e : true ≡ false = sym (test_from_expired a arrival sound now expired) ∙ alive in absurd cc) in
        (found.0, found.1)

    is_offer : (now window : ℕ) (e : Tree) → arrival ≤ now → now ≤ 10000 → window ≤ 64 → offer a arrival now window ≡ Some e → IsOffer a arrival e
    is_offer now window e arrived early few is = subst (λ (o : Option Tree). IfSome o (IsOffer a arrival)) is (offer_is a arrival now window sound arrived early few)

    leaf_number : (last window : ℕ) (e : Tree) → offer a arrival last window ≡ Some e → (l : Leaf) → Contains (leaves e) l → Contains (numbers e) l.num
    leaf_number last window e is l at =
        let ls = options_between a arrival last window in
        let among = subst (λ (ks : List Leaf). Contains ks l) (offer_leaves ls e is) at in
        subst (λ (ns : List ℕ). Contains ns l.num) (sym (offer_numbers ls e is))
        (among.0, omega (arith, among.1, length-map ls (λ (k : Leaf). k.num)), get_or-map (λ (k : Leaf). k.num) ls among.0 l l.num among.1 ∙ ap (λ (k : Leaf). k.num) among.2)

    next_made : (last now window : ℕ) (e u : Tree) → arrival ≤ last → last + 1 ≡ now → now ≤ 10000 → window ≤ 64 → offer a arrival last window ≡ Some e → offer a arrival now window ≡ Some u →
        IsNextOffer e u now window
    next_made last now window e u arrived before early few first second = record {
      stays = λ l at from to.
          let ls = options_between a arrival last window in
          let ms = options_between a arrival now window in
          let among = subst (λ (ks : List Leaf). Contains ks l) (offer_leaves ls e first) at in
          let behind = later last window l (omega (arith, from, before)) among in
          let there : Contains ms l = subst (λ n. Contains (options_between a arrival n window) l) before behind in
          find-by_key (λ (k : Leaf). k.num) (leaves u) l (is_offer now window u (omega (arith, arrived, before)) early few second).well_made.distinct
          (subst (λ (ks : List Leaf). Contains ks l) (sym (offer_leaves ms u second)) there);
      same = λ l m at bt is. one_leaf_by_number a arrival last now window window e u l m arrived (omega (arith, arrived, before)) first second at bt is;
      thrift = λ value held named thrifty.
          keeps_thrift a arrival sound last now window window e u value held arrived (omega (arith, arrived, before)) early few first second
          (λ n here there. let l = named n here in subst (Contains (numbers e)) l.2 (leaf_number last window e first l.0 l.1)) thrifty;
    }

module _ (sets arrival window : ℕ) (some : 1 ≤ window) (few : window ≤ 64) where
  -- what is offered may be offered
  good_for : (d : Demand) (now : ℕ) → IsSoundDemand sets arrival d → arrival ≤ now → now ≤ 10000 → is_spent d arrival now ≡ false → IsGoodOffer sets (offered_for d arrival now window)
  good_for (strl e) now sound arrived early alive = record { well_made = sound.well_made; known_sets = sound.known_sets }
  good_for (asks a) now sound arrived early alive =
      let made = is_made a arrival sound.sound now window arrived some alive in
      let is = is_offer a arrival sound.sound now window made.0 arrived early few made.1 in
      subst (λ (o : Option Tree). IsGoodOffer sets (unwrap_or o no_leaves)) (sym made.1)
      (record {
        well_made = is.well_made;
        known_sets = λ k d lt.
            let l = get_or (leaves made.0) k d in
            sound.known_sets l.set (EachLeaf-at (λ (m : Leaf). IsSetOf a m.set) made.0 l is.sets (Contains-get_or (leaves made.0) k d lt));
      })

  next_for : (d : Demand) (last now : ℕ) → IsSoundDemand sets arrival d → arrival ≤ last → last + 1 ≡ now → now ≤ 10000 → is_spent d arrival last ≡ false → is_spent d arrival now ≡ false →
      IsNextOffer (offered_for d arrival last window) (offered_for d arrival now window) now window
  next_for (strl e) last now sound arrived before early was alive = record {
    stays = λ l at from to. find-by_key (λ (k : Leaf). k.num) (leaves e) l sound.well_made.distinct at;
    same = only_leaf e sound.well_made;
    thrift = λ value held named thrifty. thrifty;
  }
  next_for (asks a) last now sound arrived before early was alive =
      let first = is_made a arrival sound.sound last window arrived some was in
      let second = is_made a arrival sound.sound now window (omega (arith, arrived, before)) some alive in
      subst (λ (o : Option Tree). IsNextOffer (unwrap_or o no_leaves) (offered_for (asks a) arrival now window) now window) (sym first.1)
      (subst (λ (o : Option Tree). IsNextOffer first.0 (unwrap_or o no_leaves) now window) (sym second.1)
      (next_made a arrival sound.sound last now window first.0 second.0 arrived before early few first.1 second.1))

  -- in all offers a number names the same leaf
  one_leaf_for : (d : Demand) (now other : ℕ) (l m : Leaf) → IsSoundDemand sets arrival d → arrival ≤ now → arrival ≤ other →
      Contains (leaves (offered_for d arrival now window)) l → Contains (leaves (offered_for d arrival other window)) m → l.num ≡ m.num → l ≡ m
  one_leaf_for (strl e) now other l m sound arrived early at bt same = only_leaf e sound.well_made l m at bt same
  one_leaf_for (asks a) now other l m sound arrived early at bt same = by_offers (offer a arrival now window) (offer a arrival other window) refl refl at bt
    where
      by_offers : (o p : Option Tree) → offer a arrival now window ≡ o → offer a arrival other window ≡ p →
          Contains (leaves (unwrap_or o no_leaves)) l → Contains (leaves (unwrap_or p no_leaves)) m → l ≡ m
      by_offers None p first second here there = absurd (omega (arith, here.1))
      by_offers (Some e) None first second here there = absurd (omega (arith, there.1))
      by_offers (Some e) (Some u) first second here there = one_leaf_by_number a arrival now other window window e u l m arrived early first second here there same

module _ (t : Scenario) (sound : IsSound t) (job : ℕ) where
  demand_sound : job < length t.submissions → IsSoundDemand (length t.sets) (submission_of t job).arrival (submission_of t job).demand
  demand_sound known = (submission_sound t sound job known).demand

  pub good_offer : (now : ℕ) → ArrivedBefore t (now + 1) job → now ≤ 10000 → has_expired t now job ≡ false → IsGoodOffer (length t.sets) (offered t now job)
  good_offer now arrived early alive =
      good_for (length t.sets) (submission_of t job).arrival t.header.window sound.header.some_slots sound.header.few_slots (submission_of t job).demand now
      (demand_sound arrived.0) (omega (arith, arrived.1)) early alive

  pub next_offer : (last now : ℕ) → ArrivedBefore t (last + 1) job → last + 1 ≡ now → now ≤ 10000 → has_expired t last job ≡ false → has_expired t now job ≡ false →
      IsNextOffer (offered t last job) (offered t now job) now t.header.window
  next_offer last now arrived before early was alive =
      next_for (length t.sets) (submission_of t job).arrival t.header.window sound.header.some_slots sound.header.few_slots (submission_of t job).demand last now
      (demand_sound arrived.0) (omega (arith, arrived.1)) before early was alive

  -- an ask that has not expired has an offer
  pub ask_has_offer : (now : ℕ) (a : Ask) → ArrivedBefore t (now + 1) job → has_expired t now job ≡ false → (submission_of t job).demand ≡ asks a →
      (e : Tree) × (offer a (submission_of t job).arrival now t.header.window ≡ Some e)
  ask_has_offer now a arrived alive is =
      let good : IsAskOver (length t.sets) a = subst (IsSoundDemand (length t.sets) (submission_of t job).arrival) is (demand_sound arrived.0) in
      is_made a (submission_of t job).arrival good.sound now t.header.window (omega (arith, arrived.1)) sound.header.some_slots
      (subst (λ d. is_spent d (submission_of t job).arrival now ≡ false) is alive)

  pub one_leaf : (now other : ℕ) (l m : Leaf) → ArrivedBefore t (now + 1) job → ArrivedBefore t (other + 1) job →
      Contains (leaves (offered t now job)) l → Contains (leaves (offered t other job)) m → l.num ≡ m.num → l ≡ m
  one_leaf now other l m arrived early at bt same =
      one_leaf_for (length t.sets) (submission_of t job).arrival t.header.window sound.header.some_slots sound.header.few_slots (submission_of t job).demand now other l m
      (demand_sound arrived.0) (omega (arith, arrived.1)) (omega (arith, early.1)) at bt same

-- What is carried over of a plan is thrifty.
use Rattle.std.proofs.Common.{◌≡◌, ℕ, zero, suc, ◌+◌, ◌≤◌, ◌<◌, ◌==◌, ◌&&◌, Bool, true, false, cond, List, [], ◌∷◌, Option, Some, None, length, get_or, map, filter, Contains, nat_le, nat_lt, refl, sym, ap, ◌∙◌, subst, inl, inr, arith}
use Rattle.std.specs.List.{find}
use Rattle.std.proofs.lemmas.Bool.Decides.{nat_tests}
use Rattle.std.proofs.lemmas.List.Elements.{All-filter, All-nil, Contains-get_or}
use Rattle.tetri_base.specs.Lists.{Each, has}
use Rattle.tetri_base.proofs.ListLaws.{Each-from, Each-get}
use Rattle.tetri_strl.specs.declared.expr.Leaf.{Leaf}
use Rattle.tetri_strl.specs.declared.grants.Grant.{Grant}
use Rattle.tetri_strl.specs.Aligned.{EachLeaf}
use Rattle.tetri_strl.specs.Thrifty.{IsThriftyFor, held_leaves}
use Rattle.tetri_strl.specs.Prune.{starts_in}
use Rattle.tetri_strl.specs.Tree.{Tree, leaves}
use Rattle.tetri_strl.specs.Worth.{granted, leaf_worth}
use Rattle.tetri_strl.proofs.ExprLaws.{Begins, NamesNot, one_held_start, thrifty_of-same}
use Rattle.tetri_space.proofs.InstanceLaws.{EachLeaf-at, find-within}
use Rattle.tetri_space.specs.Lawful.{IsLawful, IsLawfulGrant}
use Rattle.tetri_space.specs.Space.{Space, leaf_in}
use Rattle.tetri_trace.specs.Scenario.{Scenario}
use Rattle.tetri_trace.specs.Sound.{IsSound}
use Rattle.tetri_space.specs.Trimmed.{IsThriftyForAll}
use Rattle.tetri_state.specs.Begin.{has_expired}
use Rattle.tetri_state.specs.Planning.{IsCarry, instance_of, is_live, still_pending}
use Rattle.tetri_state.specs.Snapshot.{ArrivedBefore, Snapshot, offered}
use Rattle.tetri_state.proofs.Ascending.{each_passing}
use Rattle.tetri_state.proofs.LaunchLemmas.{bid_known, each_has, held_grant, leaf_pending, same_from_test, thrifty_without}
use Rattle.tetri_state.proofs.OfferedLemmas.{AreNumbersOf, IsGoodOffer, IsNextOffer, good_offer, next_offer}
use Rattle.tetri_state.proofs.StandLemmas.{Stands, WasPlanned}

-- where all grants of a job are kept
module _ (keeps : Grant → Bool) (job : ℕ) where
  other_job : (g : Grant) → (g.job ≡ job → keeps g ≡ true) → keeps g ≡ false → (g.job == job) ≡ false
  other_job g kept dropped = by_test (g.job == job) refl
    where
      by_test : (b : Bool) → (g.job == job) ≡ b → b ≡ false
      by_test true same =
          let at : g.job ≡ job = grind (arith, nat_tests) in
          let e : true ≡ false = sym (kept at) ∙ dropped in
          absurd cc
      by_test false differ = refl

  granted_kept : (a : List Grant) (leaf : ℕ) → Each (λ g. g.job ≡ job → keeps g ≡ true) a → granted a job leaf ≡ granted (filter keeps a) job leaf
  granted_kept [] leaf kept = refl
  granted_kept (g ∷ a) leaf kept = by_test (keeps g) refl (granted_kept a leaf kept.1)
    where
      by_test : (b : Bool) → keeps g ≡ b → granted a job leaf ≡ granted (filter keeps a) job leaf →
          cond (g.job == job && g.leaf == leaf) (length g.nodes) 0 + granted a job leaf ≡ granted (cond b (g ∷ filter keeps a) (filter keeps a)) job leaf
      by_test true is rest = ap (λ n. cond (g.job == job && g.leaf == leaf) (length g.nodes) 0 + n) rest
      by_test false is rest =
          ap (λ b. cond (b && g.leaf == leaf) (length g.nodes) 0 + granted a job leaf) (other_job g kept.0 is) ∙ omega (arith, rest)

  held_kept : (a : List Grant) → Each (λ g. g.job ≡ job → keeps g ≡ true) a → held_leaves a job ≡ held_leaves (filter keeps a) job
  held_kept [] kept = refl
  held_kept (g ∷ a) kept = by_test (keeps g) refl (held_kept a kept.1)
    where
      by_job : (b : Bool) → held_leaves a job ≡ held_leaves (filter keeps a) job →
          map (λ (h : Grant). h.leaf) (cond b (g ∷ filter (λ h. h.job == job) a) (filter (λ h. h.job == job) a)) ≡
          map (λ (h : Grant). h.leaf) (cond b (g ∷ filter (λ h. h.job == job) (filter keeps a)) (filter (λ h. h.job == job) (filter keeps a)))
      by_job true rest = ap (λ ns. g.leaf ∷ ns) rest
      by_job false rest = rest

      by_test : (b : Bool) → keeps g ≡ b → held_leaves a job ≡ held_leaves (filter keeps a) job →
          held_leaves (g ∷ a) job ≡ held_leaves (cond b (g ∷ filter keeps a) (filter keeps a)) job
      by_test true is rest = by_job (g.job == job) rest
      by_test false is rest =
          ap (λ b. map (λ (h : Grant). h.leaf) (cond b (g ∷ filter (λ h. h.job == job) a) (filter (λ h. h.job == job) a))) (other_job g kept.0 is) ∙ rest

pub nothing_lawful : (i : Space) → IsLawful i []
nothing_lawful i = record { grants = All-nil (IsLawfulGrant i); apart = λ j k d before within. absurd (omega arith) }

-- a leaf that is held has a grant of the job
granted_leaf : (a : List Grant) (job n : ℕ) → Contains (held_leaves a job) n → (g : Grant) × Contains a g × (g.job ≡ job) × (g.leaf ≡ n)
granted_leaf [] job n at = absurd (omega (arith, at.1))
granted_leaf (g ∷ a) job n at = by_test (g.job == job) refl at (granted_leaf a job n)
  where
    further : (h : Grant) × Contains a h × (h.job ≡ job) × (h.leaf ≡ n) → (h : Grant) × Contains (g ∷ a) h × (h.job ≡ job) × (h.leaf ≡ n)
    further found = (found.0, (suc found.1.0, omega (arith, found.1.1), found.1.2), found.2, found.3)

    by_place : (g.job ≡ job) → (Contains (held_leaves a job) n → (h : Grant) × Contains a h × (h.job ≡ job) × (h.leaf ≡ n)) →
        (k : ℕ) → k < suc (length (held_leaves a job)) → get_or (g.leaf ∷ held_leaves a job) k n ≡ n → (h : Grant) × Contains (g ∷ a) h × (h.job ≡ job) × (h.leaf ≡ n)
    by_place same rest zero lt is = (g, (0, omega arith, refl), same, is)
    by_place same rest (suc k) lt is = further (rest (k, omega (arith, lt), is))

    by_test : (b : Bool) → (g.job == job) ≡ b →
        Contains (map (λ (h : Grant). h.leaf) (cond b (g ∷ filter (λ h. h.job == job) a) (filter (λ h. h.job == job) a))) n →
        (Contains (held_leaves a job) n → (h : Grant) × Contains a h × (h.job ≡ job) × (h.leaf ≡ n)) →
        (h : Grant) × Contains (g ∷ a) h × (h.job ≡ job) × (h.leaf ≡ n)
    by_test true same at rest = by_place (same_from_test g.job job same) rest at.0 at.1 at.2
    by_test false same at rest = further (rest at)

in_window : (from to start : ℕ) → (nat_le from start && nat_lt start to) ≡ true → (from ≤ start) × (start < to)
in_window from to start e = (grind (arith, nat_tests), grind (arith, nat_tests))

module _ (t : Scenario) (s : Snapshot) (sound : IsSound t) (stands : Stands t (s.now + 1) s) (early : s.now < 10000) where
  abbrev i : Space
  i = instance_of t s

  abbrev keeps : Grant → Bool
  keeps g = is_live i (leaf_in i.bids g.job g.leaf)

  module _ (job : ℕ) (waits : has s.pending job ≡ true) where
    arrived : ArrivedBefore t (s.now + 1) job
    arrived = each_has (ArrivedBefore t (s.now + 1)) s.pending job stands.arrived waits

    alive : has_expired t s.now job ≡ false
    alive = each_has (λ j. has_expired t s.now j ≡ false) s.pending job (stands.alive (omega arith)) waits

    good : IsGoodOffer (length t.sets) (offered t s.now job)
    good = good_offer t sound job s.now arrived (omega (arith, early)) alive

    none_thrifty : (a : List Grant) → NamesNot job a → IsThriftyFor a job (offered t s.now job)
    none_thrifty a none = thrifty_without a job (offered t s.now job) good.well_made.sound none

    -- All grants of a pending job were planned for one offer, and start in one slot. So all are kept or none is.
    module _ (last : ℕ) (was : WasPlanned t s.now s.plan job last) where
      abbrev held : List ℕ
      held = held_leaves s.plan job

      abbrev before : Tree
      before = offered t last job

      next : IsNextOffer before (offered t s.now job) s.now t.header.window
      next = next_offer t sound job last s.now was.arrived was.before (omega (arith, early)) was.alive alive

      start : (slot : ℕ) × EachLeaf (Begins (leaf_worth s.plan job) held slot) before
      start =
          one_held_start (leaf_worth s.plan job) held before
          (good_offer t sound job last was.arrived (omega (arith, early, was.before)) was.alive).well_made.aligned was.thrifty

      abbrev stays : Bool
      stays = nat_le i.now start.0 && nat_lt start.0 (i.now + i.window)

      -- a leaf that was offered is live exactly where its start is in the window
      live_again : (num : ℕ) (l : Leaf) → Contains (leaves before) l → l.num ≡ num → is_live i (find (λ m. m.num == num) (leaves (offered t s.now job))) ≡ starts_in i.now (i.now + i.window) l
      live_again num l at number = by_test (starts_in i.now (i.now + i.window) l) refl
        where
          by_leaf : (o : Option Leaf) → find (λ m. m.num == num) (leaves (offered t s.now job)) ≡ o → starts_in i.now (i.now + i.window) l ≡ false → is_live i o ≡ false
          by_leaf None is out = refl
          by_leaf (Some m) is out =
              let found = find-within (λ (k : Leaf). k.num == num) (leaves (offered t s.now job)) m is in
              let same : l ≡ m = next.same l m at found.0 (number ∙ sym (same_from_test m.num num found.1)) in
              ap (starts_in i.now (i.now + i.window)) (sym same) ∙ out

          by_test : (b : Bool) → starts_in i.now (i.now + i.window) l ≡ b → is_live i (find (λ m. m.num == num) (leaves (offered t s.now job))) ≡ b
          by_test true is =
              let within = in_window i.now (i.now + i.window) l.start is in
              ap (λ n. is_live i (find (λ (m : Leaf). m.num == n) (leaves (offered t s.now job)))) (sym number) ∙ ap (is_live i) (next.stays l at within.0 within.1) ∙ is
          by_test false is = by_leaf (find (λ m. m.num == num) (leaves (offered t s.now job))) refl is

      kept_alike : (g : Grant) → Contains s.plan g → g.job ≡ job → keeps g ≡ stays
      kept_alike g at same =
          let l = was.named g at same in
          let within = find-within (λ (m : Leaf). m.num == g.leaf) (leaves before) l.0 l.1 in
          let number : l.0.num ≡ g.leaf = same_from_test l.0.num g.leaf within.1 in
          let holds : Contains held l.0.num =
          subst (Contains held) (ap (λ (h : Grant). h.leaf) at.2 ∙ sym number) (held_grant s.plan job at.0 g at.1 (ap (λ (h : Grant). h.job) at.2 ∙ same)) in
          let begins : l.0.start ≡ start.0 = EachLeaf-at (Begins (leaf_worth s.plan job) held start.0) before l.0 start.1 within.0 holds in
          ap (is_live i) (ap (λ n. leaf_in i.bids n g.leaf) same ∙ leaf_pending t s.now s.pending job g.leaf waits)
          ∙ live_again g.leaf l.0 within.0 number
          ∙ ap (λ n. nat_le i.now n && nat_lt n (i.now + i.window)) begins

      all_alike : Each (λ g. g.job ≡ job → keeps g ≡ stays) s.plan
      all_alike = Each-from (λ g. g.job ≡ job → keeps g ≡ stays) s.plan kept_alike

      held_named : AreNumbersOf before held
      held_named n at =
          let found = granted_leaf s.plan job n at in
          let l = was.named found.0 found.1 found.2 in
          let within = find-within (λ (m : Leaf). m.num == found.0.leaf) (leaves before) l.0 l.1 in
          (l.0, within.0, same_from_test l.0.num found.0.leaf within.1 ∙ found.3)

      planned_thrifty : IsThriftyFor (still_pending i s.plan) job (offered t s.now job)
      planned_thrifty = by_test stays all_alike
        where
          by_test : (b : Bool) → Each (λ g. g.job ≡ job → keeps g ≡ b) s.plan → IsThriftyFor (filter keeps s.plan) job (offered t s.now job)
          by_test true alike =
              let same = held_kept keeps job s.plan alike in
              next.thrift (leaf_worth (filter keeps s.plan) job) (held_leaves (filter keeps s.plan) job)
              (λ n at. held_named n (subst (λ (ns : List ℕ). Contains ns n) (sym same) at))
              (thrifty_of-same s.plan (filter keeps s.plan) job before (λ leaf. granted_kept keeps job s.plan leaf alike) same was.thrifty)
          by_test false alike =
              let none : Each (λ g. g.job ≡ job → ⊥) (filter keeps s.plan) =
              each_passing keeps (λ g. g.job ≡ job → keeps g ≡ false) (λ g. g.job ≡ job → ⊥)
              (λ g dropped passes same. let e : true ≡ false = sym passes ∙ dropped same in absurd cc) s.plan alike in
              none_thrifty (filter keeps s.plan) (λ k d lt. Each-get (λ (g : Grant). g.job ≡ job → ⊥) (filter keeps s.plan) k d none lt)

    kept_thrifty : IsThriftyFor (still_pending i s.plan) job (offered t s.now job)
    kept_thrifty = elim (stands.planned job) [
      | inl none ↦ none_thrifty (filter keeps s.plan) (All-filter keeps (λ (g : Grant). g.job ≡ job → ⊥) s.plan none)
      | inr was ↦ planned_thrifty was.0 was.1
    ]

  pub still_thrifty : IsThriftyForAll i (still_pending i s.plan)
  still_thrifty k d lt =
      let b = get_or i.bids k d in
      let at = Contains-get_or i.bids k d lt in
      let known = bid_known t s.now s.pending b at in
      subst (IsThriftyFor (still_pending i s.plan) b.job) (sym known.0) (kept_thrifty b.job known.1)

  pub nothing_thrifty : IsThriftyForAll i []
  nothing_thrifty k d lt =
      let b = get_or i.bids k d in
      let at = Contains-get_or i.bids k d lt in
      let known = bid_known t s.now s.pending b at in
      subst (IsThriftyFor [] b.job) (sym known.0) (none_thrifty b.job known.1 [] (All-nil (λ (g : Grant). g.job ≡ b.job → ⊥)))

  -- the same of an instance that is this state's
  module _ (j : Space) (is : j ≡ i) (kept plan : List Grant) (planned : plan ≡ s.plan) (filtered : kept ≡ still_pending j plan) where
    kept_is : kept ≡ still_pending j s.plan
    kept_is = filtered ∙ ap (still_pending j) planned

    pub carried : IsLawful j kept → IsCarry j s.plan kept
    carried lawful = inl (subst (IsLawful j) kept_is lawful, kept_is)

    pub carried_none : (a : List Grant) → a ≡ [] → (IsLawful j kept → ⊥) → IsCarry j s.plan a
    carried_none a none unlawful = inr ((λ lawful. unlawful (subst (IsLawful j) (sym kept_is) lawful)), none)

    pub carried_thrifty : IsThriftyForAll j kept
    carried_thrifty = subst (IsThriftyForAll j) (sym kept_is) (subst (λ k. IsThriftyForAll k (still_pending k s.plan)) (sym is) still_thrifty)

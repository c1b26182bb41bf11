-- What a plan launches.
use Rattle.std.proofs.Common.{◌≡◌, ℕ, ◌+◌, ◌<◌, ◌==◌, ◌&&◌, ◌||◌, Bool, true, false, cond, List, [], ◌∷◌, length, get_or, map, filter, not, All, Contains, Option, Some, None, refl, sym, ap, ◌∙◌, subst, arith, inl, inr, zero, suc, ◌⊎◌}
use Rattle.std.specs.List.{cons_option, filter_map, find, list_any, position_from}
use Rattle.std.specs.Option.{IsSomeAnd, option_and_then, option_map}
use Rattle.std.proofs.lemmas.Bool.Decides.{nat_tests}
use Rattle.std.proofs.lemmas.List.{length-map, get_or-map}
use Rattle.std.proofs.lemmas.List.Elements.{All-contains, All-contains_itself, All-head, All-tail, Contains-get_or}
use Rattle.std.proofs.lemmas.List.Folds.{Any-from_list_any, list_any_at}
use Rattle.tetri_base.specs.Lists.{Each, EachPair, has}
use Rattle.tetri_base.proofs.ListLaws.{Each-append, Each-filter, Each-map, EachPair-append, EachPair-from, filter-ascends}
use Rattle.tetri_strl.specs.declared.expr.Leaf.{Leaf}
use Rattle.tetri_strl.specs.declared.grants.Grant.{Grant}
use Rattle.tetri_strl.specs.Thrifty.{IsThriftyFor, held_leaves}
use Rattle.tetri_strl.specs.Tree.{Tree, leaves}
use Rattle.tetri_strl.specs.Trim.{idle, wastes}
use Rattle.tetri_strl.specs.WellMade.{IsGoodLeaf, IsSound as IsSoundTree}
use Rattle.tetri_strl.specs.Worth.{leaf_worth}
use Rattle.tetri_strl.proofs.ExprLaws.{Begins, NamesNot, one_held_start, waste_is_exact}
use Rattle.tetri_space.proofs.InstanceLaws.{EachLeaf-at, leaf_in-within, offered_leaf}
use Rattle.tetri_space.specs.Free.{IsFree}
use Rattle.tetri_space.specs.Lawful.{AreApart, IsLawful, IsLawfulGrant, MayBeGranted}
use Rattle.tetri_space.specs.Space.{Bid, Covers, Space, leaf_in}
use Rattle.tetri_space.specs.Sound.{IsSoundBid, IsSound as IsSoundSpace}
use Rattle.tetri_trace.specs.Scenario.{Scenario}
use Rattle.tetri_trace.specs.Sound.{IsSound}
use Rattle.tetri_state.specs.declared.pieces.Piece.{Piece}
use Rattle.tetri_state.specs.After.{after, new_pieces, piece_of}
use Rattle.tetri_state.specs.Begin.{has_expired}
use Rattle.tetri_state.specs.Launch.{start_of, start_or_0, starts_now}
use Rattle.tetri_state.specs.Pieces.{ShareNoNode}
use Rattle.tetri_state.specs.Planning.{bid_of, instance_of}
use Rattle.tetri_state.specs.Reached.{IsPlan}
use Rattle.tetri_state.specs.Snapshot.{ArrivedBefore, Snapshot, offered}
use Rattle.tetri_state.proofs.Ascending.{each_from, each_passing}
use Rattle.tetri_state.proofs.InstanceLemmas.{instance_sound, not_free}
use Rattle.tetri_state.proofs.PieceLemmas.{NoneShare}
use Rattle.tetri_state.proofs.StandLemmas.{KeepsToTrace, NamesLeaf, Stands, WasPlanned}

-- of the elements that pass a test
module _ {X : Type 0} (test : X → Bool) where
  pairs_passing : (P : X → Type 0) (R Q : X → X → Type 0) → ((x y : X) → P x → P y → R x y → test x ≡ true → test y ≡ true → Q x y) →
      (xs : List X) → Each P xs → EachPair R xs → EachPair Q (filter test xs)
  pairs_passing P R Q step [] each pairs = tt
  pairs_passing P R Q step (x ∷ xs) each pairs = by_test (test x) refl (pairs_passing P R Q step xs each.1 pairs.1)
    where
      both : (ys : List X) → Each P ys → Each (R x) ys → Each (λ y. P y × R x y) ys
      both [] p r = tt
      both (y ∷ ys) p r = ((p.0, r.0), both ys p.1 r.1)

      by_test : (b : Bool) → test x ≡ b → EachPair Q (filter test xs) → EachPair Q (cond b (x ∷ filter test xs) (filter test xs))
      by_test true passes rest =
          (each_passing test (λ y. P y × R x y) (Q x) (λ y known goes. step x y each.0 known.0 known.1 passes goes) xs (both xs each.1 pairs.0), rest)
      by_test false fails rest = rest

-- of what a function gives
module _ {X Y : Type 0} (f : X → Option Y) where
  each_given : (P : Y → Type 0) (xs : List X) → Each (λ x. (y : Y) → f x ≡ Some y → P y) xs → Each P (filter_map f xs)
  each_given P [] each = tt
  each_given P (x ∷ xs) each = by_value (f x) refl (each_given P xs each.1)
    where
      by_value : (o : Option Y) → f x ≡ o → Each P (filter_map f xs) → Each P (cons_option o (filter_map f xs))
      by_value None is rest = rest
      by_value (Some y) is rest = (each.0 y is, rest)

abbrev made : Scenario → Space → Grant → Option Piece
made t i g = option_map (piece_of t g) (leaf_in i.bids g.job g.leaf)

share_given : (t : Scenario) (i : Space) (gs : List Grant) → EachPair (λ g h. (p q : Piece) → made t i g ≡ Some p → made t i h ≡ Some q → ShareNoNode p q) gs →
    NoneShare (filter_map (made t i) gs)
share_given t i [] pairs = tt
share_given t i (g ∷ gs) pairs = by_value (made t i g) refl (share_given t i gs pairs.1)
  where
    by_value : (o : Option Piece) → made t i g ≡ o → NoneShare (filter_map (made t i) gs) → NoneShare (cons_option o (filter_map (made t i) gs))
    by_value None is rest = rest
    by_value (Some p) is rest = (
      each_given (made t i) (ShareNoNode p) gs
          (Each-map (λ h. (p q : Piece) → made t i g ≡ Some p → made t i h ≡ Some q → ShareNoNode p q) (λ h. (q : Piece) → made t i h ≡ Some q → ShareNoNode p q)
          (λ h apart q here. apart p q is here) gs pairs.0),
      rest,
    )

-- the leaf that a lawful grant names
leaf_named : (i : Space) (g : Grant) → IsLawfulGrant i g → (l : Leaf) × (leaf_in i.bids g.job g.leaf ≡ Some l) × MayBeGranted i l g.nodes
leaf_named i g lawful = by_leaf (leaf_in i.bids g.job g.leaf) refl lawful
  where
    by_leaf : (o : Option Leaf) → leaf_in i.bids g.job g.leaf ≡ o → IsSomeAnd o (λ l. MayBeGranted i l g.nodes) →
        (l : Leaf) × (leaf_in i.bids g.job g.leaf ≡ Some l) × MayBeGranted i l g.nodes
    by_leaf None is ok = absurd ok
    by_leaf (Some l) is ok = (l, is, ok)

pub held_grant : (a : List Grant) (job : ℕ) (k : ℕ) (d : Grant) → k < length a → (get_or a k d).job ≡ job → Contains (held_leaves a job) (get_or a k d).leaf
held_grant [] job k d lt same = absurd (omega arith)
held_grant (g ∷ a) job zero d lt same = by_test (g.job == job) (test_true g.job job same)
  where
    test_true : (x y : ℕ) → x ≡ y → (x == y) ≡ true
    test_true x y e = grind (arith, nat_tests)

    by_test : (b : Bool) → b ≡ true → Contains (map (λ (h : Grant). h.leaf) (cond b (g ∷ filter (λ h. h.job == job) a) (filter (λ h. h.job == job) a))) g.leaf
    by_test true e = (0, omega arith, refl)
    by_test false e = absurd cc
held_grant (g ∷ a) job (suc k) d lt same = by_test (g.job == job) (held_grant a job k d (omega arith) same)
  where
    by_test : (b : Bool) → Contains (held_leaves a job) (get_or a k d).leaf →
        Contains (map (λ (h : Grant). h.leaf) (cond b (g ∷ filter (λ h. h.job == job) a) (filter (λ h. h.job == job) a))) (get_or a k d).leaf
    by_test true rest = (suc rest.0, omega (arith, rest.1), rest.2)
    by_test false rest = rest

no_position : {X : Type 0} (test : X → Bool) (k : ℕ) (xs : List X) → All (λ x. test x ≡ false) xs → position_from test k xs ≡ None
no_position test k [] none = refl
no_position test k (x ∷ xs) none =
    ap (λ b. cond b (Some k) (position_from test (k + 1) xs)) (All-head (λ y. test y ≡ false) x xs none)
    ∙ no_position test (k + 1) xs (All-tail (λ y. test y ≡ false) x xs none)

-- where no grant is the job's, nothing is wasted
pub thrifty_without : (a : List Grant) (job : ℕ) (e : Tree) → IsSoundTree e → All (λ g. g.job ≡ job → ⊥) a → IsThriftyFor a job e
thrifty_without a job e sound others =
    (waste_is_exact a job e sound).0
    (no_position (wastes job (idle (leaf_worth a job) e)) 0 a (λ k d lt. other (get_or a k d) (others k d lt)))
  where
    other : (g : Grant) → (g.job ≡ job → ⊥) → wastes job (idle (leaf_worth a job) e) g ≡ false
    other g differ = let no : (g.job == job) ≡ false = grind (arith, nat_tests) in ap (λ b. b && list_any (λ n. n == g.leaf) (idle (leaf_worth a job) e)) no

-- a pending job has its bid
has_bid : (t : Scenario) (now : ℕ) (ns : List ℕ) (job : ℕ) → has ns job ≡ true → Contains (map (bid_of t now) ns) (bid_of t now job)
has_bid t now [] job there = absurd cc
has_bid t now (n ∷ ns) job there = by_test (n == job) refl there (has_bid t now ns job)
  where
    by_test : (b : Bool) → (n == job) ≡ b → (b || has ns job) ≡ true → (has ns job ≡ true → Contains (map (bid_of t now) ns) (bid_of t now job)) →
        Contains (bid_of t now n ∷ map (bid_of t now) ns) (bid_of t now job)
    by_test true same e rest = let at : n ≡ job = grind (arith, nat_tests) in (0, omega arith, ap (bid_of t now) at)
    by_test false differ e rest = let later = rest e in (suc later.0, omega (arith, later.1), later.2)

-- a bid is one of a pending job
pub bid_known : (t : Scenario) (now : ℕ) (ns : List ℕ) (b : Bid) → Contains (map (bid_of t now) ns) b → (b.expr ≡ offered t now b.job) × (has ns b.job ≡ true)
bid_known t now ns b at =
    let lt : at.0 < length ns = omega (arith, at.1, length-map ns (bid_of t now)) in
    let is : b ≡ bid_of t now (get_or ns at.0 0) = sym at.2 ∙ get_or-map (bid_of t now) ns at.0 0 b lt in
    subst (λ (c : Bid). (c.expr ≡ offered t now c.job) × (has ns c.job ≡ true)) (sym is) (refl, list_any_at (λ m. m == get_or ns at.0 0) ns at.0 0 lt (itself (get_or ns at.0 0)))
  where
    itself : (n : ℕ) → (n == n) ≡ true
    itself n = grind (arith, nat_tests)

-- what holds of each number holds of one that is there
pub each_has : (P : ℕ → Type 0) (ns : List ℕ) (n : ℕ) → Each P ns → has ns n ≡ true → P n
each_has P [] n each there = absurd cc
each_has P (m ∷ ns) n each there = by_test (m == n) refl there (each_has P ns n each.1)
  where
    by_test : (b : Bool) → (m == n) ≡ b → (b || has ns n) ≡ true → (has ns n ≡ true → P n) → P n
    by_test true same e rest = let at : m ≡ n = grind (arith, nat_tests) in subst P at each.0
    by_test false differ e rest = rest e

both_true : (x y : Bool) → (x && y) ≡ true → (x ≡ true) × (y ≡ true)
both_true true y e = (refl, e)
both_true false y e = absurd cc

pub same_from_test : (x y : ℕ) → (x == y) ≡ true → x ≡ y
same_from_test x y e = grind (arith, nat_tests)

-- and its leaves are those of what it offers
pub leaf_pending : (t : Scenario) (now : ℕ) (ns : List ℕ) (job num : ℕ) → has ns job ≡ true → leaf_in (map (bid_of t now) ns) job num ≡ find (λ l. l.num == num) (leaves (offered t now job))
leaf_pending t now ns job num there = ap (option_and_then (λ (b : Bid). find (λ l. l.num == num) (leaves b.expr))) (found ns there)
  where
    found : (ms : List ℕ) → has ms job ≡ true → find (λ b. b.job == job) (map (bid_of t now) ms) ≡ Some (bid_of t now job)
    found [] here = absurd cc
    found (m ∷ ms) here = by_test (m == job) refl here (found ms)
      where
        by_test : (b : Bool) → (m == job) ≡ b → (b || has ms job) ≡ true → (has ms job ≡ true → find (λ b. b.job == job) (map (bid_of t now) ms) ≡ Some (bid_of t now job)) →
            cond b (Some (bid_of t now m)) (find (λ b. b.job == job) (map (bid_of t now) ms)) ≡ Some (bid_of t now job)
        by_test true same e rest = let at : m ≡ job = grind (arith, nat_tests) in ap (λ n. Some (bid_of t now n)) at
        by_test false differ e rest = rest e

-- grants that a cycle may plan in a state whose slot has begun
module _ (t : Scenario) (s : Snapshot) (sound : IsSound t) (stands : Stands t (s.now + 1) s) (early : s.now < 10000) (a : List Grant) (plan : IsPlan t s a) where
  abbrev i : Space
  i = instance_of t s

  abbrev goes : Grant → Bool
  goes g = starts_now i a g.job

  i_sound : IsSoundSpace i
  i_sound = instance_sound t s sound stands early

  bid_sound : (b : Bid) → Contains i.bids b → IsSoundBid i b
  bid_sound b at = All-contains (IsSoundBid i) i.bids b i_sound.sound_bids at

  pub grant_leaf : (g : Grant) → Contains a g → (l : Leaf) × (leaf_in i.bids g.job g.leaf ≡ Some l) × MayBeGranted i l g.nodes
  grant_leaf g at = leaf_named i g (All-contains (IsLawfulGrant i) a g plan.lawful.grants at)

  pub good_leaf : (g : Grant) (l : Leaf) → leaf_in i.bids g.job g.leaf ≡ Some l → IsGoodLeaf l
  good_leaf g l is = (offered_leaf i g.job g.leaf l i_sound is).0

  -- all that is granted to a job starts in one slot
  pub one_start : (g h : Grant) (l m : Leaf) → Contains a g → Contains a h → h.job ≡ g.job →
      leaf_in i.bids g.job g.leaf ≡ Some l → leaf_in i.bids h.job h.leaf ≡ Some m → l.start ≡ m.start
  one_start g h l m at_g at_h same is_l is_m =
      let b = leaf_in-within i.bids g.job g.leaf l is_l in
      let c = leaf_in-within i.bids h.job h.leaf m is_m in
      let job = b.0.job in
      let held = held_leaves a job in
      let thrifty : IsThriftyFor a b.0.job b.0.expr = All-contains (λ (d : Bid). IsThriftyFor a d.job d.expr) i.bids b.0 plan.thrifty b.1.pending in
      let start = one_held_start (leaf_worth a job) held b.0.expr (bid_sound b.0 b.1.pending).well_made.aligned thrifty in
      let same_job : h.job ≡ job = same ∙ sym b.1.of_job in
      let same_expr : c.0.expr ≡ b.0.expr =
      (bid_known t s.now s.pending c.0 c.1.pending).0 ∙ ap (offered t s.now) (c.1.of_job ∙ same_job) ∙ sym (bid_known t s.now s.pending b.0 b.1.pending).0 in
      let held_l : Contains held l.num =
      subst (Contains held) (ap (λ (x : Grant). x.leaf) at_g.2 ∙ sym b.1.numbered)
      (held_grant a job at_g.0 g at_g.1 (ap (λ (x : Grant). x.job) at_g.2 ∙ sym b.1.of_job)) in
      let held_m : Contains held m.num =
      subst (Contains held) (ap (λ (x : Grant). x.leaf) at_h.2 ∙ sym c.1.numbered)
      (held_grant a job at_h.0 h at_h.1 (ap (λ (x : Grant). x.job) at_h.2 ∙ same_job)) in
      let below_m : Contains (leaves b.0.expr) m = subst (λ (e : Tree). Contains (leaves e) m) same_expr c.1.below in
      EachLeaf-at (Begins (leaf_worth a job) held start.0) b.0.expr l start.1 b.1.below held_l
      ∙ sym (EachLeaf-at (Begins (leaf_worth a job) held start.0) b.0.expr m start.1 below_m held_m)

  -- which is the present one where the job is launched
  pub starts_here : (g : Grant) (l : Leaf) → Contains a g → goes g ≡ true → leaf_in i.bids g.job g.leaf ≡ Some l → l.start ≡ s.now
  starts_here g l at starts is =
      let found = Any-from_list_any (λ h. h.job == g.job && start_of i h == i.now) a starts in
      let h = found.1 in
      let at_h : Contains a h = (found.0, found.2, found.3) in
      let tests = both_true (h.job == g.job) (start_of i h == i.now) found.4 in
      let m = grant_leaf h at_h in
      one_start g h l m.0 at at_h (same_from_test h.job g.job tests.0) is m.1
      ∙ ap start_or_0 (sym m.1) ∙ same_from_test (start_of i h) i.now tests.1

  covers_now : (g : Grant) (l : Leaf) → Contains a g → goes g ≡ true → leaf_in i.bids g.job g.leaf ≡ Some l → Covers l s.now
  covers_now g l at starts is =
      let here = starts_here g l at starts is in
      record { begun = omega (arith, here); not_over = omega (arith, here, (good_leaf g l is).some_slots) }

  made_is : (g : Grant) (p : Piece) (l : Leaf) → leaf_in i.bids g.job g.leaf ≡ Some l → made t i g ≡ Some p → p ≡ piece_of t g l
  made_is g p l is given = let e : Some p ≡ Some (piece_of t g l) = sym given ∙ ap (option_map (piece_of t g)) is in cc

  made_within : (g : Grant) → Contains a g → goes g ≡ true → (p : Piece) → made t i g ≡ Some p → KeepsToTrace t p
  made_within g at starts p given =
      let m = grant_leaf g at in
      let l = m.0 in
      let good = good_leaf g l m.1 in
      subst (KeepsToTrace t) (sym (made_is g p l m.1 given))
      (record {
        nodes = λ k d lt. (m.2.nodes_right.free k d lt s.now (covers_now g l at starts m.1)).there;
        expected = omega (arith, good.within, good.few_slots);
      })

  made_nodes : (g : Grant) → Contains a g → (p : Piece) → made t i g ≡ Some p → p.nodes ≡ g.nodes
  made_nodes g at p given = let m = grant_leaf g at in ap (λ (q : Piece). q.nodes) (made_is g p m.0 m.1 given)

  free_now : (g : Grant) → Contains a g → goes g ≡ true → (n : ℕ) → Contains g.nodes n → IsFree i n s.now
  free_now g at starts n on =
      let m = grant_leaf g at in
      All-contains (λ k. (slot : ℕ) → Covers m.0 slot → IsFree i k slot) g.nodes n m.2.nodes_right.free on s.now (covers_now g m.0 at starts m.1)

  contained : Each (Contains a) a
  contained = each_from (Contains a) a (All-contains_itself a)

  new_within : Each (KeepsToTrace t) (new_pieces t i a)
  new_within =
      each_given (made t i) (KeepsToTrace t) (filter goes a)
      (each_passing goes (Contains a) (λ g. (p : Piece) → made t i g ≡ Some p → KeepsToTrace t p) made_within a contained)

  -- the job of a grant is pending
  grant_job : (g : Grant) → Contains a g → has s.pending g.job ≡ true
  grant_job g at =
      let m = grant_leaf g at in
      let b = leaf_in-within i.bids g.job g.leaf m.0 m.1 in
      subst (λ j. has s.pending j ≡ true) b.1.of_job (bid_known t s.now s.pending b.0 b.1.pending).1

  grant_arrived : (g : Grant) → Contains a g → ArrivedBefore t (s.now + 1) g.job
  grant_arrived g at = each_has (ArrivedBefore t (s.now + 1)) s.pending g.job stands.arrived (grant_job g at)

  grant_named : (g : Grant) → Contains a g → NamesLeaf (offered t s.now g.job) g
  grant_named g at = let m = grant_leaf g at in (m.0, sym (leaf_pending t s.now s.pending g.job g.leaf (grant_job g at)) ∙ m.1)

  new_ran : Each (λ p. ArrivedBefore t (s.now + 1) p.job) (new_pieces t i a)
  new_ran =
      each_given (made t i) (λ p. ArrivedBefore t (s.now + 1) p.job) (filter goes a)
      (each_passing goes (Contains a) (λ g. (p : Piece) → made t i g ≡ Some p → ArrivedBefore t (s.now + 1) p.job)
      (λ g at starts p given.
      let m = grant_leaf g at in
      subst (λ (q : Piece). ArrivedBefore t (s.now + 1) q.job) (sym (made_is g p m.0 m.1 given)) (grant_arrived g at)) a contained)

  new_apart : NoneShare (new_pieces t i a)
  new_apart =
      share_given t i (filter goes a)
      (pairs_passing goes (Contains a) (AreApart i) (λ g h. (p q : Piece) → made t i g ≡ Some p → made t i h ≡ Some q → ShareNoNode p q) step a contained
      (EachPair-from (AreApart i) a plan.lawful.apart))
    where
      step : (g h : Grant) → Contains a g → Contains a h → AreApart i g h → goes g ≡ true → goes h ≡ true →
          (p q : Piece) → made t i g ≡ Some p → made t i h ≡ Some q → ShareNoNode p q
      step g h at_g at_h apart goes_g goes_h p q is_p is_q n on_p on_q =
          let l = grant_leaf g at_g in
          let m = grant_leaf h at_h in
          apart.other_slots n (subst (λ ns. Contains ns n) (made_nodes g at_g p is_p) on_p) (subst (λ ns. Contains ns n) (made_nodes h at_h q is_q) on_q)
          l.0 l.1 m.0 m.1 s.now (covers_now g l.0 at_g goes_g l.1) (covers_now h m.0 at_h goes_h m.1)

  old_apart : Each (λ p. s.now < p.expected) s.pieces → Each (λ p. Each (ShareNoNode p) (new_pieces t i a)) s.pieces
  old_apart ahead =
      Each-map (Contains s.pieces) (λ p. Each (ShareNoNode p) (new_pieces t i a))
      (λ p running.
      each_given (made t i) (ShareNoNode p) (filter goes a)
      (each_passing goes (Contains a) (λ g. (q : Piece) → made t i g ≡ Some q → ShareNoNode p q)
      (λ g at starts q is n on_p on_q. not_free t s ahead p n running on_p (free_now g at starts n (subst (λ ns. Contains ns n) (made_nodes g at q is) on_q))) a contained))
      s.pieces (each_from (Contains s.pieces) s.pieces (All-contains_itself s.pieces))

  not_granted : (job : ℕ) → has s.pending job ≡ false → All (λ g. g.job ≡ job → ⊥) a
  not_granted job absent k d lt same =
      let g = get_or a k d in
      let m = grant_leaf g (Contains-get_or a k d lt) in
      let b = leaf_in-within i.bids g.job g.leaf m.0 m.1 in
      let there = (bid_known t s.now s.pending b.0 b.1.pending).1 in
      let here : has s.pending job ≡ true = subst (λ j. has s.pending j ≡ true) (b.1.of_job ∙ same) there in
      let e : true ≡ false = sym here ∙ absent in
      absurd cc

  -- what is granted to a pending job is planned for what it offers in this slot, and nothing is granted to another one
  after_planned : (job : ℕ) → NamesNot job a ⊎ ((last : ℕ) × WasPlanned t (s.now + 1) a job last)
  after_planned job = by_test (has s.pending job) refl
    where
      by_test : (b : Bool) → has s.pending job ≡ b → NamesNot job a ⊎ ((last : ℕ) × WasPlanned t (s.now + 1) a job last)
      by_test true there = inr (
        s.now,
        record {
          before = refl;
          arrived = each_has (ArrivedBefore t (s.now + 1)) s.pending job stands.arrived there;
          alive = each_has (λ j. has_expired t s.now j ≡ false) s.pending job (stands.alive (omega arith)) there;
          named = λ g at same. subst (λ j. NamesLeaf (offered t s.now j) g) same (grant_named g at);
          thrifty = All-contains (λ (d : Bid). IsThriftyFor a d.job d.expr) i.bids (bid_of t s.now job) plan.thrifty (has_bid t s.now s.pending job there);
        },
      )
      by_test false absent = inl (not_granted job absent)

  -- after the cycle
  pub after_stands : Each (λ p. s.now < p.expected) s.pieces → Stands t (s.now + 1) (after t s a)
  after_stands ahead = record {
    ascending = filter-ascends (λ j. not (starts_now i a j)) s.pending stands.ascending;
    arrived = Each-filter (ArrivedBefore t (s.now + 1)) (λ j. not (starts_now i a j)) s.pending stands.arrived;
    ran = Each-append (λ p. ArrivedBefore t (s.now + 1) p.job) s.pieces (new_pieces t i a) stands.ran new_ran;
    drained = stands.drained;
    pieces = Each-append (KeepsToTrace t) s.pieces (new_pieces t i a) stands.pieces new_within;
    apart = EachPair-append ShareNoNode s.pieces (new_pieces t i a) stands.apart new_apart (old_apart ahead);
    planned = after_planned;
    alive = λ begun. absurd (omega (arith, begun));
  }

-- a node that a lawful grant uses in a slot is free in it
pub free_where_covered : (t : Scenario) (s : Snapshot) (a : List Grant) (g : Grant) (l : Leaf) (n : ℕ) → IsLawful (instance_of t s) a → Contains a g →
    leaf_in (instance_of t s).bids g.job g.leaf ≡ Some l → Covers l s.now → Contains g.nodes n → IsFree (instance_of t s) n s.now
free_where_covered t s a g l n lawful at leaf covers on =
    let m = leaf_named (instance_of t s) g (All-contains (IsLawfulGrant (instance_of t s)) a g lawful.grants at) in
    let same : m.0 ≡ l = let e : Some m.0 ≡ Some l = sym m.1 ∙ leaf in cc in
    All-contains (λ k. (slot : ℕ) → Covers m.0 slot → IsFree (instance_of t s) k slot) g.nodes n m.2.nodes_right.free on s.now
    (subst (λ (k : Leaf). Covers k s.now) (sym same) covers)

-- A lawful allotment's grants are fair to the live bids.
use Rattle.std.proofs.Common.{◌≡◌, ◌≢◌, ℕ, suc, ◌+◌, ◌<◌, ◌≤◌, ◌==◌, ◌||◌, Bool, true, false, cond, List, [], ◌∷◌, length, All, AllPairs, Contains, Option, Some, None, refl, sym, ap, ◌∙◌, subst, arith, true≢false}
use Rattle.std.specs.List.{sum_by}
use Rattle.std.specs.List.Sorted.{IsStrictlyIncreasing}
use Rattle.std.specs.Option.{IsSomeAnd}
use Rattle.std.proofs.lemmas.Bool.{and_parts}
use Rattle.std.proofs.lemmas.Bool.Decides.{nat_tests}
use Rattle.std.proofs.lemmas.List.Elements.{All-contains}
use Rattle.std.proofs.lemmas.List.Kept.{AllPairs-from_increasing}
use Rattle.std.proofs.lemmas.List.Sums.{sum_by-cons}
use Rattle.tetri_strl.specs.declared.expr.Leaf.{Leaf}
use Rattle.tetri_strl.specs.declared.grants.Grant.{Grant}
use Rattle.tetri_strl.specs.Prune.{GrantsOnlyIn, starts_in, pruned, worth_kept}
use Rattle.tetri_strl.specs.Thrifty.{IsThrifty, IsThriftyFor, held_leaves}
use Rattle.tetri_strl.specs.Tree.{Tree, leaves}
use Rattle.tetri_strl.specs.Trim.{earns, idle, trimmed}
use Rattle.tetri_strl.specs.Worth.{granted, leaf_worth, worth_of}
use Rattle.tetri_strl.proofs.ExprLaws.{apart_of_pairs, each_nothing, pruned_keeps_worth, trimmed_thrifty, trimmed_worth, EachLeaf-from}
use Rattle.tetri_space.specs.Free.{IsFree, is_free, is_idle}
use Rattle.tetri_space.specs.Lawful.{HasRightNodes, MayBeGranted, IsLawfulGrant, IsLawful}
use Rattle.tetri_space.specs.Lawful.{AreApart as GrantsApart}
use Rattle.tetri_base.specs.Lists.{count, has, Each, EachPair, Ascends}
use Rattle.tetri_space.specs.Partitions.{with_left, bids_left, live_bids, asked, closed_sets, partitions, part_at, set_at}
use Rattle.tetri_space.specs.Sound.{IsSoundBid, IsSound}
use Rattle.tetri_space.specs.Space.{Bid, Space, leaf_in, Covers}
use Rattle.tetri_space.specs.Total.{bid_worth, total_in}
use Rattle.tetri_space.proofs.InstanceLaws.{AreFrom, asked_has, available_is, covered, dead_granted, each_left_of, find-by_key, free_decides, IsGood, IsLeftOf, leaf_in-found, left_leaves, lefts_good, lefts_jobs, OfLeft, OtherJob}
use Rattle.tetri_base.proofs.ListLaws.{eq_from_test, test_from_eq, Each-all, Each-at, Each-from, EachPair-from, EachPair-with, any_from, sum_of-filter-le}
use Rattle.tetri_compile.specs.Allotted.{suits, earning, trimmed_for}
use Rattle.tetri_compile.proofs.FairLemmas.{IsRightFor, IsKept, IsFair, HoldsApart, worth_of_bids, granted_total}
use Rattle.tetri_compile.proofs.ThriftOfLeft.{left_thrifty}

-- ---- tests of what is known
has_from : (ns : List ℕ) (n : ℕ) → Contains ns n → has ns n ≡ true
has_from ns n at = any_from (λ m. m == n) ns n at (test_from_eq n n refl)

contains_from : (ns : List ℕ) (n : ℕ) → has ns n ≡ true → Contains ns n
contains_from [] n e = absurd (true≢false (sym e))
contains_from (m ∷ ns) n e = by_test (m == n) (λ t. eq_from_test m n t) (λ t. contains_from ns n t) e
  where
    by_test : (b : Bool) → (b ≡ true → m ≡ n) → (has ns n ≡ true → Contains ns n) → (b || has ns n) ≡ true → Contains (m ∷ ns) n
    by_test true same rest t = (0, omega arith, same refl)
    by_test false same rest t = let later = rest t in (suc later.0, omega (arith, later.1), later.2)

ascends_from : (ns : List ℕ) → IsStrictlyIncreasing ns → Ascends ns
ascends_from ns h = EachPair-from (λ m n. m < n) ns (AllPairs-from_increasing ns h)

each_of : {X : Type 0} (P : X → Type 0) (xs : List X) → All P xs → Each P xs
each_of P xs h = Each-from P xs (λ x at. All-contains P xs x h at)

right_for : (s : Space) (l : Leaf) (nodes : List ℕ) → HasRightNodes s l nodes → IsRightFor s l nodes
right_for s l nodes h = record {
  ascending = ascends_from nodes h.ascending;
  few = h.few;
  in_set = Each-from (λ n. has (set_at s l.set) n ≡ true) nodes (λ n at. has_from (set_at s l.set) n (All-contains (Contains (set_at s l.set)) nodes n h.in_set at));
  idle = Each-from (λ n. (slot : ℕ) → l.start ≤ slot → slot < l.start + l.dur → is_free s n slot ≡ true) nodes
      (λ n at slot low high. (free_decides s n slot).1 (All-contains (λ m. (t : ℕ) → Covers l t → IsFree s m t) nodes n h.free at slot (record { begun = low; not_over = high })));
}

starts : (from to : ℕ) (l : Leaf) → from ≤ l.start → l.start < to → starts_in from to l ≡ true
starts from to l p q = grind (arith, nat_tests)

starts_after : (from to : ℕ) (l : Leaf) → starts_in from to l ≡ true → from ≤ l.start
starts_after from to l e = grind (arith, nat_tests)

module _ (s : Space) (sound : IsSound s) where
  abbrev to : ℕ
  to = s.now + s.window

  good_bid : (b : Bid) → Contains s.bids b → IsGood s.now to b
  good_bid b at = let h = All-contains (IsSoundBid s) s.bids b sound.sound_bids at in (h.well_made.sound, apart_of_pairs b.expr h.well_made.distinct)

  pub goods : Each (IsGood s.now to) s.bids
  goods = Each-from (IsGood s.now to) s.bids good_bid

  pub other_jobs : EachPair (OtherJob s.now to) s.bids
  other_jobs =
      EachPair-with (λ b. Unit {0}) (λ b c. b.job < c.job) (OtherJob s.now to) (λ b c u v lt e. omega (arith, lt, e)) s.bids
      (Each-all (λ b. Unit {0}) (λ b. tt) s.bids) (EachPair-from (λ b c. b.job < c.job) s.bids sound.ascending)

  pub left_of : (b : Bid) → Contains (live_bids s) b → IsLeftOf s.now to s.bids b
  left_of b at = Each-at (IsLeftOf s.now to s.bids) (live_bids s) b (each_left_of s.now to s.bids) at

  -- a live bid's leaf is one of the whole bid's, and live
  leaf_below : (b : Bid) (h : IsLeftOf s.now to s.bids b) (l : Leaf) → Contains (leaves b.expr) l → Contains (leaves h.whole.expr) l × (starts_in s.now to l ≡ true)
  leaf_below b h l below = subst (OfLeft (λ u. AreFrom s.now to (leaves h.whole.expr) (leaves u))) h.left (left_leaves s.now to h.whole.expr) l below

  leaf_found : (b : Bid) → Contains (live_bids s) b → (l : Leaf) → Contains (leaves b.expr) l → leaf_in s.bids b.job l.num ≡ Some l
  leaf_found b at l below =
      let h = left_of b at in
      ap (λ j. leaf_in s.bids j l.num) (sym h.job) ∙ leaf_in-found s h.whole l sound h.among (leaf_below b h l below).0

  -- the leaf that such a grant names
  names : (b : Bid) (l : Leaf) (g : Grant) → Contains (live_bids s) b → Contains (leaves b.expr) l → suits b.job l.num g ≡ true → leaf_in s.bids g.job g.leaf ≡ Some l
  names b l g at below t =
      let both = and_parts (g.job == b.job) (g.leaf == l.num) t in
      ap (λ j. leaf_in s.bids j g.leaf) (eq_from_test g.job b.job both.0) ∙ ap (leaf_in s.bids b.job) (eq_from_test g.leaf l.num both.1) ∙ leaf_found b at l below

  apart_keys : AllPairs (λ (b c : Bid). b.job ≢ c.job) s.bids
  apart_keys i j d lt within = λ same. absurd (omega (arith, sound.ascending i j d lt within, same))

  module _ (a : List Grant) (lawful : IsLawful s a) where
    -- what is kept of a bid's grants is what trimming by the whole expression leaves
    kept_is : (b : Bid) (h : IsLeftOf s.now to s.bids b) → earning s a b.job ≡ trimmed a b.job h.whole.expr
    kept_is b h =
        ap (λ j. earning s a j) (sym h.job)
        ∙ ap (trimmed_for a) (find-by_key (λ (c : Bid). c.job) s.bids h.whole apart_keys h.among)
        ∙ ap (λ j. trimmed a j h.whole.expr) h.job

    -- leaves that are not live are granted nothing
    dead : (b : Bid) → Contains s.bids b → (l : Leaf) → Contains (leaves b.expr) l → starts_in s.now to l ≡ false → granted a b.job l.num ≡ 0
    dead b at l below out =
        dead_granted s sound b l a at below (λ live. true≢false (sym (starts s.now to l live.not_early live.not_late) ∙ out)) lawful.grants

    only_live : (b : Bid) → Contains s.bids b → GrantsOnlyIn s.now to a b.job b.expr
    only_live b at = EachLeaf-from (λ l. starts_in s.now to l ≡ false → granted a b.job l.num ≡ 0) b.expr (dead b at)

    trimmed_only : (b : Bid) (at : Contains s.bids b) → GrantsOnlyIn s.now to (trimmed a b.job b.expr) b.job b.expr
    trimmed_only b at =
        EachLeaf-from (λ l. starts_in s.now to l ≡ false → granted (trimmed a b.job b.expr) b.job l.num ≡ 0) b.expr (λ l below out.
        let ns = idle (leaf_worth a b.job) b.expr in
        omega (
          arith,
          dead b at l below out,
          granted_total (trimmed a b.job b.expr) b.job l.num,
          granted_total a b.job l.num,
          sum_of-filter-le (λ g. cond (suits b.job l.num g) (length g.nodes) 0) (earns b.job ns) a,
        ))

    -- a live bid is worth what the whole bid is worth
    left_worth : (ks : List Grant) (w : Bid) (u : Tree) → Contains s.bids w → pruned s.now to w.expr ≡ Some u → GrantsOnlyIn s.now to ks w.job w.expr →
        worth_of ks w.job u ≡ worth_of ks w.job w.expr
    left_worth ks w u at left only =
        ap (worth_kept (leaf_worth ks w.job)) (sym left) ∙ pruned_keeps_worth s.now to ks w.job w.expr (good_bid w at).0 only

    kept_for : (b : Bid) → Contains (live_bids s) b → IsKept s (live_bids s) (partitions s) a (earning s a) b
    kept_for b at = from_whole (left_of b at)
      where
        from_whole : (h : IsLeftOf s.now to s.bids b) → IsKept s (live_bids s) (partitions s) a (earning s a) b
        from_whole h =
            let w = h.whole in
            let good = good_bid w h.among in
            let ks = trimmed a w.job w.expr in
            let is : earning s a b.job ≡ ks = kept_is b h ∙ ap (λ j. trimmed a j w.expr) (sym h.job) in
            let thrifty : IsThriftyFor ks w.job b.expr =
            subst (OfLeft (IsThrifty (leaf_worth ks w.job) (held_leaves ks w.job))) h.left
            (left_thrifty (leaf_worth ks w.job) (held_leaves ks w.job) s.now to w.expr
            (each_nothing s.now to ks w.job w.expr good.0 (trimmed_only w h.among)) (trimmed_thrifty a w.job w.expr good.0 good.1)) in
            let same : worth_of a w.job b.expr ≡ worth_of ks w.job b.expr =
            left_worth a w b.expr h.among h.left (only_live w h.among) ∙ sym (trimmed_worth a w.job w.expr good.0 good.1)
            ∙ sym (left_worth ks w b.expr h.among h.left (trimmed_only w h.among)) in
            record {
              test = earns w.job (idle (leaf_worth a w.job) w.expr);
              filtered = is;
              thrifty = subst (λ gs. IsThriftyFor gs b.job b.expr) (sym is) (subst (λ j. IsThriftyFor ks j b.expr) h.job thrifty);
              worth = subst (λ gs. worth_of a b.job b.expr ≤ worth_of gs b.job b.expr) (sym is)
                  (subst (λ j. worth_of a j b.expr ≤ worth_of ks j b.expr) h.job (omega (arith, same)));
            }

    pub fair : IsFair s (live_bids s) (partitions s) a (earning s a)
    fair = record {
      sound = lefts_good s.now to s.bids goods;
      jobs = lefts_jobs s.now to s.bids other_jobs;
      right = λ b l at below. Each-from (λ g. suits b.job l.num g ≡ true → IsRightFor s l g.nodes) a (λ g among t.
          right_for s l g.nodes (subst (λ o. IsSomeAnd o (λ m. MayBeGranted s m g.nodes)) (names b l g at below t) (All-contains (IsLawfulGrant s) a g lawful.grants among)).nodes_right);
      kept = Each-from (IsKept s (live_bids s) (partitions s) a (earning s a)) (live_bids s) kept_for;
      single = EachPair-with (λ g. Unit {0}) (GrantsApart s) (λ g h. (job leaf : ℕ) → suits job leaf g ≡ true → suits job leaf h ≡ true → ⊥)
          (λ g h u v apart job leaf t r.
          let p = and_parts (g.job == job) (g.leaf == leaf) t in
          let q = and_parts (h.job == job) (h.leaf == leaf) r in
          apart.other_leaf (eq_from_test g.job job p.0 ∙ sym (eq_from_test h.job job q.0)) (eq_from_test g.leaf leaf p.1 ∙ sym (eq_from_test h.leaf leaf q.1)))
          a (Each-all (λ g. Unit {0}) (λ g. tt) a) (EachPair-from (GrantsApart s) a lawful.apart);
      apart = EachPair-with (λ g. Unit {0}) (GrantsApart s) (HoldsApart s (live_bids s) (partitions s) a (earning s a))
          (λ g h u v apart b c l m bt ct lt mt t r n slot p q e f e2 f2.
          apart.other_slots n (contains_from g.nodes n p) (contains_from h.nodes n q) l (names b l g bt lt t) m (names c m h ct mt r) slot
          (record { begun = e; not_over = f }) (record { begun = e2; not_over = f2 }))
          a (Each-all (λ g. Unit {0}) (λ g. tt) a) (EachPair-from (GrantsApart s) a lawful.apart);
      covers = λ b l at below m there small. covered s (asked s (live_bids s)) (closed_sets s) l.set m (asked_has s (live_bids s) b l at below) small there;
      early = λ b l at below. starts_after s.now to l (leaf_below b (left_of b at) l below).1;
      closed_none = λ p t not_past shut. available_is s p t not_past ∙ ap (λ c. cond c 0 (count (λ n. is_idle s n t) (part_at (partitions s) p))) shut;
    }

    -- what is left is worth as much as the whole
    left_totals : (bs : List Bid) → Each (Contains s.bids) bs → worth_of_bids a (bids_left s.now to bs) ≡ sum_by (bid_worth a) bs
    left_totals [] h = refl
    left_totals (b ∷ bs) h =
        let rest = left_totals bs h.1 in
        omega (arith, one_total (pruned s.now to b.expr), pruned_keeps_worth s.now to a b.job b.expr (good_bid b h.0).0 (only_live b h.0), rest, sum_by-cons (bid_worth a) b bs)
      where
        one_total : (o : Option Tree) → worth_of_bids a (with_left b.job o (bids_left s.now to bs)) ≡ worth_kept (leaf_worth a b.job) o + worth_of_bids a (bids_left s.now to bs)
        one_total None = omega arith
        one_total (Some u) = refl

    pub live_total : worth_of_bids a (live_bids s) ≡ total_in s a
    live_total = left_totals s.bids (Each-from (Contains s.bids) s.bids (λ b at. at))

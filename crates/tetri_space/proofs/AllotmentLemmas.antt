-- Laws of allotments in order, and of what of them earns something.
use Rattle.std.proofs.Common.{◌≡◌, ◌≢◌, ◌⊎◌, ℕ, suc, ◌+◌, ◌<◌, ◌==◌, ◌&&◌, ◌||◌, Bool, true, false, cond, List, [], ◌∷◌, ◌++◌, length, get_or, map, All, AllPairs, Contains, refl, sym, ap, ◌∙◌, subst, arith, true≢false, inl, inr, nat_lt}
use Rattle.std.specs.List.{filter, flat_map}
use Rattle.std.proofs.lemmas.Bool.{cases_order}
use Rattle.std.proofs.lemmas.Bool.Decides.{nat_tests}
use Rattle.std.proofs.lemmas.List.{get_or_default}
use Rattle.std.proofs.lemmas.List.Elements.{All-append, All-contains, All-contains_itself, All-nil, All-weaker}
use Rattle.tetri_base.specs.Lists.{sum_of, Each, EachPair}
use Rattle.tetri_base.specs.Order.{in_order}
use Rattle.tetri_base.proofs.OrderLaws.{Each-in_order, EachPair-in_order, in_order-rises, IsOrder, NotAfter, order_by, order_then, sum_of-in_order, sum_of-sum_by}
use Rattle.tetri_base.proofs.ListLaws.{Each-at, Each-both, Each-from, Each-map, EachPair-from, sum_of-eq}
use Rattle.tetri_strl.specs.declared.grants.Grant.{Grant}
use Rattle.tetri_strl.specs.Thrifty.{IsThriftyFor, held_leaves}
use Rattle.tetri_strl.specs.Tree.{Tree}
use Rattle.tetri_strl.specs.Trim.{earns, idle, trimmed}
use Rattle.tetri_strl.specs.Worth.{granted, leaf_worth, worth_at, worth_of}
use Rattle.tetri_strl.proofs.ExprLaws.{apart_of_pairs, NamesNot, thrifty-append_left, thrifty-append_right, thrifty_of-members, trimmed_of_job, trimmed_thrifty, trimmed_worth, worth_by-same, worth_of-append_left, worth_of-append_right}
use Rattle.tetri_space.specs.GrantOrder.{ComesBefore, comes_first}
use Rattle.tetri_space.specs.Lawful.{AreApart, IsLawful, IsLawfulGrant}
use Rattle.tetri_space.specs.Sound.{IsSound, IsSoundBid}
use Rattle.tetri_space.specs.Space.{Bid, Space}
use Rattle.tetri_space.specs.Total.{bid_worth, total_in}
use Rattle.tetri_space.specs.Trimmed.{IsThriftyForAll, all_trimmed}
use Rattle.tetri_space.proofs.LawfulLemmas.{IsLawful-append, IsLawful-filter}
use Rattle.tetri_space.proofs.SpanLemmas.{all_of, each_of, pairs_of}

-- ---- in order
pub grant_order : IsOrder comes_first
grant_order = order_then (λ (g : Grant). g.job) _ (order_by (λ (g : Grant). g.leaf))

granted_is : (a : List Grant) (job leaf : ℕ) → granted a job leaf ≡ sum_of (λ g. cond (g.job == job && g.leaf == leaf) (length g.nodes) 0) a
granted_is [] job leaf = refl
granted_is (g ∷ gs) job leaf = ap (λ n. cond (g.job == job && g.leaf == leaf) (length g.nodes) 0 + n) (granted_is gs job leaf)

granted_in_order : (a : List Grant) (job leaf : ℕ) → granted (in_order comes_first a) job leaf ≡ granted a job leaf
granted_in_order a job leaf =
    granted_is (in_order comes_first a) job leaf ∙ sum_of-in_order comes_first (λ (g : Grant). cond (g.job == job && g.leaf == leaf) (length g.nodes) 0) a ∙ sym (granted_is a job leaf)

pub worth_in_order : (a : List Grant) (job : ℕ) (t : Tree) → worth_of (in_order comes_first a) job t ≡ worth_of a job t
worth_in_order a job t = worth_by-same (leaf_worth (in_order comes_first a) job) (leaf_worth a job) (λ l. ap (worth_at l) (granted_in_order a job l.num)) t

-- the leaves of the job's grants
module _ (job : ℕ) (P : ℕ → Type 0) where
  held_each : (a : List Grant) → Each (λ g. (g.job == job) ≡ true → P g.leaf) a → Each P (held_leaves a job)
  held_each [] h = tt
  held_each (g ∷ gs) h = by_test (g.job == job) h.0 (held_each gs h.1)
    where
      by_test : (b : Bool) → (b ≡ true → P g.leaf) → Each P (held_leaves gs job) →
          Each P (map (λ k. k.leaf) (cond b (g ∷ filter (λ k. k.job == job) gs) (filter (λ k. k.job == job) gs)))
      by_test true own rest = (own refl, rest)
      by_test false own rest = rest

held_there : (a : List Grant) (job : ℕ) → Each (λ g. (g.job == job) ≡ true → Contains (held_leaves a job) g.leaf) a
held_there [] job = tt
held_there (g ∷ gs) job = by_test (g.job == job) (held_there gs job)
  where
    rest_of : (ns : List ℕ) (x n : ℕ) → Contains ns n → Contains (x ∷ ns) n
    rest_of ns x n at = (suc at.0, omega (arith, at.1), at.2)

    by_test : (b : Bool) → Each (λ h. (h.job == job) ≡ true → Contains (held_leaves gs job) h.leaf) gs →
        (b ≡ true → Contains (map (λ k. k.leaf) (cond b (g ∷ filter (λ k. k.job == job) gs) (filter (λ k. k.job == job) gs))) g.leaf) ×
        Each (λ h. (h.job == job) ≡ true → Contains (map (λ k. k.leaf) (cond b (g ∷ filter (λ k. k.job == job) gs) (filter (λ k. k.job == job) gs))) h.leaf) gs
    by_test true rest = (
      (λ e. (0, omega arith, refl)),
      Each-map (λ h. (h.job == job) ≡ true → Contains (held_leaves gs job) h.leaf) (λ h. (h.job == job) ≡ true → Contains (g.leaf ∷ held_leaves gs job) h.leaf)
          (λ h k e. let at = k e in (suc at.0, omega (arith, at.1), at.2)) gs rest,
    )
    by_test false rest = ((λ e. absurd (true≢false (sym e))), rest)

comes_by_leaf : (j k m n : ℕ) → j ≡ k → m < n → (nat_lt j k || (j == k && nat_lt m n)) ≡ true
comes_by_leaf j k m n same lt = grind (arith, nat_tests)

comes_by_job : (j k m n : ℕ) → j < k → (nat_lt j k || (j == k && nat_lt m n)) ≡ true
comes_by_job j k m n lt = grind (arith, nat_tests)

module _ (s : Space) where
  turned : (g h : Grant) → AreApart s g h → AreApart s h g
  turned g h apart = record {
    other_leaf = λ job leaf. apart.other_leaf (sym job) (sym leaf);
    other_slots = λ n held also l found m other slot covers others. apart.other_slots n also held m other l found slot others covers;
  }

  -- lawful grants in order are lawful
  pub lawful_in_order : (a : List Grant) → IsLawful s a → IsLawful s (in_order comes_first a)
  lawful_in_order a lawful = record {
    grants = all_of (IsLawfulGrant s) (in_order comes_first a) (Each-in_order comes_first (IsLawfulGrant s) a (each_of (IsLawfulGrant s) a lawful.grants));
    apart = pairs_of (AreApart s) (in_order comes_first a) (EachPair-in_order comes_first (AreApart s) turned a (EachPair-from (AreApart s) a lawful.apart));
  }

  by_leaf : (g h : Grant) → NotAfter comes_first g h → AreApart s g h → g.job ≡ h.job → (g.leaf ≡ h.leaf) ⊎ ((g.leaf < h.leaf) ⊎ (h.leaf < g.leaf)) → ComesBefore g h
  by_leaf g h later apart job (inl leaf) = absurd (apart.other_leaf job leaf)
  by_leaf g h later apart job (inr (inl lt)) = inr (job, lt)
  by_leaf g h later apart job (inr (inr gt)) = absurd (true≢false (sym (comes_by_leaf h.job g.job h.leaf g.leaf (sym job) gt) ∙ later))

  by_job : (g h : Grant) → NotAfter comes_first g h → AreApart s g h → (g.job ≡ h.job) ⊎ ((g.job < h.job) ⊎ (h.job < g.job)) → ComesBefore g h
  by_job g h later apart (inl same) = by_leaf g h later apart same (cases_order g.leaf h.leaf)
  by_job g h later apart (inr (inl lt)) = inl lt
  by_job g h later apart (inr (inr gt)) = absurd (true≢false (sym (comes_by_job h.job g.job h.leaf g.leaf gt) ∙ later))

  -- and each comes before the later ones
  pub ordered_in_order : (a : List Grant) → IsLawful s a → AllPairs ComesBefore (in_order comes_first a)
  ordered_in_order a lawful i j d lt within =
      let ns = in_order comes_first a in
      by_job (get_or ns i d) (get_or ns j d) (pairs_of (NotAfter comes_first) ns (in_order-rises comes_first grant_order a) i j d lt within)
      ((lawful_in_order a lawful).apart i j d lt within) (cases_order (get_or ns i d).job (get_or ns j d).job)

  -- they are worth as much
  pub total_in_order : (a : List Grant) → total_in s (in_order comes_first a) ≡ total_in s a
  total_in_order a =
      sym (sum_of-sum_by (bid_worth (in_order comes_first a)) s.bids)
      ∙ sum_of-eq (bid_worth (in_order comes_first a)) (bid_worth a) s.bids (Each-from _ s.bids (λ b at. worth_in_order a b.job b.expr))
      ∙ sum_of-sum_by (bid_worth a) s.bids

  -- and waste nothing where they did not
  pub thrifty_in_order : (a : List Grant) → IsThriftyForAll s a → IsThriftyForAll s (in_order comes_first a)
  thrifty_in_order a thrifty k d lt =
      let b = get_or s.bids k d in
      thrifty_of-members a (in_order comes_first a) b.job b.expr (λ leaf. sym (granted_in_order a b.job leaf))
      (λ n at.
      Each-at (λ m. Contains (held_leaves a b.job) m) (held_leaves (in_order comes_first a) b.job) n
      (held_each b.job (Contains (held_leaves a b.job)) (in_order comes_first a)
      (Each-in_order comes_first (λ g. (g.job == b.job) ≡ true → Contains (held_leaves a b.job) g.leaf) a (held_there a b.job))) at) (thrifty k d lt)

-- ---- what of them earns something
abbrev trimmed_by : List Grant → List Bid → List Grant
trimmed_by a bs = flat_map (λ b. trimmed a b.job b.expr) bs

module _ (a : List Grant) where
  -- a grant of the list that is of one of these jobs
  record IsOf (bs : List Bid) (g : Grant) : Type 0 where
    among : Contains a g
    bid : Bid
    pending : Contains bs bid
    of_job : g.job ≡ bid.job

  own_grants : (b : Bid) → All (λ g. Contains a g × (g.job ≡ b.job)) (trimmed a b.job b.expr)
  own_grants b = trimmed_of_job (Contains a) a b.job b.expr (All-contains_itself a)

  kept_grants : (bs : List Bid) → All (IsOf bs) (trimmed_by a bs)
  kept_grants [] = All-nil (IsOf [])
  kept_grants (b ∷ bs) =
      All-append (IsOf (b ∷ bs)) (trimmed a b.job b.expr) (trimmed_by a bs)
      (All-weaker (λ g. Contains a g × (g.job ≡ b.job)) (IsOf (b ∷ bs)) (λ g h. record { among = h.0; bid = b; pending = (0, omega arith, refl); of_job = h.1 }) (trimmed a b.job b.expr) (own_grants b))
      (All-weaker (IsOf bs) (IsOf (b ∷ bs))
      (λ g h. record { among = h.among; bid = h.bid; pending = (suc h.pending.0, omega (arith, h.pending.1), h.pending.2); of_job = h.of_job }) (trimmed_by a bs) (kept_grants bs))

  abbrev Rises : List Bid → Type 0
  Rises bs = EachPair (λ (b c : Bid). b.job < c.job) bs

  -- the grants of the later jobs are not of this one
  later_not : (b : Bid) (bs : List Bid) → Each (λ (c : Bid). b.job < c.job) bs → NamesNot b.job (trimmed_by a bs)
  later_not b bs later =
      All-weaker (IsOf bs) (λ g. g.job ≢ b.job)
      (λ g h same. absurd (omega (arith, Each-at (λ (c : Bid). b.job < c.job) bs h.bid later h.pending, same, h.of_job))) (trimmed_by a bs) (kept_grants bs)

  own_not : (b c : Bid) → b.job < c.job → NamesNot c.job (trimmed a b.job b.expr)
  own_not b c lt = All-weaker (λ g. Contains a g × (g.job ≡ b.job)) (λ g. g.job ≢ c.job) (λ g h same. absurd (omega (arith, lt, same, h.1))) (trimmed a b.job b.expr) (own_grants b)

  module _ (s : Space) where
    thrifty_each : (bs : List Bid) → Each (IsSoundBid s) bs → Rises bs → Each (λ c. IsThriftyFor (trimmed_by a bs) c.job c.expr) bs
    thrifty_each [] sound up = tt
    thrifty_each (b ∷ bs) sound up = (
      thrifty-append_left (trimmed a b.job b.expr) (trimmed_by a bs) b.job b.expr (later_not b bs up.0)
          (trimmed_thrifty a b.job b.expr sound.0.well_made.sound (apart_of_pairs b.expr sound.0.well_made.distinct)),
      Each-both (λ c. b.job < c.job) (λ c. IsThriftyFor (trimmed_by a bs) c.job c.expr) (λ c. IsThriftyFor (trimmed a b.job b.expr ++ trimmed_by a bs) c.job c.expr)
          (λ c lt rest. thrifty-append_right (trimmed a b.job b.expr) (trimmed_by a bs) c.job c.expr (own_not b c lt) rest) bs up.0 (thrifty_each bs sound.1 up.1),
    )

    worth_each : (bs : List Bid) → Each (IsSoundBid s) bs → Rises bs → Each (λ c. bid_worth (trimmed_by a bs) c ≡ bid_worth a c) bs
    worth_each [] sound up = tt
    worth_each (b ∷ bs) sound up = (
      worth_of-append_left (trimmed a b.job b.expr) (trimmed_by a bs) b.job b.expr (later_not b bs up.0)
          ∙ trimmed_worth a b.job b.expr sound.0.well_made.sound (apart_of_pairs b.expr sound.0.well_made.distinct),
      Each-both (λ c. b.job < c.job) (λ c. bid_worth (trimmed_by a bs) c ≡ bid_worth a c) (λ c. bid_worth (trimmed a b.job b.expr ++ trimmed_by a bs) c ≡ bid_worth a c)
          (λ c lt rest. worth_of-append_right (trimmed a b.job b.expr) (trimmed_by a bs) c.job c.expr (own_not b c lt) ∙ rest) bs up.0 (worth_each bs sound.1 up.1),
    )

    -- of two grants at different places
    apart_by_job : IsLawful s a → (g h : Grant) → Contains a g → Contains a h → (g.job ≡ h.job → ⊥) → AreApart s g h
    apart_by_job lawful g h at there other = by_place (cases_order at.0 there.0)
      where
        by_place : (at.0 ≡ there.0) ⊎ ((at.0 < there.0) ⊎ (there.0 < at.0)) → AreApart s g h
        by_place (inl same) =
            absurd (other (ap (λ (k : Grant). k.job) (sym at.2 ∙ get_or_default a at.0 g h at.1 ∙ ap (λ k. get_or a k h) same ∙ there.2)))
        by_place (inr (inl lt)) =
            subst (λ k. AreApart s k h) (sym (get_or_default a at.0 g h at.1) ∙ at.2) (subst (AreApart s (get_or a at.0 h)) there.2 (lawful.apart at.0 there.0 h lt there.1))
        by_place (inr (inr gt)) =
            turned s h g (subst (AreApart s h) at.2 (subst (λ k. AreApart s k (get_or a at.0 g)) (sym (get_or_default a there.0 h g there.1) ∙ there.2) (lawful.apart there.0 at.0 g gt at.1)))

    lawful_by : IsLawful s a → (bs : List Bid) → Rises bs → IsLawful s (trimmed_by a bs)
    lawful_by lawful [] up = record { grants = All-nil (IsLawfulGrant s); apart = λ i j d lt within. absurd (omega (arith, within)) }
    lawful_by lawful (b ∷ bs) up =
        IsLawful-append s (trimmed a b.job b.expr) (trimmed_by a bs) (IsLawful-filter s (earns b.job (idle (leaf_worth a b.job) b.expr)) a lawful) (lawful_by lawful bs up.1)
        (λ g h at there.
        let own = All-contains (λ k. Contains a k × (k.job ≡ b.job)) (trimmed a b.job b.expr) g (own_grants b) at in
        let other = All-contains (IsOf bs) (trimmed_by a bs) h (kept_grants bs) there in
        apart_by_job lawful g h own.0 other.among
        (λ same. omega (arith, Each-at (λ (c : Bid). b.job < c.job) bs other.bid up.0 other.pending, own.1, other.of_job, same)))

module _ (s : Space) (sound : IsSound s) (a : List Grant) where
  rising : EachPair (λ (b c : Bid). b.job < c.job) s.bids
  rising = EachPair-from (λ (b c : Bid). b.job < c.job) s.bids sound.ascending

  -- what of lawful grants earns something is lawful
  pub lawful_trimmed : IsLawful s a → IsLawful s (all_trimmed s a)
  lawful_trimmed lawful = lawful_by a s lawful s.bids rising

  -- none of it is wasted
  pub thrifty_trimmed : IsThriftyForAll s (all_trimmed s a)
  thrifty_trimmed = all_of (λ b. IsThriftyFor (all_trimmed s a) b.job b.expr) s.bids (thrifty_each a s s.bids (each_of (IsSoundBid s) s.bids sound.sound_bids) rising)

  -- and it is worth as much
  pub total_trimmed : total_in s (all_trimmed s a) ≡ total_in s a
  total_trimmed =
      sym (sum_of-sum_by (bid_worth (all_trimmed s a)) s.bids)
      ∙ sum_of-eq (bid_worth (all_trimmed s a)) (bid_worth a) s.bids (worth_each a s s.bids (each_of (IsSoundBid s) s.bids sound.sound_bids) rising)
      ∙ sum_of-sum_by (bid_worth a) s.bids

-- Laws of an instance with some of its jobs alone: what is lawful, thrifty and worth something there and in the whole.
use Rattle.std.proofs.Common.{◌≡◌, ℕ, ◌+◌, ◌<◌, ◌==◌, ◌&&◌, Bool, true, false, cond, List, [], ◌∷◌, length, map, get_or, Option, Some, None, refl, sym, ap, ◌∙◌, subst, arith, true≢false}
use Rattle.std.specs.List.{filter, find}
use Rattle.std.specs.Option.{IsSomeAnd, option_and_then}
use Rattle.std.proofs.lemmas.List.Elements.{All-filter, All-weaker, filter_passes}
use Rattle.std.proofs.lemmas.List.Kept.{AllPairs-filter}
use Rattle.tetri_base.proofs.ListLaws.{Each-passed, sum_of-eq, test_from_ne}
use Rattle.tetri_base.proofs.OrderLaws.{sum_of-sum_by}
use Rattle.tetri_strl.specs.declared.expr.Leaf.{Leaf}
use Rattle.tetri_strl.specs.declared.grants.Grant.{Grant}
use Rattle.tetri_strl.specs.Thrifty.{IsThriftyFor, held_leaves}
use Rattle.tetri_strl.specs.Tree.{leaves}
use Rattle.tetri_strl.specs.Worth.{granted, leaf_worth, worth_at}
use Rattle.tetri_strl.proofs.ExprLaws.{thrifty_of-same, worth_by-same}
use Rattle.tetri_space.specs.Free.{IsFreeThroughout}
use Rattle.tetri_space.specs.Lawful.{AreApart, IsLawful, IsLawfulGrant, MayBeGranted}
use Rattle.tetri_space.specs.Sound.{HasKnownSet, IsSound, IsSoundBid}
use Rattle.tetri_space.specs.Space.{Bid, IsLive, Space, leaf_in}
use Rattle.tetri_space.specs.Total.{bid_worth, total_in}
use Rattle.tetri_space.specs.Trimmed.{IsThriftyForAll}
use Rattle.tetri_space.proofs.InstanceLaws.{filter_shorter}
use Rattle.tetri_split.specs.Restricted.{grants_to, restricted}

some_and : {X : Type 0} (P Q : X → Type 0) → ((x : X) → P x → Q x) → (o : Option X) → IsSomeAnd o P → IsSomeAnd o Q
some_and P Q f None h = h
some_and P Q f (Some x) h = f x h

module _ (keeps : ℕ → Bool) where
  abbrev kept_bids : List Bid → List Bid
  kept_bids bs = filter (λ b. keeps b.job) bs

  not_test : (j job : ℕ) → keeps job ≡ true → keeps j ≡ false → (j == job) ≡ false
  not_test j job k f = test_from_ne j job (λ e. true≢false (sym k ∙ ap keeps (sym e) ∙ f))

  -- ---- what a job offers
  find_kept : (bs : List Bid) (job : ℕ) → keeps job ≡ true → find (λ b. b.job == job) (kept_bids bs) ≡ find (λ b. b.job == job) bs
  find_kept [] job k = refl
  find_kept (b ∷ bs) job k = by_test (keeps b.job) (not_test b.job job k) (find_kept bs job k)
    where
      by_test : (t : Bool) → (t ≡ false → (b.job == job) ≡ false) → find (λ c. c.job == job) (kept_bids bs) ≡ find (λ c. c.job == job) bs →
          find (λ c. c.job == job) (cond t (b ∷ kept_bids bs) (kept_bids bs)) ≡ cond (b.job == job) (Some b) (find (λ c. c.job == job) bs)
      by_test true never e = ap (cond (b.job == job) (Some b)) e
      by_test false never e = e ∙ sym (ap (λ t. cond t (Some b) (find (λ c. c.job == job) bs)) (never refl))

  find_other : (bs : List Bid) (job : ℕ) → keeps job ≡ false → find (λ b. b.job == job) (kept_bids bs) ≡ None
  find_other [] job f = refl
  find_other (b ∷ bs) job f = by_test (keeps b.job) (λ t. test_from_ne b.job job (λ e. true≢false (sym t ∙ ap keeps e ∙ f))) (find_other bs job f)
    where
      by_test : (t : Bool) → (t ≡ true → (b.job == job) ≡ false) → find (λ c. c.job == job) (kept_bids bs) ≡ None →
          find (λ c. c.job == job) (cond t (b ∷ kept_bids bs) (kept_bids bs)) ≡ None
      by_test true never e = ap (λ t. cond t (Some b) (find (λ c. c.job == job) (kept_bids bs))) (never refl) ∙ e
      by_test false never e = e

  -- a job that is kept offers the same leaves
  pub leaf_in-kept : (bs : List Bid) (job num : ℕ) → keeps job ≡ true → leaf_in (kept_bids bs) job num ≡ leaf_in bs job num
  leaf_in-kept bs job num k = ap (option_and_then (λ (b : Bid). find (λ l. l.num == num) (leaves b.expr))) (find_kept bs job k)

  -- and another offers none
  pub leaf_in-other : (bs : List Bid) (job num : ℕ) → keeps job ≡ false → leaf_in (kept_bids bs) job num ≡ None
  leaf_in-other bs job num f = ap (option_and_then (λ (b : Bid). find (λ l. l.num == num) (leaves b.expr))) (find_other bs job f)

  -- ---- what a job has of an allotment
  pub granted-kept : (a : List Grant) (job leaf : ℕ) → keeps job ≡ true → granted (grants_to keeps a) job leaf ≡ granted a job leaf
  granted-kept [] job leaf k = refl
  granted-kept (g ∷ gs) job leaf k = by_test (keeps g.job) (not_test g.job job k) (granted-kept gs job leaf k)
    where
      by_test : (t : Bool) → (t ≡ false → (g.job == job) ≡ false) → granted (grants_to keeps gs) job leaf ≡ granted gs job leaf →
          granted (cond t (g ∷ grants_to keeps gs) (grants_to keeps gs)) job leaf ≡ cond (g.job == job && g.leaf == leaf) (length g.nodes) 0 + granted gs job leaf
      by_test true never e = ap (λ n. cond (g.job == job && g.leaf == leaf) (length g.nodes) 0 + n) e
      by_test false never e = omega (arith, e, ap (λ t. cond (t && g.leaf == leaf) (length g.nodes) 0) (never refl))

  own-kept : (a : List Grant) (job : ℕ) → keeps job ≡ true → filter (λ g. g.job == job) (grants_to keeps a) ≡ filter (λ g. g.job == job) a
  own-kept [] job k = refl
  own-kept (g ∷ gs) job k = by_test (keeps g.job) (not_test g.job job k) (own-kept gs job k)
    where
      by_test : (t : Bool) → (t ≡ false → (g.job == job) ≡ false) → filter (λ h. h.job == job) (grants_to keeps gs) ≡ filter (λ h. h.job == job) gs →
          filter (λ h. h.job == job) (cond t (g ∷ grants_to keeps gs) (grants_to keeps gs)) ≡
          cond (g.job == job) (g ∷ filter (λ h. h.job == job) gs) (filter (λ h. h.job == job) gs)
      by_test true never e = ap (λ hs. cond (g.job == job) (g ∷ hs) hs) e
      by_test false never e = e ∙ sym (ap (λ t. cond t (g ∷ filter (λ h. h.job == job) gs) (filter (λ h. h.job == job) gs)) (never refl))

  pub held_leaves-kept : (a : List Grant) (job : ℕ) → keeps job ≡ true → held_leaves (grants_to keeps a) job ≡ held_leaves a job
  held_leaves-kept a job k = ap (map (λ g. g.leaf)) (own-kept a job k)

  pub bid_worth-kept : (a : List Grant) (b : Bid) → keeps b.job ≡ true → bid_worth (grants_to keeps a) b ≡ bid_worth a b
  bid_worth-kept a b k =
      worth_by-same (leaf_worth (grants_to keeps a) b.job) (leaf_worth a b.job) (λ l. ap (worth_at l) (granted-kept a b.job l.num k)) b.expr

  module _ (s : Space) where
    abbrev part : Space
    part = restricted keeps s

    -- what an allotment is worth to the jobs that are kept, its grants to them are worth
    pub total-kept : (a : List Grant) → total_in part (grants_to keeps a) ≡ total_in part a
    total-kept a =
        sym (sum_of-sum_by (bid_worth (grants_to keeps a)) part.bids)
        ∙ sum_of-eq (bid_worth (grants_to keeps a)) (bid_worth a) part.bids
        (Each-passed (λ b. bid_worth (grants_to keeps a) b ≡ bid_worth a b) (λ (b : Bid). keeps b.job) (bid_worth-kept a) s.bids)
        ∙ sum_of-sum_by (bid_worth a) part.bids

    -- ---- what is lawful
    live_there : (l : Leaf) → IsLive s l → IsLive part l
    live_there l h = record { not_early = h.not_early; not_late = h.not_late }

    live_back : (l : Leaf) → IsLive part l → IsLive s l
    live_back l h = record { not_early = h.not_early; not_late = h.not_late }

    free_there : (l : Leaf) (n : ℕ) → IsFreeThroughout s l n → IsFreeThroughout part l n
    free_there l n h slot covers =
        let f = h slot covers in record { there = f.there; not_drained = f.not_drained; idle = f.idle; not_closed = f.not_closed }

    free_back : (l : Leaf) (n : ℕ) → IsFreeThroughout part l n → IsFreeThroughout s l n
    free_back l n h slot covers =
        let f = h slot covers in record { there = f.there; not_drained = f.not_drained; idle = f.idle; not_closed = f.not_closed }

    may_there : (nodes : List ℕ) (l : Leaf) → MayBeGranted s l nodes → MayBeGranted part l nodes
    may_there nodes l h = record {
      live = live_there l h.live;
      nodes_right = record {
        some = h.nodes_right.some;
        ascending = h.nodes_right.ascending;
        few = h.nodes_right.few;
        in_set = h.nodes_right.in_set;
        free = All-weaker (IsFreeThroughout s l) (IsFreeThroughout part l) (free_there l) nodes h.nodes_right.free;
      };
    }

    may_back : (nodes : List ℕ) (l : Leaf) → MayBeGranted part l nodes → MayBeGranted s l nodes
    may_back nodes l h = record {
      live = live_back l h.live;
      nodes_right = record {
        some = h.nodes_right.some;
        ascending = h.nodes_right.ascending;
        few = h.nodes_right.few;
        in_set = h.nodes_right.in_set;
        free = All-weaker (IsFreeThroughout part l) (IsFreeThroughout s l) (free_back l) nodes h.nodes_right.free;
      };
    }

    grant_there : (g : Grant) → keeps g.job ≡ true → IsLawfulGrant s g → IsLawfulGrant part g
    grant_there g k h =
        subst (λ o. IsSomeAnd o (λ l. MayBeGranted part l g.nodes)) (sym (leaf_in-kept s.bids g.job g.leaf k))
        (some_and (λ l. MayBeGranted s l g.nodes) (λ l. MayBeGranted part l g.nodes) (may_there g.nodes) (leaf_in s.bids g.job g.leaf) h)

    -- a lawful grant names a job that is kept
    pub grants_name_kept : (g : Grant) → IsLawfulGrant part g → keeps g.job ≡ true
    grants_name_kept g h = by_test (keeps g.job) refl
      where
        by_test : (t : Bool) → keeps g.job ≡ t → keeps g.job ≡ true
        by_test true e = e
        by_test false e = absurd (subst (λ o. IsSomeAnd o (λ l. MayBeGranted part l g.nodes)) (leaf_in-other s.bids g.job g.leaf e) h)

    grant_back : (g : Grant) → IsLawfulGrant part g → IsLawfulGrant s g
    grant_back g h =
        some_and (λ l. MayBeGranted part l g.nodes) (λ l. MayBeGranted s l g.nodes) (may_back g.nodes) (leaf_in s.bids g.job g.leaf)
        (subst (λ o. IsSomeAnd o (λ l. MayBeGranted part l g.nodes)) (leaf_in-kept s.bids g.job g.leaf (grants_name_kept g h)) h)

    apart_there : (g h : Grant) → keeps g.job ≡ true → keeps h.job ≡ true → AreApart s g h → AreApart part g h
    apart_there g h kept also apart = record {
      other_leaf = apart.other_leaf;
      other_slots = λ n held common l found m other.
          apart.other_slots n held common l (sym (leaf_in-kept s.bids g.job g.leaf kept) ∙ found) m (sym (leaf_in-kept s.bids h.job h.leaf also) ∙ other);
    }

    apart_back : (g h : Grant) → keeps g.job ≡ true → keeps h.job ≡ true → AreApart part g h → AreApart s g h
    apart_back g h kept also apart = record {
      other_leaf = apart.other_leaf;
      other_slots = λ n held common l found m other.
          apart.other_slots n held common l (leaf_in-kept s.bids g.job g.leaf kept ∙ found) m (leaf_in-kept s.bids h.job h.leaf also ∙ other);
    }

    -- the grants of a lawful allotment to the jobs that are kept are lawful for them alone
    pub lawful-kept : (a : List Grant) → IsLawful s a → IsLawful part (grants_to keeps a)
    lawful-kept a lawful =
        let passes = filter_passes (λ (g : Grant). keeps g.job) a in
        let each = All-filter (λ (g : Grant). keeps g.job) (IsLawfulGrant s) a lawful.grants in
        let pairs = AllPairs-filter (AreApart s) (λ (g : Grant). keeps g.job) a lawful.apart in
        record {
          grants = λ k d lt. grant_there (get_or (grants_to keeps a) k d) (passes k d lt) (each k d lt);
          apart = λ i j d lt within.
              apart_there (get_or (grants_to keeps a) i d) (get_or (grants_to keeps a) j d) (passes i d (omega arith)) (passes j d within) (pairs i j d lt within);
        }

    -- what is lawful for them alone is lawful in the whole
    pub lawful-whole : (a : List Grant) → IsLawful part a → IsLawful s a
    lawful-whole a lawful = record {
      grants = All-weaker (IsLawfulGrant part) (IsLawfulGrant s) grant_back a lawful.grants;
      apart = λ i j d lt within.
          apart_back (get_or a i d) (get_or a j d) (grants_name_kept (get_or a i d) (lawful.grants i d (omega arith)))
          (grants_name_kept (get_or a j d) (lawful.grants j d within)) (lawful.apart i j d lt within);
    }

    -- ---- thrift and limits
    pub thrifty-kept : (a : List Grant) → IsThriftyForAll s a → IsThriftyForAll part (grants_to keeps a)
    thrifty-kept a thrifty =
        let passes = filter_passes (λ (b : Bid). keeps b.job) s.bids in
        let each = All-filter (λ (b : Bid). keeps b.job) (λ b. IsThriftyFor a b.job b.expr) s.bids thrifty in
        λ k d lt.
        let b : Bid = get_or part.bids k d in
        thrifty_of-same a (grants_to keeps a) b.job b.expr (λ leaf. sym (granted-kept a b.job leaf (passes k d lt))) (sym (held_leaves-kept a b.job (passes k d lt))) (each k d lt)

    -- and grants to a job that waste nothing among those to the kept jobs waste nothing among all
    pub thrifty-whole : (a : List Grant) (b : Bid) → keeps b.job ≡ true → IsThriftyFor (grants_to keeps a) b.job b.expr → IsThriftyFor a b.job b.expr
    thrifty-whole a b k = thrifty_of-same (grants_to keeps a) a b.job b.expr (λ leaf. granted-kept a b.job leaf k) (held_leaves-kept a b.job k)

    sound_bid : (b : Bid) → IsSoundBid s b → IsSoundBid part b
    sound_bid b h = record {
      well_made = h.well_made;
      known_sets = All-weaker (HasKnownSet s) (HasKnownSet part) (λ l known. record { known = known.known; there = known.there }) (leaves b.expr) h.known_sets;
    }

    pub sound-kept : IsSound s → IsSound part
    sound-kept h = record {
      early = h.early;
      some_slots = h.some_slots;
      few_slots = h.few_slots;
      some_nodes = h.some_nodes;
      few_nodes = h.few_nodes;
      all_known = h.all_known;
      all_marked = h.all_marked;
      busy_within = h.busy_within;
      sound_closures = h.sound_closures;
      few_jobs = omega (arith, h.few_jobs, filter_shorter (λ (b : Bid). keeps b.job) s.bids);
      ascending = AllPairs-filter (λ (b c : Bid). b.job < c.job) (λ (b : Bid). keeps b.job) s.bids h.ascending;
      sound_bids = All-weaker (IsSoundBid s) (IsSoundBid part) sound_bid part.bids (All-filter (λ (b : Bid). keeps b.job) (IsSoundBid s) s.bids h.sound_bids);
    }

-- Wanted jobs: what is lawful there, what an allotment is worth, and one job more.
use Rattle.std.proofs.Common.{◌≡◌, ◌≢◌, ℕ, suc, ◌+◌, ◌<◌, ◌≤◌, ◌==◌, ◌||◌, Bool, true, false, cond, nat_le, List, [], ◌∷◌, ◌++◌, length, get_or, map, All, AllPairs, Contains, Option, Some, None, refl, sym, ap, ◌∙◌, subst, arith, true≢false}
use Rattle.std.specs.List.{filter, find}
use Rattle.std.specs.Option.{IsSomeAnd, option_and_then}
use Rattle.std.proofs.lemmas.Bool.Decides.{nat_tests}
use Rattle.std.proofs.lemmas.List.{append-nil, get_or-map, length-map, map-append}
use Rattle.std.proofs.lemmas.List.Elements.{All-contains, All-map, All-push, All-same, All-weaker}
use Rattle.std.proofs.lemmas.List.Folds.{list_any-append}
use Rattle.tetri_base.specs.Lists.{bit, count, has, Each}
use Rattle.tetri_base.proofs.ListLaws.{Each-all, Each-map, EachPair-from, bit-le, none_from, sum_of-eq, sum_of-map, test_from_ne}
use Rattle.tetri_base.proofs.OrderLaws.{sum_of-sum_by}
use Rattle.tetri_strl.specs.declared.expr.Leaf.{Leaf}
use Rattle.tetri_strl.specs.declared.grants.Grant.{Grant}
use Rattle.tetri_strl.specs.Thrifty.{IsThriftyFor}
use Rattle.tetri_strl.specs.Tree.{barrier, leaves}
use Rattle.tetri_strl.specs.WellMade.{depth}
use Rattle.tetri_strl.proofs.ExprLaws.{NamesNot, apart_of_pairs, thrifty-append_right, trimmed_thrifty}
use Rattle.tetri_space.specs.Free.{IsFreeThroughout}
use Rattle.tetri_space.specs.Lawful.{AreApart, IsLawful, IsLawfulGrant, MayBeGranted}
use Rattle.tetri_space.specs.Sound.{HasKnownSet, IsSound, IsSoundBid}
use Rattle.tetri_space.specs.Space.{Bid, IsLive, Space, leaf_in}
use Rattle.tetri_space.specs.Total.{bid_worth, total_in}
use Rattle.tetri_space.specs.Trimmed.{IsThriftyForAll}
use Rattle.tetri_space.proofs.InstanceLaws.{all_of, each_of, find-by_key}
use Rattle.tetri_split.specs.Restricted.{grants_to, restricted}
use Rattle.tetri_split.proofs.SplitLaws.{found_list, grants_name_kept, job_more, lawful-kept, lawful-whole, sound-kept}
use Rattle.tetri_reserve.specs.Book.{IsShallow}
use Rattle.tetri_reserve.specs.Wanted.{each_wanted, wanted, wanted_bid, with_bid}

-- ---- other bids with the same leaves
some_and : {X : Type 0} (P Q : X → Type 0) → ((x : X) → P x → Q x) → (o : Option X) → IsSomeAnd o P → IsSomeAnd o Q
some_and P Q f None h = h
some_and P Q f (Some x) h = f x h

module _ (s : Space) (bids : List Bid) (same : (job num : ℕ) → leaf_in bids job num ≡ leaf_in s.bids job num) where
  abbrev other : Space
  other = record s { bids = bids }

  live_other : (l : Leaf) → IsLive s l → IsLive other l
  live_other l h = record { not_early = h.not_early; not_late = h.not_late }

  free_other : (l : Leaf) (n : ℕ) → IsFreeThroughout s l n → IsFreeThroughout other l n
  free_other l n h slot covers =
      let f = h slot covers in record { there = f.there; not_drained = f.not_drained; idle = f.idle; not_closed = f.not_closed }

  may_other : (nodes : List ℕ) (l : Leaf) → MayBeGranted s l nodes → MayBeGranted other l nodes
  may_other nodes l h = record {
    live = live_other l h.live;
    nodes_right = record {
      some = h.nodes_right.some;
      ascending = h.nodes_right.ascending;
      few = h.nodes_right.few;
      in_set = h.nodes_right.in_set;
      free = All-weaker (IsFreeThroughout s l) (IsFreeThroughout other l) (free_other l) nodes h.nodes_right.free;
    };
  }

  grant_other : (g : Grant) → IsLawfulGrant s g → IsLawfulGrant other g
  grant_other g h =
      subst (λ o. IsSomeAnd o (λ l. MayBeGranted other l g.nodes)) (sym (same g.job g.leaf))
      (some_and (λ l. MayBeGranted s l g.nodes) (λ l. MayBeGranted other l g.nodes) (may_other g.nodes) (leaf_in s.bids g.job g.leaf) h)

  apart_other : (g h : Grant) → AreApart s g h → AreApart other g h
  apart_other g h apart = record {
    other_leaf = apart.other_leaf;
    other_slots = λ n held common l found m also. apart.other_slots n held common l (sym (same g.job g.leaf) ∙ found) m (sym (same h.job h.leaf) ∙ also);
  }

  lawful_other : (a : List Grant) → IsLawful s a → IsLawful other a
  lawful_other a lawful = record {
    grants = All-weaker (IsLawfulGrant s) (IsLawfulGrant other) grant_other a lawful.grants;
    apart = λ i j d lt within. apart_other (get_or a i d) (get_or a j d) (lawful.apart i j d lt within);
  }

-- ---- what is lawful
abbrev leaf_of : ℕ → Option Bid → Option Leaf
leaf_of num o = option_and_then (λ (c : Bid). find (λ l. l.num == num) (leaves c.expr)) o

leaf_in-wanted : (bs : List Bid) (job num : ℕ) → leaf_in (map wanted_bid bs) job num ≡ leaf_in bs job num
leaf_in-wanted [] job num = refl
leaf_in-wanted (b ∷ bs) job num = by_test (b.job == job) (leaf_in-wanted bs job num)
  where
    by_test : (t : Bool) → leaf_of num (find (λ c. c.job == job) (map wanted_bid bs)) ≡ leaf_of num (find (λ c. c.job == job) bs) →
        leaf_of num (cond t (Some (wanted_bid b)) (find (λ c. c.job == job) (map wanted_bid bs))) ≡ leaf_of num (cond t (Some b) (find (λ c. c.job == job) bs))
    by_test true e = refl
    by_test false e = e

-- what is lawful in the instance is lawful where its jobs are wanted
pub lawful_there : (s : Space) (a : List Grant) → IsLawful s a → IsLawful (each_wanted s) a
lawful_there s = lawful_other s (map wanted_bid s.bids) (leaf_in-wanted s.bids)

pub lawful_back : (s : Space) (a : List Grant) → IsLawful (each_wanted s) a → IsLawful s a
lawful_back s = lawful_other (each_wanted s) s.bids (λ job num. sym (leaf_in-wanted s.bids job num))

-- ---- totals
bit_of : (t : Bool) → cond t 1 0 ≡ bit t
bit_of true = refl
bit_of false = refl

wanted_worth : (a : List Grant) (b : Bid) → bid_worth a (wanted_bid b) ≡ bit (nat_le 1 (bid_worth a b))
wanted_worth a b = bit_of (nat_le 1 (bid_worth a b))

-- how many jobs the allotment makes worth something
abbrev pub served : List Grant → List Bid → ℕ
served a bs = count (λ b. nat_le 1 (bid_worth a b)) bs

pub total_wanted : (s : Space) (a : List Grant) → total_in (each_wanted s) a ≡ served a s.bids
total_wanted s a =
    sym (sum_of-sum_by (bid_worth a) (map wanted_bid s.bids)) ∙ sum_of-map (bid_worth a) wanted_bid s.bids
    ∙ sum_of-eq (λ b. bid_worth a (wanted_bid b)) (λ b. bit (nat_le 1 (bid_worth a b))) s.bids
    (Each-all (λ b. bid_worth a (wanted_bid b) ≡ bit (nat_le 1 (bid_worth a b))) (wanted_worth a) s.bids)

served_le : (a : List Grant) (bs : List Bid) → served a bs ≤ length bs
served_le a [] = omega arith
served_le a (b ∷ bs) = omega (arith, bit-le (nat_le 1 (bid_worth a b)), served_le a bs)

pub total_le : (s : Space) (a : List Grant) → total_in (each_wanted s) a ≤ length (each_wanted s).bids
total_le s a = omega (arith, total_wanted s a, served_le a s.bids, length-map s.bids wanted_bid)

le_from_test : (m n : ℕ) → nat_le m n ≡ true → m ≤ n
le_from_test m n e = grind (arith, nat_tests)

test_from_le : (m n : ℕ) → m ≤ n → nat_le m n ≡ true
test_from_le m n e = grind (arith, nat_tests)

-- all of them are, where they are as many
pub all_served : (a : List Grant) (bs : List Bid) → served a bs ≡ length bs → Each (λ b. 1 ≤ bid_worth a b) bs
all_served a [] e = tt
all_served a (b ∷ bs) e = by_test (all_served a bs) (nat_le 1 (bid_worth a b)) refl e
  where
    by_test : (served a bs ≡ length bs → Each (λ c. 1 ≤ bid_worth a c) bs) → (t : Bool) → nat_le 1 (bid_worth a b) ≡ t → bit t + served a bs ≡ suc (length bs) →
        Each (λ c. 1 ≤ bid_worth a c) (b ∷ bs)
    by_test rest true is e = (le_from_test 1 (bid_worth a b) is, rest (omega (arith, e)))
    by_test rest false is e = absurd (omega (arith, e, served_le a bs))

pub served_all : (a : List Grant) (bs : List Bid) → Each (λ b. 1 ≤ bid_worth a b) bs → served a bs ≡ length bs
served_all a [] h = refl
served_all a (b ∷ bs) h = omega (arith, ap bit (test_from_le 1 (bid_worth a b) h.0), served_all a bs h.1)

-- ---- soundness
wanted_sound : (s : Space) (b : Bid) → depth b.expr < 64 → IsSoundBid s b → IsSoundBid (each_wanted s) (wanted_bid b)
wanted_sound s b shallow h = record {
  well_made = record {
    sound = (h.well_made.sound, omega arith);
    aligned = h.well_made.aligned;
    distinct = h.well_made.distinct;
    few_leaves = h.well_made.few_leaves;
    shallow = omega (arith, shallow);
  };
  known_sets = All-weaker (HasKnownSet s) (HasKnownSet (each_wanted s)) (λ l known. record { known = known.known; there = known.there }) (leaves b.expr) h.known_sets;
}

all_ascend : (bs : List Bid) → AllPairs (λ (b c : Bid). b.job < c.job) bs → AllPairs (λ (b c : Bid). b.job < c.job) (map wanted_bid bs)
all_ascend bs up i j d lt within =
    let inside : j < length bs = omega (arith, within, length-map bs wanted_bid) in
    let first = ap (λ (c : Bid). c.job) (get_or-map wanted_bid bs i d d (omega arith)) in
    let second = ap (λ (c : Bid). c.job) (get_or-map wanted_bid bs j d d inside) in
    omega (arith, up i j d lt inside, first, second)

-- where no expression is 64 deep, the instance of wanted jobs is sound
pub each_wanted_sound : (s : Space) → IsSound s → All IsShallow s.bids → IsSound (each_wanted s)
each_wanted_sound s h shallow = record {
  early = h.early;
  some_slots = h.some_slots;
  few_slots = h.few_slots;
  some_nodes = h.some_nodes;
  few_nodes = h.few_nodes;
  all_known = h.all_known;
  all_marked = h.all_marked;
  busy_within = h.busy_within;
  sound_closures = h.sound_closures;
  few_jobs = omega (arith, h.few_jobs, length-map s.bids wanted_bid);
  ascending = all_ascend s.bids h.ascending;
  sound_bids = All-map (IsSoundBid (each_wanted s)) wanted_bid s.bids
      (λ k d lt. wanted_sound s (get_or s.bids k d) (shallow k d lt) (h.sound_bids k d lt));
}

-- ---- one job more
all_pass : (p : ℕ → Bool) (a : List Grant) → Each (λ g. p g.job ≡ true) a → grants_to p a ≡ a
all_pass p [] h = refl
all_pass p (g ∷ gs) h = ap (λ t. cond t (g ∷ grants_to p gs) (grants_to p gs)) h.0 ∙ ap (λ hs. g ∷ hs) (all_pass p gs h.1)

has_first : (ns : List ℕ) (n m : ℕ) → has ns m ≡ true → has (ns ++ n ∷ []) m ≡ true
has_first ns n m e = list_any-append (λ k. k == m) ns (n ∷ []) ∙ ap (λ t. t || has (n ∷ []) m) e

not_among : (ns : List ℕ) (n : ℕ) → Each (λ k. k < n) ns → has ns n ≡ false
not_among ns n below = none_from (λ k. k == n) ns (Each-map (λ k. k < n) (λ k. (k == n) ≡ false) (λ k lt. test_from_ne k n (λ e. absurd (omega (arith, lt, e)))) ns below)

-- no job is wanted at first
pub none_kept : (bs : List Bid) → filter (λ b. has [] b.job) bs ≡ []
none_kept [] = refl
none_kept (b ∷ bs) = none_kept bs

module _ (s : Space) where
  pub wanted_none : wanted s [] ≡ record s { bids = [] }
  wanted_none = ap {B = Space} (λ (bs : List Bid). record s { bids = map wanted_bid bs }) (none_kept s.bids)

  -- what is lawful for wanted jobs grants to them alone
  pub grants_name_wanted : (ns : List ℕ) (a : List Grant) → IsLawful (wanted s ns) a → Each (λ g. has ns g.job ≡ true) a
  grants_name_wanted ns a lawful =
      each_of (λ (g : Grant). has ns g.job ≡ true) a
      (All-weaker (IsLawfulGrant (restricted (has ns) s)) (λ g. has ns g.job ≡ true) (grants_name_kept (has ns) s) a (lawful_back (restricted (has ns) s) a lawful).grants)

  -- and is lawful in the instance
  pub lawful_wanted_whole : (ns : List ℕ) (a : List Grant) → IsLawful (wanted s ns) a → IsLawful s a
  lawful_wanted_whole ns a lawful = lawful-whole (has ns) s a (lawful_back (restricted (has ns) s) a lawful)

  module _ (ns : List ℕ) (b : Bid) (below : Each (λ n. n < b.job) ns) where
    abbrev one_more : List ℕ
    one_more = ns ++ b.job ∷ []

    pub lawful_more : (a : List Grant) → IsLawful (wanted s ns) a → IsLawful (wanted s one_more) a
    lawful_more a lawful =
        let named = Each-map (λ (g : Grant). has ns g.job ≡ true) (λ g. has one_more g.job ≡ true) (λ g e. has_first ns b.job g.job e) a (grants_name_wanted ns a lawful) in
        lawful_there (restricted (has one_more) s) a
        (subst (IsLawful (restricted (has one_more) s)) (all_pass (has one_more) a named) (lawful-kept (has one_more) s a (lawful_wanted_whole ns a lawful)))

    names_not : (a : List Grant) → IsLawful (wanted s ns) a → NamesNot b.job a
    names_not a lawful =
        all_of (λ g. g.job ≢ b.job) a
        (Each-map (λ (g : Grant). has ns g.job ≡ true) (λ g. g.job ≢ b.job)
        (λ g e same. true≢false (sym e ∙ ap (has ns) same ∙ not_among ns b.job below)) a (grants_name_wanted ns a lawful))

    module _ (sound : IsSound s) (pending : Contains s.bids b) where
      found : find (λ c. c.job == b.job) s.bids ≡ Some b
      found = find-by_key (λ (c : Bid). c.job) s.bids b (λ i j d lt within. λ same. absurd (omega (arith, sound.ascending i j d lt within))) pending

      kept_more : (restricted (has one_more) s).bids ≡ (restricted (has ns) s).bids ++ b ∷ []
      kept_more =
          job_more ns b.job below s.bids (EachPair-from (λ (c d : Bid). c.job < d.job) s.bids sound.ascending)
          ∙ ap (λ o. filter (λ (c : Bid). has ns c.job) s.bids ++ found_list o) found

      pub wanted_more : with_bid (wanted s ns) b ≡ wanted s one_more
      wanted_more =
          ap {B = Space} (λ (bs : List Bid). record s { bids = bs })
          (sym (ap (map wanted_bid) kept_more ∙ map-append wanted_bid (restricted (has ns) s).bids (b ∷ [])))

      pub shallow_more : All IsShallow (restricted (has ns) s).bids → IsShallow b → All IsShallow (restricted (has one_more) s).bids
      shallow_more shallow here = All-same IsShallow _ _ kept_more (All-push IsShallow (restricted (has ns) s).bids b shallow here)

      pub sound_more : All IsShallow (restricted (has ns) s).bids → IsShallow b → IsSound (wanted s one_more)
      sound_more shallow here = each_wanted_sound (restricted (has one_more) s) (sound-kept (has one_more) s sound) (shallow_more shallow here)

      idle_thrifty : (a : List Grant) → IsLawful (wanted s ns) a → IsThriftyFor a b.job (barrier b.expr 1)
      idle_thrifty a lawful =
          let bid_sound : IsSoundBid s b = All-contains (IsSoundBid s) s.bids b sound.sound_bids pending in
          subst (λ (g : List Grant). IsThriftyFor g b.job (barrier b.expr 1)) (append-nil a)
          (thrifty-append_right a [] b.job (barrier b.expr 1) (names_not a lawful)
          (trimmed_thrifty [] b.job (barrier b.expr 1) (bid_sound.well_made.sound, omega arith) (apart_of_pairs b.expr bid_sound.well_made.distinct)))

      pub thrifty_more : (a : List Grant) → IsLawful (wanted s ns) a → IsThriftyForAll (wanted s ns) a → IsThriftyForAll (wanted s one_more) a
      thrifty_more a lawful thrifty =
          subst (λ (w : Space). IsThriftyForAll w a) wanted_more
          (All-push (λ c. IsThriftyFor a c.job c.expr) (wanted s ns).bids (wanted_bid b) thrifty (idle_thrifty a lawful))

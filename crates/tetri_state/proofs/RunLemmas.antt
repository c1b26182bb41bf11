-- A launch is made up of each job's own grants.
use Rattle.std.proofs.Common.{◌≡◌, ◌≢◌, ℕ, ◌+◌, ◌<◌, ◌≤◌, ◌==◌, ◌&&◌, ◌||◌, Bool, true, false, cond, nat_lt, List, [], zero, suc, ◌∷◌, ◌++◌, length, get_or, take, drop, map, All, AllPairs, refl, sym, ap, ◌∙◌, append_assoc, arith}
use Rattle.std.specs.List.{filter, list_any, sum_by}
use Rattle.std.specs.List.Sorted.{IsNonDecreasingBy}
use Rattle.std.proofs.lemmas.Bool.Decides.{nat_tests}
use Rattle.std.proofs.lemmas.List.Elements.{filter_agree}
use Rattle.std.proofs.lemmas.List.{take-append-drop}
use Rattle.std.proofs.lemmas.List.Elements.{All-head, All-tail, All-weaker}
use Rattle.std.proofs.lemmas.List.Sums.{sum_by-cons}
use Rattle.tetri_base.specs.Lists.{EachPair, has}
use Rattle.tetri_base.specs.Order.{in_order}
use Rattle.tetri_base.proofs.ListLaws.{Each-get}
use Rattle.tetri_base.proofs.OrderLaws.{IsOrder, NotAfter, in_order-rises, order_by, order_then}
use Rattle.tetri_strl.specs.declared.grants.Grant.{Grant}
use Rattle.tetri_strl.proofs.ExprLaws.{NamesNot, worth_of-append_left, worth_of-append_right}
use Rattle.tetri_space.proofs.InstanceLaws.{later_jobs, next_bid, total_in_order}
use Rattle.tetri_space.specs.GrantOrder.{comes_first}
use Rattle.tetri_space.specs.declared.instance.Offer.{Offer}
use Rattle.tetri_space.specs.Space.{Bid, Space, bid}
use Rattle.tetri_space.specs.Total.{bid_worth, total_in}
use Rattle.tetri_state.specs.Launch.{launched_bids, launched_in, start_of, starts_now, worth_launched}

-- one more element, of which something is told where it passes a test
module _ {X Y : Type 0} (p : X → Bool) (f : X → Y) (told : List Y) (x : X) (rest all : List X) (next : all ≡ x ∷ rest) where
  pub next_told : p x ≡ true → (told ++ f x ∷ []) ++ map f (filter p rest) ≡ told ++ map f (filter p all)
  next_told passes =
      append_assoc told (f x ∷ []) (map f (filter p rest))
      ∙ ap (λ xs. told ++ map f xs) (sym (ap (filter p) next ∙ ap (λ t. cond t (x ∷ filter p rest) (filter p rest)) passes))

  pub next_passed : p x ≡ false → told ++ map f (filter p rest) ≡ told ++ map f (filter p all)
  next_passed fails = ap (λ xs. told ++ map f xs) (sym (ap (filter p) next ∙ ap (λ t. cond t (x ∷ filter p rest) (filter p rest)) fails))

-- one of those that pass a test
pub any_filtered : {X : Type 0} (p q : X → Bool) (xs : List X) → list_any q (filter p xs) ≡ list_any (λ x. q x && p x) xs
any_filtered p q [] = refl
any_filtered p q (x ∷ xs) = by_test (p x) refl (any_filtered p q xs)
  where
    dropped : (s : Bool) (b : Bool) → b ≡ (s && false || b)
    dropped true b = refl
    dropped false b = refl

    kept : (s : Bool) (b : Bool) → (s || b) ≡ (s && true || b)
    kept true b = refl
    kept false b = refl

    by_test : (b : Bool) → p x ≡ b → list_any q (filter p xs) ≡ list_any (λ y. q y && p y) xs →
        list_any q (cond b (x ∷ filter p xs) (filter p xs)) ≡ (q x && p x || list_any (λ y. q y && p y) xs)
    by_test true is rest =
        kept (q x) (list_any q (filter p xs)) ∙ ap (λ b. q x && true || b) rest ∙ ap (λ b. q x && b || list_any (λ y. q y && p y) xs) (sym is)
    by_test false is rest = rest ∙ dropped (q x) (list_any (λ y. q y && p y) xs) ∙ ap (λ b. q x && b || list_any (λ y. q y && p y) xs) (sym is)

any_job : (gs : List Grant) (job : ℕ) → has (map (λ (g : Grant). g.job) gs) job ≡ list_any (λ g. g.job == job) gs
any_job [] job = refl
any_job (g ∷ gs) job = ap (λ b. g.job == job || b) (any_job gs job)

-- the jobs of the grants that start now are those that have one
pub starting_told : (s : Space) (gs : List Grant) (job : ℕ) → has (map (λ (g : Grant). g.job) (filter (λ g. start_of s g == s.now) gs)) job ≡ starts_now s gs job
starting_told s gs job = any_job (filter (λ g. start_of s g == s.now) gs) job ∙ any_filtered (λ g. start_of s g == s.now) (λ (g : Grant). g.job == job) gs

-- the sum over those that pass a test
sum_passing-same : (f g : Bid → ℕ) (p : Bid → Bool) (bs : List Bid) → All (λ b. f b ≡ g b) bs → sum_by f (filter p bs) ≡ sum_by g (filter p bs)
sum_passing-same f g p [] same = refl
sum_passing-same f g p (b ∷ bs) same =
    by_test (p b) (All-head (λ c. f c ≡ g c) b bs same) (sum_passing-same f g p bs (All-tail (λ c. f c ≡ g c) b bs same))
  where
    by_test : (t : Bool) → f b ≡ g b → sum_by f (filter p bs) ≡ sum_by g (filter p bs) →
        sum_by f (cond t (b ∷ filter p bs) (filter p bs)) ≡ sum_by g (cond t (b ∷ filter p bs) (filter p bs))
    by_test true here rest = omega (arith, here, rest, sum_by-cons f b (filter p bs), sum_by-cons g b (filter p bs))
    by_test false here rest = rest

sum_passing_le : (f : Bid → ℕ) (p : Bid → Bool) (bs : List Bid) → sum_by f (filter p bs) ≤ sum_by f bs
sum_passing_le f p [] = omega arith
sum_passing_le f p (b ∷ bs) = by_test (p b) (sum_passing_le f p bs)
  where
    by_test : (t : Bool) → sum_by f (filter p bs) ≤ sum_by f bs → sum_by f (cond t (b ∷ filter p bs) (filter p bs)) ≤ sum_by f (b ∷ bs)
    by_test true rest = omega (arith, rest, sum_by-cons f b (filter p bs), sum_by-cons f b bs)
    by_test false rest = omega (arith, rest, sum_by-cons f b bs)

-- what some jobs get is worth no more than what all get
pub part_le_total : (s : Space) (a : List Grant) (p : Bid → Bool) → sum_by (bid_worth a) (filter p s.bids) ≤ total_in s a
part_le_total s a p = sum_passing_le (bid_worth a) p s.bids

module _ (p : Bid → Bool) where
  module _ (a b : List Grant) (c : Bid) (cs : List Bid) (later : All (λ (d : Bid). c.job < d.job) cs) (within : All (λ (g : Grant). g.job ≤ c.job) a)
      (past : All (λ (g : Grant). c.job < g.job) b) where
    not_past : NamesNot c.job b
    not_past = All-weaker (λ (g : Grant). c.job < g.job) (λ (g : Grant). g.job ≢ c.job) (λ g lt same. absurd (omega arith)) b past

    not_within : (d : Bid) → c.job < d.job → NamesNot d.job a
    not_within d lt = All-weaker (λ (g : Grant). g.job ≤ c.job) (λ (g : Grant). g.job ≢ d.job) (λ g le same. absurd (omega arith)) a within

    rest_worth : sum_by (bid_worth (a ++ b)) (filter p cs) ≡ sum_by (bid_worth b) (filter p cs)
    rest_worth =
        sum_passing-same (bid_worth (a ++ b)) (bid_worth b) p cs
        (All-weaker (λ (d : Bid). c.job < d.job) (λ (d : Bid). bid_worth (a ++ b) d ≡ bid_worth b d)
        (λ d lt. worth_of-append_right a b d.job d.expr (not_within d lt)) cs later)

    -- a job's run of grants ends where a later job's begin
    run_worth : sum_by (bid_worth (a ++ b)) (filter p (c ∷ cs)) ≡ cond (p c) (bid_worth a c) 0 + sum_by (bid_worth b) (filter p cs)
    run_worth = by_test (p c)
      where
        by_test : (t : Bool) → sum_by (bid_worth (a ++ b)) (cond t (c ∷ filter p cs) (filter p cs)) ≡ cond t (bid_worth a c) 0 + sum_by (bid_worth b) (filter p cs)
        by_test true =
            let here : bid_worth (a ++ b) c ≡ bid_worth a c = worth_of-append_left a b c.job c.expr not_past in
            omega (arith, here, rest_worth, sum_by-cons (bid_worth (a ++ b)) c (filter p cs))
        by_test false = omega (arith, rest_worth)

  module _ (os : List Offer) (i : ℕ) (o : Offer) (rest run past : List Grant) (n : ℕ) (ascending : AllPairs (λ (b c : Bid). b.job < c.job) (map bid os))
      (lt : i < length os) (is : o ≡ get_or os i o) (is_run : run ≡ take n rest) (is_past : past ≡ drop n rest)
      (within : All (λ (g : Grant). g.job ≤ o.job) (take n rest)) (after : All (λ (g : Grant). o.job < g.job) (drop n rest)) where
    abbrev left : List Bid
    left = drop (i + 1) (map bid os)

    whole : rest ≡ take n rest ++ drop n rest
    whole = sym (take-append-drop n rest)

    -- what is left of the worth, one job and its run further on
    worth_turn : sum_by (bid_worth rest) (filter p (drop i (map bid os))) ≡ cond (p (bid o)) (bid_worth run (bid o)) 0 + sum_by (bid_worth past) (filter p left)
    worth_turn =
        ap (λ bs. sum_by (bid_worth rest) (filter p bs)) (next_bid os i o lt is)
        ∙ ap (λ gs. sum_by (bid_worth gs) (filter p (bid o ∷ left))) whole
        ∙ run_worth (take n rest) (drop n rest) (bid o) left (later_jobs os i o ascending lt is) within after
        ∙ ap (λ gs. cond (p (bid o)) (bid_worth gs (bid o)) 0 + sum_by (bid_worth (drop n rest)) (filter p left)) (sym is_run)
        ∙ ap (λ gs. cond (p (bid o)) (bid_worth run (bid o)) 0 + sum_by (bid_worth gs) (filter p left)) (sym is_past)

    pub worth_taken : p (bid o) ≡ true → sum_by (bid_worth rest) (filter p (drop i (map bid os))) ≡ bid_worth run (bid o) + sum_by (bid_worth past) (filter p left)
    worth_taken passes = worth_turn ∙ ap (λ t. cond t (bid_worth run (bid o)) 0 + sum_by (bid_worth past) (filter p left)) passes

    pub worth_passed : p (bid o) ≡ false → sum_by (bid_worth rest) (filter p (drop i (map bid os))) ≡ sum_by (bid_worth past) (filter p left)
    worth_passed fails = worth_turn ∙ ap (λ t. cond t (bid_worth run (bid o)) 0 + sum_by (bid_worth past) (filter p left)) fails ∙ omega arith

-- ---- grants in order
grant_order : IsOrder comes_first
grant_order = order_then (λ (g : Grant). g.job) _ (order_by (λ (g : Grant). g.leaf))

not_less : (j k : ℕ) (b : Bool) → (nat_lt k j || b) ≡ false → j ≤ k
not_less j k b e = grind (arith, nat_tests)

jobs_rise : (gs : List Grant) → EachPair (NotAfter comes_first) gs → IsNonDecreasingBy (λ (g : Grant). g.job) gs
jobs_rise [] pairs i j d le lt = absurd (omega arith)
jobs_rise (g ∷ gs) pairs zero zero d le lt = omega arith
jobs_rise (g ∷ gs) pairs (suc i) zero d le lt = absurd (omega arith)
jobs_rise (g ∷ gs) pairs zero (suc j) d le lt = not_less g.job (get_or gs j d).job _ (Each-get (NotAfter comes_first g) gs j d pairs.0 (omega arith))
jobs_rise (g ∷ gs) pairs (suc i) (suc j) d le lt = jobs_rise gs pairs.1 i j d (omega arith) (omega arith)

-- they ascend by job
pub ordered_rises : (gs : List Grant) → IsNonDecreasingBy (λ (g : Grant). g.job) (in_order comes_first gs)
ordered_rises gs = jobs_rise (in_order comes_first gs) (in_order-rises comes_first grant_order gs)

-- what is launched, by the jobs that have a grant which starts now
module _ (s : Space) (a : List Grant) (starting : List ℕ) (told : (job : ℕ) → has starting job ≡ starts_now s a job) where
  bids_are : filter (λ b. has starting b.job) s.bids ≡ launched_bids s a
  bids_are = filter_agree (λ (b : Bid). has starting b.job) (λ b. starts_now s a b.job) (λ b. told b.job) s.bids

  pub jobs_are : map (λ (b : Bid). b.job) (filter (λ b. has starting b.job) s.bids) ≡ launched_in s a
  jobs_are = ap (map (λ (b : Bid). b.job)) bids_are

  pub worth_is : sum_by (bid_worth a) (filter (λ b. has starting b.job) s.bids) ≡ worth_launched s a
  worth_is = ap (sum_by (bid_worth a)) bids_are

  -- and they are worth as much in another order
  pub worth_in_order : sum_by (bid_worth (in_order comes_first a)) (filter (λ b. has starting b.job) s.bids) ≡ worth_launched s a
  worth_in_order = ap (sum_by (bid_worth (in_order comes_first a))) bids_are ∙ total_in_order (record s { bids = launched_bids s a }) a

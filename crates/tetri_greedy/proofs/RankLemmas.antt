-- Ranks, and jobs in their order.
use Rattle.std.proofs.Common.{◌≡◌, ℕ, ◌+◌, ◌-◌, ◌^◌, ◌<◌, ◌≤◌, ◌==◌, ◌||◌, inl, inr, Bool, true, false, cond, max, List, [], ◌∷◌, ◌++◌, map, length, get_or, take, drop, All, refl, sym, ap, ◌∙◌, subst, arith, true≢false, nat_lt}
use Rattle.std.specs.List.{filter, list_any}
use Rattle.std.proofs.lemmas.Bool.{cases_lt}
use Rattle.std.proofs.lemmas.Bool.Decides.{nat_tests}
use Rattle.std.proofs.lemmas.List.{get_or-map, length-map, map-append, take_more}
use Rattle.std.proofs.lemmas.List.Elements.{All-append, All-cons, All-nil, filter-append}
use Rattle.tetri_base.specs.Lists.{Each}
use Rattle.tetri_base.specs.Order.{in_order, put}
use Rattle.tetri_base.proofs.OrderLaws.{Each-in_order}
use Rattle.tetri_strl.specs.declared.expr.Expr.{Expr}
use Rattle.tetri_strl.specs.declared.expr.Leaf.{Leaf}
use Rattle.tetri_strl.specs.Prune.{starts_in}
use Rattle.tetri_strl.specs.Tree.{leaves, leaves_of, tree, trees}
use Rattle.tetri_strl.specs.Worth.{greatest_of}
use Rattle.tetri_space.specs.declared.instance.Offer.{Offer}
use Rattle.tetri_space.specs.Space.{Bid, Space, bid, is_live}
use Rattle.tetri_advice.specs.Creeds.{deadline, is_served_first, window_top}
use Rattle.tetri_advice.specs.declared.creed.Creed.{Creed}
use Rattle.tetri_advice.specs.declared.creed.Creed.TheVariants.{Deadline, Worth}
use Rattle.tetri_advice.proofs.AdviceLaws.{all_of, each_of}
use Rattle.tetri_greedy.specs.Order.{AreInOrder, AreRanked, IsRanked, is_lower, job_at, past_last_start, rank_of}
use Rattle.tetri_greedy.specs.declared.order.Ranked.{Ranked}
use Rattle.tetri_greedy.proofs.Steps.{next_part}

-- ---- deadlines
greatest_of-append : (xs ys : List ℕ) → greatest_of (xs ++ ys) ≡ max (greatest_of xs) (greatest_of ys)
greatest_of-append [] ys = omega arith
greatest_of-append (x ∷ xs) ys = omega (arith, greatest_of-append xs ys)

past_last-append : (from to : ℕ) (ls ms : List Leaf) → past_last_start from to (ls ++ ms) ≡ max (past_last_start from to ls) (past_last_start from to ms)
past_last-append from to ls ms =
    ap (λ ns. greatest_of (map (λ (l : Leaf). l.start + 1) ns)) (filter-append (starts_in from to) ls ms)
    ∙ ap greatest_of (map-append (λ (l : Leaf). l.start + 1) (filter (starts_in from to) ls) (filter (starts_in from to) ms))
    ∙ greatest_of-append (map (λ (l : Leaf). l.start + 1) (filter (starts_in from to) ls)) (map (λ (l : Leaf). l.start + 1) (filter (starts_in from to) ms))

-- the leaves of one part more
pub past_last_more : (from to : ℕ) (es : List Expr) (i : ℕ) (e : Expr) (last found whole : ℕ) → i < length es → e ≡ get_or es i e →
    found ≡ past_last_start from to (leaves (tree e)) → max last (past_last_start from to (leaves_of (trees (drop i es)))) ≡ whole →
    max (max found last) (past_last_start from to (leaves_of (trees (drop (i + 1) es)))) ≡ whole
past_last_more from to es i e last found whole lt is same so_far =
    let next = ap (λ ts. past_last_start from to (leaves_of ts)) (next_part es i e lt is) ∙ past_last-append from to (leaves (tree e)) (leaves_of (trees (drop (i + 1) es))) in
    omega (arith, so_far, next, same)

has_some : List Leaf → Bool
has_some [] = false
has_some (l ∷ ls) = true

any_filter : (p : Leaf → Bool) (ls : List Leaf) → list_any p ls ≡ has_some (filter p ls)
unfolding has_some
any_filter p [] = refl
any_filter p (l ∷ ls) = by_test (p l) (any_filter p ls)
  where
    by_test : (b : Bool) → list_any p ls ≡ has_some (filter p ls) → (b || list_any p ls) ≡ has_some (cond b (l ∷ filter p ls) (filter p ls))
    by_test true rest = refl
    by_test false rest = rest

one_more : (l : Leaf) (ls : List Leaf) → greatest_of (map (λ (m : Leaf). m.start + 1) (l ∷ ls)) ≡ greatest_of (map (λ (m : Leaf). m.start) (l ∷ ls)) + 1
one_more l [] = omega arith
one_more l (m ∷ ms) = omega (arith, one_more m ms)

last_of : (none : ℕ) (ls : List Leaf) →
    cond (has_some ls) (greatest_of (map (λ (l : Leaf). l.start) ls)) none ≡
    cond (greatest_of (map (λ (l : Leaf). l.start + 1) ls) == 0) none (greatest_of (map (λ (l : Leaf). l.start + 1) ls) - 1)
unfolding has_some
last_of none [] = refl
last_of none (l ∷ ls) = by_number (greatest_of (map (λ (m : Leaf). m.start) (l ∷ ls))) (greatest_of (map (λ (m : Leaf). m.start + 1) (l ∷ ls))) (one_more l ls)
  where
    not_zero : (n m : ℕ) → n ≡ m + 1 → (n == 0) ≡ false
    not_zero n m e = grind (arith, nat_tests)

    by_number : (m n : ℕ) → n ≡ m + 1 → m ≡ cond (n == 0) none (n - 1)
    by_number m n e =
        let test : (n == 0) ≡ false = not_zero n m e in
        omega (arith, e) ∙ sym (ap (λ b. cond b none (n - 1)) test)

-- a deadline by one more than the last live start
pub deadline_is : (s : Space) (b : Bid) (past : ℕ) → past ≡ past_last_start s.now (s.now + s.window) (leaves b.expr) →
    deadline s b ≡ cond (past == 0) (s.now + s.window) (past - 1)
deadline_is s b past e =
    ap (λ t. cond t (greatest_of (map (λ (l : Leaf). l.start) (filter (is_live s) (leaves b.expr)))) (s.now + s.window)) (any_filter (is_live s) (leaves b.expr))
    ∙ last_of (s.now + s.window) (filter (is_live s) (leaves b.expr))
    ∙ ap (λ n. cond (n == 0) (s.now + s.window) (n - 1)) (sym e)

-- ---- ranks
pub bid_at : (os : List Offer) (i : ℕ) (o : Offer) (d : Bid) → i < length os → o ≡ get_or os i o → get_or (map bid os) i d ≡ bid o
bid_at os i o d lt is = get_or-map bid os i o d lt ∙ ap bid (sym is)

-- one job more is ranked
pub ranked_more : (c : Creed) (s : Space) (os : List Offer) (i : ℕ) (o : Offer) (r : Ranked) (before after : List Ranked) → s.bids ≡ map bid os → i < length os → o ≡ get_or os i o →
    r.place ≡ i → r.rank ≡ rank_of c s (bid o) → window_top s (bid o) < 2 ^ 64 → after ≡ before ++ r ∷ [] → All (IsRanked c s) before →
    ((d : Bid) → map (job_at s.bids d) before ≡ take i s.bids) → All (IsRanked c s) after × ((d : Bid) → map (job_at s.bids d) after ≡ take (i + 1) s.bids)
ranked_more c s os i o r before after bids lt is place rank small made each jobs = (
  subst (All (IsRanked c s)) (sym made) (All-append (IsRanked c s) before (r ∷ []) each (All-cons (IsRanked c s) r [] ranked (All-nil (IsRanked c s)))),
  λ d. ap (map (job_at s.bids d)) made ∙ map-append (job_at s.bids d) before (r ∷ []) ∙ ap (λ bs. bs ++ job_at s.bids d r ∷ []) (jobs d)
      ∙ ap (λ k. take i s.bids ++ get_or s.bids k d ∷ []) place ∙ sym (take_more s.bids i d within),
)
  where
    within : i < length s.bids
    within = subst (λ bs. i < length bs) (sym bids) (omega (arith, lt, length-map os bid))

    here : (d : Bid) → job_at s.bids d r ≡ bid o
    here d = ap (λ k. get_or s.bids k d) place ∙ ap (λ bs. get_or bs i d) bids ∙ bid_at os i o d lt is

    ranked : IsRanked c s r
    ranked = record {
      within = omega (arith, within, place);
      rank = λ d. rank ∙ sym (ap (rank_of c s) (here d));
      small = λ d. subst (λ b. window_top s b < 2 ^ 64) (sym (here d)) small;
    }

-- ---- in order
module _ {X Y : Type 0} (f : X → Y) (p : X → X → Bool) (q : Y → Y → Bool) (Q : X → Type 0) (same : (a b : X) → Q a → Q b → p a b ≡ q (f a) (f b)) where
  map-put : (x : X) (ys : List X) → Q x → Each Q ys → map f (put p x ys) ≡ put q (f x) (map f ys)
  map-put x [] here each = refl
  map-put x (y ∷ ys) here each = by_tests (p y x) (q (f y) (f x)) (same y x each.0 here) (map-put x ys here each.1)
    where
      by_tests : (b c : Bool) → b ≡ c → map f (put p x ys) ≡ put q (f x) (map f ys) →
          map f (cond b (y ∷ put p x ys) (x ∷ y ∷ ys)) ≡ cond c (f y ∷ put q (f x) (map f ys)) (f x ∷ f y ∷ map f ys)
      by_tests true true e rest = ap (λ zs. f y ∷ zs) rest
      by_tests true false e rest = absurd (true≢false e)
      by_tests false true e rest = absurd (true≢false (sym e))
      by_tests false false e rest = refl

  map-in_order : (xs : List X) → Each Q xs → map f (in_order p xs) ≡ in_order q (map f xs)
  map-in_order [] each = refl
  map-in_order (x ∷ xs) each = map-put x (in_order p xs) each.0 (Each-in_order p Q xs each.1) ∙ ap (put q (f x)) (map-in_order xs each.1)

lt_true : (m n : ℕ) → m < n → nat_lt m n ≡ true
lt_true m n h = grind (arith, nat_tests)

lt_false : (m n : ℕ) → n ≤ m → nat_lt m n ≡ false
lt_false m n h = grind (arith, nat_tests)

turned : (m n top : ℕ) → m ≤ top → n ≤ top → nat_lt (top - m) (top - n) ≡ nat_lt n m
turned m n top first second = elim (cases_lt n m) [
  | inl lt ↦ lt_true (top - m) (top - n) (omega (arith, lt, first, second)) ∙ sym (lt_true n m lt)
  | inr le ↦ lt_false (top - m) (top - n) (omega (arith, le, first, second)) ∙ sym (lt_false n m le)
]

-- ranks go as the creed does
goes_as : (c : Creed) (s : Space) (a b : Bid) → window_top s a < 2 ^ 64 → window_top s b < 2 ^ 64 → nat_lt (rank_of c s a) (rank_of c s b) ≡ is_served_first c s a b
goes_as Deadline s a b first second = refl
goes_as Worth s a b first second = turned (window_top s a) (window_top s b) (2 ^ 64 - 1) (omega (arith, first)) (omega (arith, second))

-- ranked jobs by their ranks are in the order of the creed
pub in_creed_order : (c : Creed) (s : Space) (ranked sorted : List Ranked) → AreRanked c s ranked → sorted ≡ in_order is_lower ranked → AreInOrder c s sorted
in_creed_order c s ranked sorted are made = record {
  within =
      all_of (λ r. r.place < length s.bids) sorted
      (subst (Each (λ r. r.place < length s.bids)) (sym made)
      (Each-in_order is_lower (λ r. r.place < length s.bids) ranked (each_of (λ r. r.place < length s.bids) ranked (λ k d lt. (are.each k d lt).within))));
  jobs = λ d.
      ap (map (job_at s.bids d)) made
      ∙ map-in_order (job_at s.bids d) is_lower (is_served_first c s) (IsRanked c s) (λ a b p r. by_rank d a b p r) ranked (each_of (IsRanked c s) ranked are.each)
      ∙ ap (in_order (is_served_first c s)) (are.jobs d);
}
  where
    by_rank : (d : Bid) (a b : Ranked) → IsRanked c s a → IsRanked c s b → is_lower a b ≡ is_served_first c s (job_at s.bids d a) (job_at s.bids d b)
    by_rank d a b p r =
        ap (λ n. nat_lt n b.rank) (p.rank d) ∙ ap (nat_lt (rank_of c s (job_at s.bids d a))) (r.rank d)
        ∙ goes_as c s (job_at s.bids d a) (job_at s.bids d b) (p.small d) (r.small d)

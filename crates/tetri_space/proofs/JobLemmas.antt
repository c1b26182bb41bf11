-- A total is made up of each job's own grants.
use Rattle.std.proofs.Common.{◌≡◌, ◌≢◌, ℕ, ◌+◌, ◌<◌, ◌≤◌, List, [], ◌∷◌, ◌++◌, length, get_or, take, drop, map, All, AllPairs, Contains, refl, sym, ap, ◌∙◌, arith, inl, inr, ◌⊎◌, suc}
use Rattle.std.specs.List.{sum_by}
use Rattle.std.proofs.lemmas.Bool.{cases_eq}
use Rattle.std.proofs.lemmas.List.{take-append-drop}
use Rattle.std.proofs.lemmas.List.Sums.{sum_by-cons}
use Rattle.std.proofs.lemmas.List.Elements.{All-cons, All-head, All-tail, All-nil, All-weaker, Contains-get_or}
use Rattle.tetri_strl.specs.declared.grants.Grant.{Grant}
use Rattle.tetri_strl.proofs.ExprLaws.{NamesNot, worth_of-append_left, worth_of-append_right, worth_of-none}
use Rattle.tetri_space.specs.declared.instance.Offer.{Offer}
use Rattle.tetri_space.specs.Space.{Bid, Space, bid}
use Rattle.tetri_space.specs.Sound.{IsSoundBid, IsSound}
use Rattle.tetri_space.specs.Total.{bid_worth, total_in}
use Rattle.tetri_space.proofs.BidLemmas.{next_sum, later_jobs}

sum_same : (f g : Bid → ℕ) (bs : List Bid) → All (λ b. f b ≡ g b) bs → sum_by f bs ≡ sum_by g bs
sum_same f g [] same = refl
sum_same f g (b ∷ bs) same =
    let here : f b ≡ g b = All-head (λ c. f c ≡ g c) b bs same in
    let rest = sum_same f g bs (All-tail (λ c. f c ≡ g c) b bs same) in
    omega (arith, here, rest, sum_by-cons f b bs, sum_by-cons g b bs)

sum_both : (f g h : Bid → ℕ) (bs : List Bid) → All (λ b. f b ≡ g b + h b) bs → sum_by f bs ≡ sum_by g bs + sum_by h bs
sum_both f g h [] same = refl
sum_both f g h (b ∷ bs) same =
    let here : f b ≡ g b + h b = All-head (λ c. f c ≡ g c + h c) b bs same in
    let rest = sum_both f g h bs (All-tail (λ c. f c ≡ g c + h c) b bs same) in
    omega (arith, here, rest, sum_by-cons f b bs, sum_by-cons g b bs, sum_by-cons h b bs)

-- A job's run of grants ends where a later job's begin: the job is worth what its run gives it, and the later jobs
-- what the grants after the run give them.
run_first : (a b : List Grant) (c : Bid) (cs : List Bid) → All (λ (d : Bid). c.job < d.job) cs → All (λ (g : Grant). g.job ≤ c.job) a →
    All (λ (g : Grant). c.job < g.job) b → sum_by (bid_worth (a ++ b)) (c ∷ cs) ≡ bid_worth a c + sum_by (bid_worth b) cs
run_first a b c cs later within past =
    let others : NamesNot c.job b = All-weaker (λ (g : Grant). c.job < g.job) (λ (g : Grant). g.job ≢ c.job) (λ g lt same. absurd (omega arith)) b past in
    let here : bid_worth (a ++ b) c ≡ bid_worth a c = worth_of-append_left a b c.job c.expr others in
    let there = sum_same (bid_worth (a ++ b)) (bid_worth b) cs
    (All-weaker (λ (d : Bid). c.job < d.job) (λ (d : Bid). bid_worth (a ++ b) d ≡ bid_worth b d)
    (λ d lt. worth_of-append_right a b d.job d.expr
    (All-weaker (λ (g : Grant). g.job ≤ c.job) (λ (g : Grant). g.job ≢ d.job) (λ g le same. absurd (omega arith)) a within)) cs later) in
    omega (arith, here, there, sum_by-cons (bid_worth (a ++ b)) c cs)

run_step : (grants : List Grant) (n : ℕ) (c : Bid) (cs : List Bid) → All (λ (d : Bid). c.job < d.job) cs →
    All (λ (g : Grant). g.job ≤ c.job) (take n grants) → All (λ (g : Grant). c.job < g.job) (drop n grants) →
    bid_worth grants c + sum_by (bid_worth grants) cs ≡ bid_worth (take n grants) c + sum_by (bid_worth (drop n grants)) cs
run_step grants n c cs later within past =
    sym (sum_by-cons (bid_worth grants) c cs)
    ∙ ap (λ gs. sum_by (bid_worth gs) (c ∷ cs)) (sym (take-append-drop n grants))
    ∙ run_first (take n grants) (drop n grants) c cs later within past

-- what is left of the total, one job and its run further on
pub run_turn : (os : List Offer) (i : ℕ) (o : Offer) (rest run past : List Grant) (n : ℕ) → AllPairs (λ (b c : Bid). b.job < c.job) (map bid os) →
    i < length os → o ≡ get_or os i o → run ≡ take n rest → past ≡ drop n rest → All (λ (g : Grant). g.job ≤ o.job) (take n rest) →
    All (λ (g : Grant). o.job < g.job) (drop n rest) →
    sum_by (bid_worth rest) (drop i (map bid os)) ≡ bid_worth run (bid o) + sum_by (bid_worth past) (drop (i + 1) (map bid os))
run_turn os i o rest run past n ascending lt is is_run is_past within after =
    let left = drop (i + 1) (map bid os) in
    next_sum (bid_worth rest) os i o lt is
    ∙ run_step rest n (bid o) left (later_jobs os i o ascending lt is) within after
    ∙ ap (λ gs. bid_worth gs (bid o) + sum_by (bid_worth (drop n rest)) left) (sym is_run)
    ∙ ap (λ gs. bid_worth run (bid o) + sum_by (bid_worth gs) left) (sym is_past)

-- either no grant names the job, or one does
names_or_not : (job : ℕ) (a : List Grant) → NamesNot job a ⊎ ((g : Grant) × Contains a g × (g.job ≡ job))
names_or_not job [] = inl (All-nil (λ (g : Grant). g.job ≢ job))
names_or_not job (g ∷ gs) = elim (cases_eq g.job job) [
  | inl same ↦ inr (g, (0, omega arith, refl), same)
  | inr other ↦ elim (names_or_not job gs) [
    | inl none ↦ inl (All-cons (λ (h : Grant). h.job ≢ job) g gs other none)
    | inr found ↦ inr (found.0, (suc found.1.0, omega (arith, found.1.1), found.1.2), found.2)
  ]
]

-- no job has a grant in both lists
abbrev pub NoCommonJob : List Grant → List Grant → Type 0
NoCommonJob a b = (g h : Grant) → Contains a g → Contains b h → g.job ≢ h.job

module _ (s : Space) (a b : List Grant) (apart : NoCommonJob a b) where
  bid_worth-append : (c : Bid) → IsSoundBid s c → bid_worth (a ++ b) c ≡ bid_worth a c + bid_worth b c
  bid_worth-append c good = elim (names_or_not c.job a) [
    | inl none ↦
        omega (arith, worth_of-append_right a b c.job c.expr none, worth_of-none a c.job c.expr good.well_made.sound none)
    | inr found ↦
        let others : NamesNot c.job b = λ k d lt same. apart found.0 (get_or b k d) found.1 (Contains-get_or b k d lt) (found.2 ∙ sym same) in
        omega (arith, worth_of-append_left a b c.job c.expr others, worth_of-none b c.job c.expr good.well_made.sound others)
  ]

  -- the totals of grants of different jobs add
  pub total_in-append : IsSound s → total_in s (a ++ b) ≡ total_in s a + total_in s b
  total_in-append sound =
      sum_both (bid_worth (a ++ b)) (bid_worth a) (bid_worth b) s.bids
      (All-weaker (IsSoundBid s) (λ c. bid_worth (a ++ b) c ≡ bid_worth a c + bid_worth b c) bid_worth-append s.bids sound.sound_bids)

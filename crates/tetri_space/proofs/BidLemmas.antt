-- The bids of an instance, one after another.
use Rattle.std.proofs.Common.{◌≡◌, ℕ, ◌+◌, ◌<◌, List, ◌∷◌, length, get_or, drop, map, All, AllPairs, sym, ap, ◌∙◌, subst, arith, length-drop}
use Rattle.std.specs.List.{sum_by}
use Rattle.std.proofs.lemmas.List.{drop_more, get_or-map, get_or-drop, length-map}
use Rattle.std.proofs.lemmas.List.Sums.{sum_by-cons}
use Rattle.tetri_space.specs.declared.instance.Offer.{Offer}
use Rattle.tetri_space.specs.Space.{Bid, bid}

bid_at : (os : List Offer) (i : ℕ) (o : Offer) → i < length os → o ≡ get_or os i o → get_or (map bid os) i (bid o) ≡ bid o
bid_at os i o lt is = get_or-map bid os i o (bid o) lt ∙ ap bid (sym is)

-- what is left of the bids begins with the next offer's
pub next_bid : (os : List Offer) (i : ℕ) (o : Offer) → i < length os → o ≡ get_or os i o →
    drop i (map bid os) ≡ bid o ∷ drop (i + 1) (map bid os)
next_bid os i o lt is =
    let within : i < length (map bid os) = omega (arith, length-map os bid) in
    drop_more (map bid os) i (bid o) within ∙ ap (λ b. b ∷ drop (i + 1) (map bid os)) (bid_at os i o lt is)

pub next_sum : (f : Bid → ℕ) (os : List Offer) (i : ℕ) (o : Offer) → i < length os → o ≡ get_or os i o →
    sum_by f (drop i (map bid os)) ≡ f (bid o) + sum_by f (drop (i + 1) (map bid os))
next_sum f os i o lt is = ap (sum_by f) (next_bid os i o lt is) ∙ sum_by-cons f (bid o) (drop (i + 1) (map bid os))

-- what holds of each bid holds of the next
pub bid_has : (P : Bid → Type 0) (os : List Offer) (i : ℕ) (o : Offer) → All P (map bid os) → i < length os → o ≡ get_or os i o → P (bid o)
bid_has P os i o all lt is =
    let within : i < length (map bid os) = omega (arith, length-map os bid) in
    subst P (bid_at os i o lt is) (all i (bid o) within)

-- the bids that are left after the next one are of later jobs
pub later_jobs : (os : List Offer) (i : ℕ) (o : Offer) → AllPairs (λ (b c : Bid). b.job < c.job) (map bid os) → i < length os → o ≡ get_or os i o →
    All (λ (c : Bid). o.job < c.job) (drop (i + 1) (map bid os))
later_jobs os i o ascending lt is k d at =
    let here : get_or (map bid os) i d ≡ bid o = get_or-map bid os i o d lt ∙ ap bid (sym is) in
    let there : get_or (drop (i + 1) (map bid os)) k d ≡ get_or (map bid os) (i + 1 + k) d = get_or-drop (i + 1) (map bid os) k d in
    let within : i + 1 + k < length (map bid os) = omega (arith, length-drop (i + 1) (map bid os)) in
    let order : (get_or (map bid os) i d).job < (get_or (map bid os) (i + 1 + k) d).job = ascending i (i + 1 + k) d (omega arith) within in
    omega (arith, order, ap (λ (b : Bid). b.job) here, ap (λ (b : Bid). b.job) there)

-- How the numbers of a cycle are counted.
use Rattle.std.proofs.Common.{◌≡◌, ℕ, ◌+◌, ◌<◌, ◌≤◌, Bool, true, false, List, [], ◌∷◌, length, drop, map, get_or, not, cond, refl, sym, ap, ◌∙◌, subst, arith}
use Rattle.std.specs.Int.{from_bool}
use Rattle.std.specs.Prelude.{count_by}
use Rattle.std.proofs.lemmas.List.Sums.{sum_by-cons}
use Rattle.tetri_base.specs.Lists.{has}
use Rattle.tetri_space.proofs.InstanceLaws.{next_bid}
use Rattle.tetri_space.specs.Space.{Bid, bid}
use Rattle.tetri_space.specs.declared.instance.Offer.{Offer}
use Rattle.tetri_chart.specs.Ends.{most_waiting}
use Rattle.tetri_chart.specs.Marks.{is_left}
use Rattle.tetri_chart.specs.declared.picture.CycleMark.{CycleMark}

-- lists of the same jobs leave the same jobs
pub left_alike : (xs ys : List ℕ) → ((job : ℕ) → has xs job ≡ has ys job) → (bs : List Bid) → count_by (is_left xs) bs ≡ count_by (is_left ys) bs
left_alike xs ys same [] = refl
left_alike xs ys same (b ∷ bs) =
    sum_by-cons (λ y. cond (is_left xs y) 1 0) b bs ∙ ap (λ h. cond (not h) 1 0 + count_by (is_left xs) bs) (same b.job)
    ∙ ap (λ n. cond (not (has ys b.job)) 1 0 + n) (left_alike xs ys same bs) ∙ sym (sum_by-cons (λ y. cond (is_left ys y) 1 0) b bs)

-- so many jobs stand at the top that it is at least one
pub some_waiting : (cs : List CycleMark) → 1 ≤ most_waiting cs
some_waiting [] = omega arith
some_waiting (c ∷ cs) = omega (arith, some_waiting cs)

from_test : (b : Bool) → from_bool b ≡ cond b 1 0
from_test true = refl
from_test false = refl

test_small : (b : Bool) → cond b 1 0 ≤ 1
test_small true = omega arith
test_small false = omega arith

-- a test adds one at most
pub added_small : (b : Bool) (added : ℕ) → added ≡ from_bool b → added ≤ 1
added_small b added is = subst (λ n. n ≤ 1) (sym (is ∙ from_test b)) (test_small b)

-- the bids from a place on are the one there and those behind it
pub counted_next : (launched : List ℕ) (os : List Offer) (i : ℕ) (o : Offer) (added : ℕ) → i < length os → o ≡ get_or os i o → added ≡ from_bool (is_left launched (bid o)) →
    count_by (is_left launched) (drop i (map bid os)) ≡ added + count_by (is_left launched) (drop (i + 1) (map bid os))
counted_next launched os i o added lt is adds =
    ap (λ bs. count_by (is_left launched) bs) (next_bid os i o lt is) ∙ sum_by-cons (λ y. cond (is_left launched y) 1 0) (bid o) (drop (i + 1) (map bid os))
    ∙ ap (λ n. n + count_by (is_left launched) (drop (i + 1) (map bid os))) (sym (adds ∙ from_test (is_left launched (bid o))))

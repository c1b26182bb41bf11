-- Lists in order hold what they held before.
use Rattle.std.proofs.Common.{◌≡◌, zero, suc, Bool, List, [], ◌∷◌, All, AllPairs, arith}
use Rattle.std.proofs.lemmas.Bool.{cond_both}
use Rattle.tetri_base.specs.Lists.{Each, EachPair}
use Rattle.tetri_base.specs.Order.{put, in_order}
use Rattle.tetri_base.proofs.ListLaws.{Each-get, EachPair-from}
use Rattle.tetri_strl.specs.declared.grants.Grant.{Grant}
use Rattle.tetri_space.specs.GrantOrder.{comes_first}
use Rattle.tetri_space.specs.Lawful.{AreApart, IsLawful, IsLawfulGrant}
use Rattle.tetri_space.specs.Space.{Space}

pub all_of : {X : Type 0} (P : X → Type 0) (xs : List X) → Each P xs → All P xs
all_of P xs h k d lt = Each-get P xs k d h lt

pub each_of : {X : Type 0} (P : X → Type 0) (xs : List X) → All P xs → Each P xs
each_of P [] h = tt
each_of P (x ∷ xs) h = (h 0 x (omega arith), each_of P xs (λ k d lt. h (suc k) d (omega (arith, lt))))

pub pairs_of : {X : Type 0} (R : X → X → Type 0) (xs : List X) → EachPair R xs → AllPairs R xs
pairs_of R [] h i j d lt short = absurd (omega arith)
pairs_of R (x ∷ xs) h zero zero d lt short = absurd (omega arith)
pairs_of R (x ∷ xs) h zero (suc j) d lt short = Each-get (R x) xs j d h.0 (omega arith)
pairs_of R (x ∷ xs) h (suc i) zero d lt short = absurd (omega arith)
pairs_of R (x ∷ xs) h (suc i) (suc j) d lt short = pairs_of R xs h.1 i j d (omega arith) (omega arith)

module _ {X : Type 0} (before : X → X → Bool) where
  put-each : (P : X → Type 0) (x : X) (ys : List X) → Each P (put before x ys) → P x × Each P ys
  put-each P x [] h = (h.0, tt)
  put-each P x (y ∷ ys) h =
      cond_both (before y x) (y ∷ put before x ys) (x ∷ y ∷ ys) (λ zs. Each P zs → P x × Each P (y ∷ ys))
      (λ e k. let rest = put-each P x ys k.1 in (rest.0, (k.0, rest.1))) (λ e k. k) h

  -- a fact of each item of a list in order is one of each item of the list
  pub in_order-each : (P : X → Type 0) (xs : List X) → Each P (in_order before xs) → Each P xs
  in_order-each P [] h = tt
  in_order-each P (x ∷ xs) h = let both = put-each P x (in_order before xs) h in (both.0, in_order-each P xs both.1)

  put-pairs : (R : X → X → Type 0) → ((a b : X) → R a b → R b a) → (x : X) (ys : List X) → EachPair R (put before x ys) → Each (R x) ys × EachPair R ys
  put-pairs R turned x [] h = (tt, tt)
  put-pairs R turned x (y ∷ ys) h =
      cond_both (before y x) (y ∷ put before x ys) (x ∷ y ∷ ys) (λ zs. EachPair R zs → Each (R x) (y ∷ ys) × EachPair R (y ∷ ys))
      (λ e k.
      let first = put-each (R y) x ys k.0 in
      let rest = put-pairs R turned x ys k.1 in
      ((turned y x first.0, rest.0), (first.1, rest.1))) (λ e k. k) h

  -- and a fact of each two, whichever comes first
  pub in_order-pairs : (R : X → X → Type 0) → ((a b : X) → R a b → R b a) → (xs : List X) → EachPair R (in_order before xs) → EachPair R xs
  in_order-pairs R turned [] h = tt
  in_order-pairs R turned (x ∷ xs) h =
      let both = put-pairs R turned x (in_order before xs) h in
      (in_order-each (R x) xs both.0, in_order-pairs R turned xs both.1)

apart_turned : (s : Space) (g h : Grant) → AreApart s g h → AreApart s h g
apart_turned s g h apart = record {
  other_leaf = λ job leaf. apart.other_leaf (turn job) (turn leaf);
  other_slots = λ n held also l found m other slot covers others. apart.other_slots n also held m other l found slot others covers;
}
  where
    turn : {X : Type 0} {x y : X} → x ≡ y → y ≡ x
    turn e = cc

-- grants that are lawful by job and leaf are lawful
pub lawful_out_of_order : (s : Space) (a : List Grant) → IsLawful s (in_order comes_first a) → IsLawful s a
lawful_out_of_order s a lawful = record {
  grants = all_of (IsLawfulGrant s) a (in_order-each comes_first (IsLawfulGrant s) a (each_of (IsLawfulGrant s) (in_order comes_first a) lawful.grants));
  apart = pairs_of (AreApart s) a (in_order-pairs comes_first (AreApart s) (apart_turned s) a (EachPair-from (AreApart s) (in_order comes_first a) lawful.apart));
}

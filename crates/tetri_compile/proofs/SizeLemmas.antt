-- The size of a program, counted part by part.
use Rattle.std.proofs.Common.{◌≡◌, ℕ, zero, suc, ◌+◌, ◌<◌, ◌≤◌, ◌==◌, ◌&&◌, ◌||◌, Bool, true, false, List, [], ◌∷◌, ◌++◌, length, get_or, map, take, drop, All, Contains, replicate, refl, sym, ap, ◌∙◌, subst, arith, true≢false, ⊎_elim}
use Rattle.std.specs.Prelude.{slice_index_or}
use Rattle.std.specs.Bool.{one_answer}
use Rattle.std.specs.List.{list_any, range_with_len}
use Rattle.std.proofs.lemmas.Bool.{and_parts, and_from, or_cases}
use Rattle.std.proofs.lemmas.List.{drop_all, length-map, get_or-map}
use Rattle.std.proofs.lemmas.List.Elements.{All-contains, Contains-append_left, Contains-append_right}
use Rattle.std.proofs.lemmas.List.Folds.{list_any-append}
use Rattle.tetri_strl.specs.declared.expr.Leaf.{Leaf}
use Rattle.tetri_strl.specs.Aligned.{EachLeaf}
use Rattle.tetri_strl.specs.Tree.{leaves, tree}
use Rattle.tetri_strl.proofs.ExprLaws.{EachLeaf-from}
use Rattle.tetri_space.specs.declared.instance.Offer.{Offer}
use Rattle.tetri_base.specs.Lists.{bit, count, has, sum_of}
use Rattle.tetri_space.specs.Space.{Bid, bid}
use Rattle.tetri_space.proofs.InstanceLaws.{next_bid, range_next, range_push}
use Rattle.tetri_base.proofs.ListLaws.{eq_from_test, test_from_eq, any_from, sum_of-append, sum_of-eq, Each-all, range_contains}
use Rattle.tetri_compile.specs.Sizes.{covers, leaves_in, is_used}

-- ---- the leaves of bids, one bid after another
pub leaves_next : (os : List Offer) (i : ℕ) (o : Offer) → i < length os → o ≡ get_or os i o →
    leaves_in (drop i (map bid os)) ≡ leaves (tree o.expr) ++ leaves_in (drop (i + 1) (map bid os))
leaves_next os i o lt is = ap leaves_in (next_bid os i o lt is)

or_next : (x y u v : Bool) → y ≡ (x || u) → (y || v) ≡ (x || (u || v))
or_next true y u v e = ap (λ z. z || v) e
or_next false y u v e = ap (λ z. z || v) e

pub any_leaf_next : (p : Leaf → Bool) (os : List Offer) (i : ℕ) (o : Offer) (b c : Bool) → i < length os → o ≡ get_or os i o → c ≡ (b || list_any p (leaves (tree o.expr))) →
    (c || list_any p (leaves_in (drop (i + 1) (map bid os)))) ≡ (b || list_any p (leaves_in (drop i (map bid os))))
any_leaf_next p os i o b c lt is step =
    or_next b c (list_any p (leaves (tree o.expr))) (list_any p (leaves_in (drop (i + 1) (map bid os)))) step
    ∙ ap (λ x. b || x) (sym (list_any-append p (leaves (tree o.expr)) (leaves_in (drop (i + 1) (map bid os)))) ∙ ap (list_any p) (sym (leaves_next os i o lt is)))

leaves_in_has : (bs : List Bid) (b : Bid) (l : Leaf) → Contains bs b → Contains (leaves b.expr) l → Contains (leaves_in bs) l
leaves_in_has [] b l at below = absurd (omega (arith, at.1))
leaves_in_has (c ∷ bs) b l (zero, lt, e) below = Contains-append_left (leaves c.expr) (leaves_in bs) l (subst (λ (d : Bid). Contains (leaves d.expr) l) (sym e) below)
leaves_in_has (c ∷ bs) b l (suc k, lt, e) below = Contains-append_right (leaves c.expr) (leaves_in bs) l (leaves_in_has bs b l (k, omega (arith, lt), e) below)

bid_among : (os : List Offer) (i : ℕ) (o : Offer) → i < length os → o ≡ get_or os i o → Contains (map bid os) (bid o)
bid_among os i o lt is = (i, omega (arith, length-map os bid), get_or-map bid os i o (bid o) lt ∙ ap bid (sym is))

-- what holds of the leaves of all offers holds of those of one
pub each_of_offer : (P : Leaf → Type 0) (os : List Offer) (i : ℕ) (o : Offer) → i < length os → o ≡ get_or os i o → All P (leaves_in (map bid os)) → EachLeaf P (tree o.expr)
each_of_offer P os i o lt is all =
    EachLeaf-from P (tree o.expr) (λ l below. All-contains P (leaves_in (map bid os)) l all (leaves_in_has (map bid os) (bid o) l (bid_among os i o lt is) below))

-- ---- one number further
pub any_range_next : (p : ℕ → Bool) (n : ℕ) → list_any p (range_with_len 0 (n + 1)) ≡ (list_any p (range_with_len 0 n) || p n)
any_range_next p n =
    let e : n + 1 ≡ suc n = omega arith in
    ap (λ k. list_any p (range_with_len 0 k)) e ∙ ap (list_any p) (range_next n) ∙ list_any-append p (range_with_len 0 n) (n ∷ [])
    ∙ ap (λ b. list_any p (range_with_len 0 n) || b) (or_false (p n))
  where
    or_false : (b : Bool) → (b || false) ≡ b
    or_false true = refl
    or_false false = refl

pub used_next : (p : ℕ → Bool) (n : ℕ) (first before after : Bool) → before ≡ (first || list_any p (range_with_len 0 n)) → after ≡ (before || p n) →
    after ≡ (first || list_any p (range_with_len 0 (n + 1)))
used_next p n first before after e f = f ∙ ap (λ b. b || p n) e ∙ assoc first (list_any p (range_with_len 0 n)) (p n) ∙ ap (λ b. first || b) (sym (any_range_next p n))
  where
    assoc : (a b c : Bool) → ((a || b) || c) ≡ (a || (b || c))
    assoc true b c = refl
    assoc false b c = refl

-- ---- the sets that leaves name in a slot
module _ (inside : ℕ → List ℕ) (ls : List Leaf) (t p most : ℕ) (small : All (λ (l : Leaf). l.set < most) ls) where
  from_any : {X : Type 0} (q : X → Bool) (xs : List X) (Q : Type 0) → ((x : X) → Contains xs x → q x ≡ true → Q) → list_any q xs ≡ true → Q
  from_any q [] Q f e = absurd (true≢false (sym e))
  from_any q (x ∷ xs) Q f e =
      ⊎_elim (λ h. f x (0, omega arith, refl) h) (λ h. from_any q xs Q (λ y at. f y (suc at.0, omega (arith, at.1), at.2)) h) (or_cases (q x) (list_any q xs) e)

  pub used_is : list_any (λ k. list_any (λ l. covers l t && l.set == k) ls && has (inside k) p) (range_with_len 0 most) ≡ is_used inside ls p t
  used_is =
      one_answer {P = is_used inside ls p t ≡ true} (list_any (λ k. list_any (λ l. covers l t && l.set == k) ls && has (inside k) p) (range_with_len 0 most)) (is_used inside ls p t) (
        (λ e. from_any (λ k. list_any (λ l. covers l t && l.set == k) ls && has (inside k) p) (range_with_len 0 most) (is_used inside ls p t ≡ true) (λ k at f.
            let both = and_parts (list_any (λ l. covers l t && l.set == k) ls) (has (inside k) p) f in
            from_any (λ l. covers l t && l.set == k) ls (is_used inside ls p t ≡ true) (λ l there g.
            let here = and_parts (covers l t) (l.set == k) g in
            any_from (λ m. covers m t && has (inside m.set) p) ls l there
            (and_from (covers l t) (has (inside l.set) p) here.0 (ap (λ j. has (inside j) p) (eq_from_test l.set k here.1) ∙ both.1))) both.0) e),
        (λ e. from_any (λ l. covers l t && has (inside l.set) p) ls _ (λ l there g.
            let here = and_parts (covers l t) (has (inside l.set) p) g in
            any_from (λ k. list_any (λ m. covers m t && m.set == k) ls && has (inside k) p) (range_with_len 0 most) l.set
            (range_contains 0 most l.set (omega arith) (omega (arith, All-contains (λ (m : Leaf). m.set < most) ls l small there)))
            (and_from (list_any (λ m. covers m t && m.set == l.set) ls) (has (inside l.set) p)
            (any_from (λ m. covers m t && m.set == l.set) ls l there (and_from (covers l t) (l.set == l.set) here.0 (test_from_eq l.set l.set refl))) here.1)) e),
      )
      ((λ e. e), (λ e. e))

-- a set that is named is some leaf's
pub named_leaf : (P : ℕ → Type 0) (ls : List Leaf) (t k : ℕ) → All (λ (l : Leaf). P l.set) ls → list_any (λ l. covers l t && l.set == k) ls ≡ true → P k
named_leaf P [] t k all e = absurd (true≢false (sym e))
named_leaf P (l ∷ ls) t k all e =
    ⊎_elim
    (λ h. subst P (eq_from_test l.set k (and_parts (covers l t) (l.set == k) h).1) (all 0 l (omega arith)))
    (λ h. named_leaf P ls t k (λ j d lt. all (suc j) d (omega arith)) h)
    (or_cases (covers l t && l.set == k) (list_any (λ m. covers m t && m.set == k) ls) e)

pub false_at : (n k : ℕ) → slice_index_or (replicate n false) k false ≡ false
false_at zero k = refl
false_at (suc n) zero = refl
false_at (suc n) (suc k) = false_at n k

-- the first marks of a list, by their numbers
pub count_front : (bs : List Bool) (n : ℕ) → n ≤ length bs → count (λ b. b) (take n bs) ≡ count (λ p. slice_index_or bs p false) (range_with_len 0 n)
count_front bs n le = from bs n 0 le (λ p. slice_index_or bs p false) (λ k. ap (λ j. slice_index_or bs j false) (omega arith))
  where
    from : (cs : List Bool) (m a : ℕ) → m ≤ length cs → (f : ℕ → Bool) → ((k : ℕ) → f (a + k) ≡ slice_index_or cs k false) → count (λ b. b) (take m cs) ≡ count f (range_with_len a m)
    from cs zero a le f e = refl
    from [] (suc m) a le f e = absurd (omega arith)
    from (c ∷ cs) (suc m) a le f e =
        let first : f a ≡ c = ap f (omega arith) ∙ e 0 in
        omega (arith, ap bit first, from cs m (a + 1) (omega arith) f (λ k. ap f (omega arith) ∙ e (suc k)))

pub count_same : (p q : ℕ → Bool) (xs : List ℕ) → ((n : ℕ) → p n ≡ q n) → count p xs ≡ count q xs
count_same p q xs h = sum_of-eq (λ n. bit (p n)) (λ n. bit (q n)) xs (Each-all (λ n. bit (p n) ≡ bit (q n)) (λ n. ap bit (h n)) xs)

pub count_most : (p : ℕ → Bool) (xs : List ℕ) → count p xs ≤ length xs
count_most p [] = omega arith
count_most p (x ∷ xs) = omega (arith, bit_le (p x), count_most p xs)
  where
    bit_le : (b : Bool) → bit b ≤ 1
    bit_le true = omega arith
    bit_le false = omega arith

pub sum_range_next : (f : ℕ → ℕ) (a n : ℕ) → sum_of f (range_with_len a (n + 1)) ≡ sum_of f (range_with_len a n) + f (a + n)
sum_range_next f a n =
    let e : n + 1 ≡ suc n = omega arith in
    ap (λ k. sum_of f (range_with_len a k)) e ∙ ap (sum_of f) (range_push a n)
    ∙ sum_of-append f (range_with_len a n) ((a + n) ∷ []) ∙ omega arith

pub marked_is : (first rest now : Bool) → now ≡ (first || rest) → first ≡ false → now ≡ rest
marked_is first rest now e f = e ∙ ap (λ b. b || rest) f

pub any_test : {X : Type 0} (p q : X → Bool) (xs : List X) → ((x : X) → p x ≡ q x) → list_any p xs ≡ list_any q xs
any_test p q [] h = refl
any_test p q (x ∷ xs) h = ap (λ b. b || list_any p xs) (h x) ∙ ap (λ b. q x || b) (any_test p q xs h)

-- a sum over bids, one bid further
pub sum_next : (f : Bid → ℕ) (os : List Offer) (i : ℕ) (o : Offer) → i < length os → o ≡ get_or os i o →
    sum_of f (drop i (map bid os)) ≡ f (bid o) + sum_of f (drop (i + 1) (map bid os))
sum_next f os i o lt is = ap (sum_of f) (next_bid os i o lt is)

pub sum_end : (f : Bid → ℕ) (os : List Offer) (i : ℕ) → length os ≤ i → sum_of f (drop i (map bid os)) ≡ 0
sum_end f os i le = ap (sum_of f) (drop_all i (map bid os) (omega (arith, length-map os bid, le)))

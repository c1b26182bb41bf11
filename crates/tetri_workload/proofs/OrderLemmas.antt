-- A list put in order of a number of each item, and lists in which what has one number stays in its order.
use Rattle.std.proofs.Common.{◌≡◌, ◌+◌, ◌<◌, ◌≤◌, ◌∙◌, ◌++◌, ℕ, zero, suc, List, Bool, true, false, [], ◌∷◌, length, map, get_or, cond, refl, ap, sym, subst, arith, nat_cmp, is_lt}
use Rattle.std.specs.Prelude.{All, filter, nat_le, if◌then◌else◌}
use Rattle.std.specs.List.Sorted.{IsPermutation, IsSortedByKey, ties}
use Rattle.std.proofs.lemmas.Bool.Decides.{nat_tests}
use Rattle.std.proofs.lemmas.List.Elements.{All-head, All-tail, All-weaker, filter-append}
use Rattle.std.proofs.lemmas.List.Sorted.{All-permutation, IsPermutation-append_left, IsPermutation-append_right, IsPermutation-cons, IsPermutation-map, IsPermutation-middle, IsPermutation-refl, IsPermutation-sym, IsPermutation-to_front, IsPermutation-trans}
use Rattle.tetri_workload.specs.Ordering.{IsMoveBy, IsOrderBy}

module _ {X : Type 0} (key : X → ℕ) where
  -- with one item more, before the first whose number is no lower
  abbrev pub insert : X → List X → List X
  insert x [] = x ∷ []
  insert x (y ∷ ys) = if nat_le (key x) (key y) then x ∷ y ∷ ys else y ∷ insert x ys

  -- a list in order
  abbrev pub ordered : List X → List X
  ordered [] = []
  ordered (x ∷ xs) = insert x (ordered xs)

  abbrev pub tied : X → X → Bool
  tied x y = ties (λ a b. is_lt (nat_cmp (key a) (key b))) x y

  -- ---- the same items
  moved-by : (b : Bool) (x y : X) (ys zs : List X) → IsPermutation (x ∷ ys) zs → IsPermutation (x ∷ y ∷ ys) (cond b (x ∷ y ∷ ys) (y ∷ zs))
  moved-by true x y ys zs moved = IsPermutation-refl (x ∷ y ∷ ys)
  moved-by false x y ys zs moved = IsPermutation-trans _ _ _ (IsPermutation-middle (x ∷ []) y ys) (IsPermutation-cons y (x ∷ ys) zs moved)

  moved-insert : (x : X) (ys : List X) → IsPermutation (x ∷ ys) (insert x ys)
  moved-insert x [] = IsPermutation-refl (x ∷ [])
  moved-insert x (y ∷ ys) = moved-by (nat_le (key x) (key y)) x y ys (insert x ys) (moved-insert x ys)

  pub moved-ordered : (xs : List X) → IsPermutation xs (ordered xs)
  moved-ordered [] = IsPermutation-refl []
  moved-ordered (x ∷ xs) = IsPermutation-trans _ _ _ (IsPermutation-cons x xs (ordered xs) (moved-ordered xs)) (moved-insert x (ordered xs))

  -- ---- in order
  abbrev pub NoLower : ℕ → List X → Type 0
  NoLower n [] = Unit {0}
  NoLower n (y ∷ ys) = (n ≤ key y) × NoLower n ys

  abbrev pub Rises : List X → Type 0
  Rises [] = Unit {0}
  Rises (y ∷ ys) = NoLower (key y) ys × Rises ys

  lower : (m n : ℕ) (ys : List X) → m ≤ n → NoLower n ys → NoLower m ys
  lower m n [] below all = tt
  lower m n (y ∷ ys) below all = (omega (arith, all.0), lower m n ys below all.1)

  no_lower-by : (b : Bool) (n : ℕ) (x y : X) (ys zs : List X) → n ≤ key x → n ≤ key y → NoLower n ys → NoLower n zs → NoLower n (cond b (x ∷ y ∷ ys) (y ∷ zs))
  no_lower-by true n x y ys zs here there all rest = (here, (there, all))
  no_lower-by false n x y ys zs here there all rest = (there, rest)

  no_lower-insert : (n : ℕ) (x : X) (ys : List X) → n ≤ key x → NoLower n ys → NoLower n (insert x ys)
  no_lower-insert n x [] here all = (here, tt)
  no_lower-insert n x (y ∷ ys) here all = no_lower-by (nat_le (key x) (key y)) n x y ys (insert x ys) here all.0 all.1 (no_lower-insert n x ys here all.1)

  rises-by : (b : Bool) (x y : X) (ys zs : List X) → nat_le (key x) (key y) ≡ b → NoLower (key y) ys → Rises ys → Rises zs → (key y ≤ key x → NoLower (key y) zs) → Rises (cond b (x ∷ y ∷ ys) (y ∷ zs))
  rises-by true x y ys zs test above up rest behind =
      let below : key x ≤ key y = grind (arith, nat_tests, test) in
      ((below, lower (key x) (key y) ys below above), (above, up))
  rises-by false x y ys zs test above up rest behind = (behind (grind (arith, nat_tests, test)), rest)

  rises-insert : (x : X) (ys : List X) → Rises ys → Rises (insert x ys)
  rises-insert x [] up = (tt, tt)
  rises-insert x (y ∷ ys) up =
      rises-by (nat_le (key x) (key y)) x y ys (insert x ys) refl up.0 up.1 (rises-insert x ys up.1) (λ below. no_lower-insert (key y) x ys below up.0)

  pub rises-ordered : (xs : List X) → Rises (ordered xs)
  rises-ordered [] = tt
  rises-ordered (x ∷ xs) = rises-insert x (ordered xs) (rises-ordered xs)

  not_less : (a b : ℕ) → b ≤ a → is_lt (nat_cmp a b) ≡ false
  not_less a b order = grind (arith, nat_tests)

  rises-at : (xs : List X) → Rises xs → (k : ℕ) (d : X) → k + 1 < length xs → key (get_or xs k d) ≤ key (get_or xs (k + 1) d)
  rises-at [] up k d within = absurd (omega arith)
  rises-at (x ∷ []) up k d within = absurd (omega arith)
  rises-at (x ∷ y ∷ xs) up zero d within = up.0.0
  rises-at (x ∷ y ∷ xs) up (suc k) d within =
      let at : suc k + 1 ≡ suc (k + 1) = omega arith in
      subst (λ n. key (get_or (y ∷ xs) k d) ≤ key (get_or (x ∷ y ∷ xs) n d)) (sym at) (rises-at (y ∷ xs) up.1 k d (omega arith))

  sorted-ordered : (xs : List X) → IsSortedByKey key nat_cmp (ordered xs)
  sorted-ordered xs k d low within = not_less (key (get_or (ordered xs) (k + 1) d)) (key (get_or (ordered xs) k d)) (rises-at (ordered xs) (rises-ordered xs) k d within)

  -- ---- what passes a test stays in its order, if an item that passes goes by no other one
  filter-by : (b c d : Bool) (x y : X) (ys zs : List X) → (b ≡ false → c ≡ true → d ≡ true → ⊥) → zs ≡ cond c (x ∷ ys) ys → cond b (cond c (x ∷ cond d (y ∷ ys) ys) (cond d (y ∷ ys) ys)) (cond d (y ∷ zs) zs) ≡ cond c (x ∷ cond d (y ∷ ys) ys) (cond d (y ∷ ys) ys)
  filter-by true c d x y ys zs apart rest = refl
  filter-by false true true x y ys zs apart rest = absurd (apart refl refl refl)
  filter-by false true false x y ys zs apart rest = rest
  filter-by false false true x y ys zs apart rest = ap (λ us. y ∷ us) rest
  filter-by false false false x y ys zs apart rest = rest

  filter-cond : (p : X → Bool) (b : Bool) (us vs : List X) → filter p (cond b us vs) ≡ cond b (filter p us) (filter p vs)
  filter-cond p true us vs = refl
  filter-cond p false us vs = refl

  abbrev Apart : (X → Bool) → X → X → Type 0
  Apart p x y = key y < key x → p x ≡ true → p y ≡ true → ⊥

  filter-insert : (p : X → Bool) (x : X) (ys : List X) → All (Apart p x) ys → filter p (insert x ys) ≡ filter p (x ∷ ys)
  filter-insert p x [] apart = refl
  filter-insert p x (y ∷ ys) apart =
      filter-cond p (nat_le (key x) (key y)) (x ∷ y ∷ ys) (y ∷ insert x ys)
      ∙ filter-by (nat_le (key x) (key y)) (p x) (p y) x y (filter p ys) (filter p (insert x ys)) (λ passed. All-head (Apart p x) y ys apart (grind (arith, nat_tests, passed))) (filter-insert p x ys (All-tail (Apart p x) y ys apart))

  -- each item that passes goes by no other one that does
  abbrev AllApart : (X → Bool) → List X → Type 0
  AllApart p [] = Unit {0}
  AllApart p (x ∷ xs) = All (Apart p x) xs × AllApart p xs

  filter-ordered : (p : X → Bool) (xs : List X) → AllApart p xs → filter p (ordered xs) ≡ filter p xs
  filter-ordered p [] apart = refl
  filter-ordered p (x ∷ xs) apart =
      filter-insert p x (ordered xs) (All-permutation (Apart p x) xs (ordered xs) (moved-ordered xs) apart.0)
      ∙ ap (λ ys. cond (p x) (x ∷ ys) ys) (filter-ordered p xs apart.1)

  smaller : (x y z : X) → Apart (tied z) x y
  smaller x y z less one other = grind (arith, nat_tests, less, one, other)

  ties-apart : (z : X) (xs : List X) → AllApart (tied z) xs
  ties-apart z [] = tt
  ties-apart z (x ∷ xs) = ((λ i d within. smaller x (get_or xs i d) z), ties-apart z xs)

  pub IsOrderBy-ordered : (xs : List X) → IsOrderBy key xs (ordered xs)
  IsOrderBy-ordered xs = record { moved = moved-ordered xs; sorted = sorted-ordered xs; stable = λ z. filter-ordered (tied z) xs (ties-apart z xs) }

  -- ---- a list whose first item has the lowest number
  first-by : (b : Bool) (x y : X) (ys zs : List X) → b ≡ true → cond b (x ∷ y ∷ ys) (y ∷ zs) ≡ x ∷ y ∷ ys
  first-by true x y ys zs is = refl
  first-by false x y ys zs is = cc

  insert-first : (x : X) (ys : List X) → All (λ y. key x ≤ key y) ys → insert x ys ≡ x ∷ ys
  insert-first x [] lowest = refl
  insert-first x (y ∷ ys) lowest = let low = All-head (λ z. key x ≤ key z) y ys lowest in first-by (nat_le (key x) (key y)) x y ys (insert x ys) (grind (arith, nat_tests, low))

  pub ordered-first : (x : X) (xs : List X) → All (λ y. key x ≤ key y) xs → ordered (x ∷ xs) ≡ x ∷ ordered xs
  ordered-first x xs lowest = insert-first x (ordered xs) (All-permutation (λ y. key x ≤ key y) xs (ordered xs) (moved-ordered xs) lowest)

pub filter-map : {X Y : Type 0} (p : Y → Bool) (f : X → Y) (xs : List X) → filter p (map f xs) ≡ map f (filter (λ x. p (f x)) xs)
filter-map p f [] = refl
filter-map p f (x ∷ xs) = map-by (p (f x)) (filter-map p f xs)
  where
    map-by : (b : Bool) → filter p (map f xs) ≡ map f (filter (λ x. p (f x)) xs) → cond b (f x ∷ filter p (map f xs)) (filter p (map f xs)) ≡ map f (cond b (x ∷ filter (λ x. p (f x)) xs) (filter (λ x. p (f x)) xs))
    map-by true rest = ap (λ ys. f x ∷ ys) rest
    map-by false rest = rest

-- ---- images that each have a number of their own, of a list and of the same list in order of another number
module _ {X Y : Type 0} (key : X → ℕ) (f : X → Y) (number : Y → ℕ) where
  -- what goes by an item has an image with another number
  abbrev pub Differs : X → X → Type 0
  Differs x y = key y < key x → number (f x) ≡ number (f y) → ⊥

  abbrev pub AllDiffer : List X → Type 0
  AllDiffer [] = Unit {0}
  AllDiffer (x ∷ xs) = All (Differs x) xs × AllDiffer xs

  other : (z : Y) (x y : X) → Differs x y → Apart key (λ a. tied number z (f a)) x y
  other z x y differ less one two = differ less (grind (arith, nat_tests, one, two))

  images-apart : (z : Y) (xs : List X) → AllDiffer xs → AllApart key (λ a. tied number z (f a)) xs
  images-apart z [] differ = tt
  images-apart z (x ∷ xs) differ = (All-weaker (Differs x) (Apart key (λ a. tied number z (f a)) x) (λ y apart. other z x y apart) xs differ.0, images-apart z xs differ.1)

  pub IsMoveBy-images : (xs : List X) → AllDiffer xs → IsMoveBy number (map f (ordered key xs)) (map f xs)
  IsMoveBy-images xs differ = record {
    moved = IsPermutation-map f (ordered key xs) xs (IsPermutation-sym xs (ordered key xs) (moved-ordered key xs));
    stable = λ z.
        let p : X → Bool = λ a. tied number z (f a) in
        filter-map (tied number z) f xs ∙ sym (ap (map f) (filter-ordered key p xs (images-apart z xs differ))) ∙ sym (filter-map (tied number z) f (ordered key xs));
  }

module _ {X : Type 0} (key : X → ℕ) where
  pub IsMoveBy-refl : (xs : List X) → IsMoveBy key xs xs
  IsMoveBy-refl xs = record { moved = IsPermutation-refl xs; stable = λ z. refl }

  -- with the same items before them
  pub IsMoveBy-append : (before xs ys : List X) → IsMoveBy key xs ys → IsMoveBy key (before ++ xs) (before ++ ys)
  IsMoveBy-append before xs ys same = record {
    moved = IsPermutation-append_right before xs ys same.moved;
    stable = λ z. filter-append (tied key z) before ys ∙ ap (λ us. filter (tied key z) before ++ us) (same.stable z) ∙ sym (filter-append (tied key z) before xs);
  }

  -- with the same items behind them
  pub IsMoveBy-before : (behind xs ys : List X) → IsMoveBy key xs ys → IsMoveBy key (xs ++ behind) (ys ++ behind)
  IsMoveBy-before behind xs ys same = record {
    moved = IsPermutation-append_left behind xs ys same.moved;
    stable = λ z. filter-append (tied key z) ys behind ∙ ap (λ us. us ++ filter (tied key z) behind) (same.stable z) ∙ sym (filter-append (tied key z) xs behind);
  }

  -- back to the order before
  pub IsMoveBy-sym : (xs ys : List X) → IsMoveBy key xs ys → IsMoveBy key ys xs
  IsMoveBy-sym xs ys same = record { moved = IsPermutation-sym xs ys same.moved; stable = λ z. sym (same.stable z) }

  -- two moves, one after the other
  pub IsMoveBy-trans : (xs ys zs : List X) → IsMoveBy key xs ys → IsMoveBy key ys zs → IsMoveBy key xs zs
  IsMoveBy-trans xs ys zs one two = record { moved = IsPermutation-trans xs ys zs one.moved two.moved; stable = λ z. two.stable z ∙ one.stable z }

  -- what passes a test, where an item goes behind others that do not pass where it does
  filter-past : (p : X → Bool) (x : X) (ys : List X) → All (λ y. p x ≡ true → p y ≡ true → ⊥) ys → filter p (ys ++ x ∷ []) ≡ filter p (x ∷ ys)
  filter-past p x [] apart = refl
  filter-past p x (y ∷ ys) apart =
      filter-by key false (p x) (p y) x y (filter p ys) (filter p (ys ++ x ∷ [])) (λ same. All-head (λ z. p x ≡ true → p z ≡ true → ⊥) y ys apart)
      (filter-past p x ys (All-tail (λ z. p x ≡ true → p z ≡ true → ⊥) y ys apart))

  -- of two items with different numbers at most one has a third item's number
  both_tied : (z x y : X) → (key x ≡ key y → ⊥) → tied key z x ≡ true → tied key z y ≡ true → ⊥
  both_tied z x y differ one two = differ (grind (arith, nat_tests, one, two))

  -- an item goes behind others that have other numbers
  pub IsMoveBy-past : (x : X) (ys : List X) → All (λ y. key x ≡ key y → ⊥) ys → IsMoveBy key (x ∷ ys) (ys ++ x ∷ [])
  IsMoveBy-past x ys differ = record {
    moved = IsPermutation-sym (ys ++ x ∷ []) (x ∷ ys) (IsPermutation-to_front ys x);
    stable = λ z. filter-past (tied key z) x ys (All-weaker (λ y. key x ≡ key y → ⊥) (λ y. tied key z x ≡ true → tied key z y ≡ true → ⊥) (λ y apart. both_tied z x y apart) ys differ);
  }

  -- both have one order
  pub IsOrderBy-moved : (xs ys zs : List X) → IsMoveBy key xs ys → IsOrderBy key ys zs → IsOrderBy key xs zs
  IsOrderBy-moved xs ys zs same order = record {
    moved = IsPermutation-trans xs ys zs same.moved order.moved;
    sorted = order.sorted;
    stable = λ z. order.stable z ∙ same.stable z;
  }

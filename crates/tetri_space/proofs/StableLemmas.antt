-- A stable sort gives the list in order.
use Rattle.std.proofs.Common.{◌≡◌, not, Bool, true, false, cond, List, [], ◌∷◌, refl, sym, ap, ◌∙◌, true≢false}
use Rattle.std.specs.List.{filter}
use Rattle.std.specs.List.Sorted.{ties}
use Rattle.std.proofs.lemmas.Bool.{and_from, and_parts, cond_both}
use Rattle.tetri_base.specs.Lists.{Each, EachPair}
use Rattle.tetri_base.specs.Order.{in_order, put}
use Rattle.tetri_base.proofs.OrderLaws.{IsOrder, NotAfter}

module _ {X : Type 0} (before : X → X → Bool) (order : IsOrder before) where
  flip : (b : Bool) → not b ≡ true → b ≡ false
  flip true e = sym e
  flip false e = refl

  -- neither comes before the other
  record IsTied (a b : X) : Type 0 where
    first : NotAfter before a b
    second : NotAfter before b a

  tied_from : (a b : X) → ties before a b ≡ true → IsTied a b
  tied_from a b e = let both = and_parts (not (before a b)) (not (before b a)) e in record { first = flip (before b a) both.1; second = flip (before a b) both.0 }

  ties_from : (a b : X) → IsTied a b → ties before a b ≡ true
  ties_from a b h = and_from (not (before a b)) (not (before b a)) (ap not h.second) (ap not h.first)

  not_self : (a : X) → before a a ≡ false
  not_self a = by_test (before a a) (order.asymmetric a a)
    where
      by_test : (t : Bool) → (t ≡ true → t ≡ false) → t ≡ false
      by_test true h = h refl
      by_test false h = refl

  -- putting an item in its place keeps the order of those that tie
  filter-put : (a x : X) (ys : List X) → filter (ties before a) (put before x ys) ≡ filter (ties before a) (x ∷ ys)
  filter-put a x [] = refl
  filter-put a x (y ∷ ys) =
      cond_both (before y x) (y ∷ put before x ys) (x ∷ y ∷ ys) (λ zs. filter (ties before a) zs ≡ filter (ties before a) (x ∷ y ∷ ys))
      (λ e. ap (λ zs. cond (ties before a y) (y ∷ zs) zs) (filter-put a x ys)
      ∙ swapped (ties before a x) (ties before a y) (filter (ties before a) ys)
      (λ p q. true≢false (sym e ∙ order.transitive x a y (tied_from a x p).second (tied_from a y q).first)))
      (λ e. refl)
    where
      swapped : (p q : Bool) (zs : List X) → (p ≡ true → q ≡ true → ⊥) →
          cond q (y ∷ cond p (x ∷ zs) zs) (cond p (x ∷ zs) zs) ≡ cond p (x ∷ cond q (y ∷ zs) zs) (cond q (y ∷ zs) zs)
      swapped true true zs never = absurd (never refl refl)
      swapped true false zs never = refl
      swapped false q zs never = refl

  pub filter-in_order : (a : X) (xs : List X) → filter (ties before a) (in_order before xs) ≡ filter (ties before a) xs
  filter-in_order a [] = refl
  filter-in_order a (x ∷ xs) = filter-put a x (in_order before xs) ∙ ap (λ zs. cond (ties before a x) (x ∷ zs) zs) (filter-in_order a xs)

  -- an item that passes, with a fact of each
  some_passing : (P : X → Type 0) (p : X → Bool) (ys : List X) → Each P ys → (z : X) (zs : List X) → filter p ys ≡ z ∷ zs → (w : X) × P w × (p w ≡ true)
  some_passing P p [] h z zs e = absurd cc
  some_passing P p (y ∷ ys) h z zs e = by_test (p y) refl (some_passing P p ys h.1 z zs) e
    where
      by_test : (b : Bool) → p y ≡ b → (filter p ys ≡ z ∷ zs → (w : X) × P w × (p w ≡ true)) → cond b (y ∷ filter p ys) (filter p ys) ≡ z ∷ zs → (w : X) × P w × (p w ≡ true)
      by_test true passes rest f = (y, h.0, passes)
      by_test false fails rest f = rest f

  -- the head of an ordered list does not come after one that some item of it ties with
  head_first : (x y : X) (ys zs : List X) → EachPair (NotAfter before) (y ∷ ys) → filter (ties before x) (y ∷ ys) ≡ x ∷ zs → NotAfter before y x
  head_first x y ys zs rises e =
      let w = some_passing (NotAfter before y) (ties before x) (y ∷ ys) (not_self y, rises.0) x zs e in
      order.transitive y w.0 x w.1 (tied_from x w.0 w.2).second

  -- two ordered lists in which those that tie stand alike are the same
  pub same_stably : (xs ys : List X) → EachPair (NotAfter before) xs → EachPair (NotAfter before) ys → ((a : X) → filter (ties before a) xs ≡ filter (ties before a) ys) → xs ≡ ys
  same_stably [] [] p q same = refl
  same_stably [] (y ∷ ys) p q same =
      let kept : filter (ties before y) (y ∷ ys) ≡ y ∷ filter (ties before y) ys = ap (λ b. cond b (y ∷ filter (ties before y) ys) (filter (ties before y) ys)) (ties_from y y (record { first = not_self y; second = not_self y })) in
      let none : [] ≡ y ∷ filter (ties before y) ys = same y ∙ kept in
      absurd cc
  same_stably (x ∷ xs) [] p q same =
      let kept : filter (ties before x) (x ∷ xs) ≡ x ∷ filter (ties before x) xs = ap (λ b. cond b (x ∷ filter (ties before x) xs) (filter (ties before x) xs)) (ties_from x x (record { first = not_self x; second = not_self x })) in
      let none : x ∷ filter (ties before x) xs ≡ [] = sym kept ∙ same x in
      absurd cc
  same_stably (x ∷ xs) (y ∷ ys) p q same =
      let own : filter (ties before x) (x ∷ xs) ≡ x ∷ filter (ties before x) xs = ap (λ b. cond b (x ∷ filter (ties before x) xs) (filter (ties before x) xs)) (ties_from x x (record { first = not_self x; second = not_self x })) in
      let others : filter (ties before y) (y ∷ ys) ≡ y ∷ filter (ties before y) ys = ap (λ b. cond b (y ∷ filter (ties before y) ys) (filter (ties before y) ys)) (ties_from y y (record { first = not_self y; second = not_self y })) in
      let low : NotAfter before y x = head_first x y ys (filter (ties before x) xs) q (sym (same x) ∙ own) in
      let high : NotAfter before x y = head_first y x xs (filter (ties before y) ys) p (same y ∙ others) in
      let tied : ties before x y ≡ true = ties_from x y (record { first = high; second = low }) in
      let heads : x ∷ filter (ties before x) xs ≡ y ∷ filter (ties before x) ys =
      sym own ∙ same x ∙ ap (λ b. cond b (y ∷ filter (ties before x) ys) (filter (ties before x) ys)) tied in
      let first : x ≡ y = cc in
      let rest : xs ≡ ys = same_stably xs ys p.1 q.1 (λ a. later (ties before a x) (ties before a y) (ap (ties before a) first) (filter (ties before a) xs) (filter (ties before a) ys) (same a)) in
      cc
    where
      later : (b c : Bool) → b ≡ c → (ps qs : List X) → cond b (x ∷ ps) ps ≡ cond c (y ∷ qs) qs → ps ≡ qs
      later true true e ps qs f = cc
      later false false e ps qs f = f
      later true false e ps qs f = absurd (true≢false e)
      later false true e ps qs f = absurd (true≢false (sym e))

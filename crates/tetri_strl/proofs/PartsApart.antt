-- Leaves of different numbers, part by part.
use Rattle.std.proofs.Common.{◌≡◌, ◌≢◌, ℕ, ◌+◌, ◌<◌, List, [], ◌∷◌, ◌++◌, length, get_or, AllPairs, Contains, refl, sym, ap, ◌∙◌, subst, ⊎_elim, arith}
use Rattle.std.proofs.lemmas.List.{get_or_append_left, get_or-append-add, get_or_default, length-append}
use Rattle.std.proofs.lemmas.List.Elements.{Contains-append_left, Contains-append_right, Contains-append_cases}
use Rattle.tetri_strl.specs.declared.expr.Leaf.{Leaf}
use Rattle.tetri_strl.specs.Tree.{Tree, one, join, scale, barrier, Trees, none, more, leaves, leaves_of, numbers, numbers_of}

abbrev mutual
  -- no two leaves have one number, part by part
  pub AreApart : Tree → Type 0
  AreApart (one l) = Unit {0}
  AreApart (join op ts) = AreApartOf ts
  AreApart (scale t s) = AreApart t
  AreApart (barrier t v) = AreApart t

  pub AreApartOf : Trees → Type 0
  AreApartOf none = Unit {0}
  AreApartOf (more t ts) = AreApart t × AreApartOf ts × ((n : ℕ) → Contains (numbers t) n → Contains (numbers_of ts) n → ⊥)

-- the only element of a list of one
pub the_one : {X : Type 0} (x y : X) → Contains (x ∷ []) y → x ≡ y
the_one x y at = let first : at.0 ≡ 0 = omega (arith, at.1) in sym (ap (λ k. get_or (x ∷ []) k y) first) ∙ at.2

module _ {X : Type 0} (R : X → X → Type 0) (xs ys : List X) (h : AllPairs R (xs ++ ys)) where
  long : length (xs ++ ys) ≡ length xs + length ys
  long = length-append xs ys

  pub left_pairs : AllPairs R xs
  left_pairs i j d lt within =
      let p : i < length xs = omega arith in
      let q : j < length (xs ++ ys) = omega (arith, long) in
      subst (λ x. R x (get_or xs j d)) (get_or_append_left xs ys d i p)
      (subst (λ y. R (get_or (xs ++ ys) i d) y) (get_or_append_left xs ys d j within) (h i j d lt q))

  pub right_pairs : AllPairs R ys
  right_pairs i j d lt within =
      let p : length xs + i < length xs + j = omega arith in
      let q : length xs + j < length (xs ++ ys) = omega (arith, long) in
      subst (λ x. R x (get_or ys j d)) (get_or-append-add xs ys i d)
      (subst (λ y. R (get_or (xs ++ ys) (length xs + i) d) y) (get_or-append-add xs ys j d) (h (length xs + i) (length xs + j) d p q))

  pub across_pairs : (x y : X) → Contains xs x → Contains ys y → R x y
  across_pairs x y at bt =
      let p : at.0 < length xs + bt.0 = omega (arith, at.1) in
      let q : length xs + bt.0 < length (xs ++ ys) = omega (arith, long, bt.1) in
      let other : get_or (xs ++ ys) at.0 y ≡ x = get_or_append_left xs ys y at.0 at.1 ∙ same_default at.1 ∙ at.2 in
      subst (λ u. R u y) other
      (subst (λ v. R (get_or (xs ++ ys) at.0 y) v) (get_or-append-add xs ys bt.0 y ∙ bt.2) (h at.0 (length xs + bt.0) y p q))
    where
      same_default : at.0 < length xs → get_or xs at.0 y ≡ get_or xs at.0 x
      same_default lt = get_or_default xs at.0 y x lt

mutual
  -- each number is a leaf's
  leaf_of : (t : Tree) (n : ℕ) → Contains (numbers t) n → (l : Leaf) × Contains (leaves t) l × (l.num ≡ n)
  leaf_of (one l) n at = (l, (0, omega arith, refl), the_one l.num n at)
  leaf_of (join op ts) n at = leaf_of_some ts n at
  leaf_of (scale t s) n at = leaf_of t n at
  leaf_of (barrier t v) n at = leaf_of t n at

  leaf_of_some : (ts : Trees) (n : ℕ) → Contains (numbers_of ts) n → (l : Leaf) × Contains (leaves_of ts) l × (l.num ≡ n)
  leaf_of_some none n at = absurd (omega (arith, at.1))
  leaf_of_some (more t ts) n at =
      ⊎_elim
      (λ h. let w = leaf_of t n h in (w.0, Contains-append_left (leaves t) (leaves_of ts) w.0 w.1, w.2))
      (λ h. let w = leaf_of_some ts n h in (w.0, Contains-append_right (leaves t) (leaves_of ts) w.0 w.1, w.2))
      (Contains-append_cases (numbers t) (numbers_of ts) n at)

-- two leaves have two numbers
abbrev pub Differ : Leaf → Leaf → Type 0
Differ l m = l.num ≢ m.num

mutual
  pub apart_of_pairs : (t : Tree) → AllPairs Differ (leaves t) → AreApart t
  apart_of_pairs (one l) h = tt
  apart_of_pairs (join op ts) h = are_apart_of_pairs ts h
  apart_of_pairs (scale t s) h = apart_of_pairs t h
  apart_of_pairs (barrier t v) h = apart_of_pairs t h

  are_apart_of_pairs : (ts : Trees) → AllPairs Differ (leaves_of ts) → AreApartOf ts
  are_apart_of_pairs none h = tt
  are_apart_of_pairs (more t ts) h = (
    apart_of_pairs t (left_pairs Differ (leaves t) (leaves_of ts) h),
    are_apart_of_pairs ts (right_pairs Differ (leaves t) (leaves_of ts) h),
    λ n at bt.
        let l = leaf_of t n at in
        let m = leaf_of_some ts n bt in
        across_pairs Differ (leaves t) (leaves_of ts) h l.0 m.0 l.1 m.1 (l.2 ∙ sym m.2),
  )

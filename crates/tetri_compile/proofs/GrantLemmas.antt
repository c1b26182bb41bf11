-- How many nodes of each partition the grants give.
use Rattle.std.proofs.Common.{◌≡◌, ℕ, ◌+◌, ◌≤◌, ◌&&◌, ◌||◌, Bool, true, false, cond, List, [], ◌∷◌, length, refl, sym, ap, ◌∙◌, subst, arith, true≢false, ⊎_elim, le_trans}
use Rattle.std.specs.List.{list_any}
use Rattle.std.proofs.lemmas.Bool.{and_parts, or_cases}
use Rattle.tetri_strl.specs.declared.grants.Grant.{Grant}
use Rattle.tetri_strl.specs.Worth.{granted}
use Rattle.tetri_compile.specs.Allotted.{suits, granted_in}
use Rattle.tetri_base.specs.Lists.{sum_of, bit, count, has, Each, EachPair, Ascends}
use Rattle.tetri_base.proofs.ListLaws.{common-le, sum_of-swap, sum_of-eq, sum_of-le, sum_of-plus, sum_of-zero, sum_of-one, Each-map, Each-all}

-- ---- over partitions that cover
module _ (job leaf : ℕ) (part : ℕ → List ℕ) (ps : List ℕ) where
  -- each node of such a grant is in one of the partitions
  abbrev pub IsSpread : Grant → Type 0
  IsSpread g = suits job leaf g ≡ true → Each (λ m. count (λ p. has (part p) m) ps ≡ 1) g.nodes

  spread_one : (ns : List ℕ) → Each (λ m. count (λ p. has (part p) m) ps ≡ 1) ns → sum_of (λ p. count (has (part p)) ns) ps ≡ length ns
  spread_one ns h =
      sum_of-swap (λ p m. bit (has (part p) m)) ps ns
      ∙ sum_of-eq (λ m. count (λ p. has (part p) m) ps) (λ m. 1) ns h
      ∙ sum_of-one ns

  pub spread : (a : List Grant) → Each IsSpread a → sum_of (λ p. granted_in a job leaf (part p)) ps ≡ granted a job leaf
  spread [] h = sum_of-zero ps
  spread (g ∷ gs) h =
      sum_of-plus (λ p. cond (suits job leaf g) (count (has (part p)) g.nodes) 0) (λ p. granted_in gs job leaf (part p)) ps
      ∙ ap (λ n. n + sum_of (λ p. granted_in gs job leaf (part p)) ps) (by_test (suits job leaf g) h.0)
      ∙ ap (λ n. cond (suits job leaf g) (length g.nodes) 0 + n) (spread gs h.1)
    where
      by_test : (b : Bool) → (b ≡ true → Each (λ m. count (λ p. has (part p) m) ps ≡ 1) g.nodes) →
          sum_of (λ p. cond b (count (has (part p)) g.nodes) 0) ps ≡ cond b (length g.nodes) 0
      by_test true f = spread_one g.nodes (f refl)
      by_test false f = sum_of-zero ps

-- ---- at most one of a list passes
later_none : {X : Type 0} (p : X → Bool) (v : ℕ) (x : X) (xs : List X) → Each (λ y. p x ≡ true → p y ≡ true → ⊥) xs → p x ≡ true →
    sum_of (λ y. cond (p y) v 0) xs ≡ 0
later_none p v x [] h e = refl
later_none p v x (y ∷ ys) h e = by_test (p y) (h.0 e) (later_none p v x ys h.1 e)
  where
    by_test : (b : Bool) → (b ≡ true → ⊥) → sum_of (λ z. cond (p z) v 0) ys ≡ 0 → cond b v 0 + sum_of (λ z. cond (p z) v 0) ys ≡ 0
    by_test true never rest = absurd (never refl)
    by_test false never rest = omega arith

pub at_most_one : {X : Type 0} (p : X → Bool) (v : ℕ) (xs : List X) → EachPair (λ x y. p x ≡ true → p y ≡ true → ⊥) xs →
    sum_of (λ x. cond (p x) v 0) xs ≤ cond (list_any p xs) v 0
at_most_one p v [] h = omega arith
at_most_one p v (x ∷ xs) h = by_test (p x) (later_none p v x xs h.0) (at_most_one p v xs h.1)
  where
    by_test : (b : Bool) → (b ≡ true → sum_of (λ z. cond (p z) v 0) xs ≡ 0) → sum_of (λ z. cond (p z) v 0) xs ≤ cond (list_any p xs) v 0 →
        cond b v 0 + sum_of (λ z. cond (p z) v 0) xs ≤ cond (b || list_any p xs) v 0
    by_test true none rest = omega (arith, none refl)
    by_test false none rest = omega arith

pub any_which : {X : Type 0} (p : X → Bool) (P : X → Type 0) (Q : Type 0) (xs : List X) → Each P xs → ((x : X) → P x → p x ≡ true → Q) →
    list_any p xs ≡ true → Q
any_which p P Q [] h f e = absurd (true≢false (sym e))
any_which p P Q (x ∷ xs) h f e = ⊎_elim (λ t. f x h.0 t) (λ t. any_which p P Q xs h.1 f t) (or_cases (p x) (list_any p xs) e)

-- ---- nodes of one list, over grants that hold them at one slot
-- `on` are the grants that hold their nodes at the slot, and `free` the nodes that may be used there
module _ (on : Grant → Bool) (free : ℕ → Bool) where
  abbrev pub IsOnRight : Grant → Type 0
  IsOnRight g = on g ≡ true → Ascends g.nodes × ((n : ℕ) → has g.nodes n ≡ true → free n ≡ true)

  abbrev pub ShareNone : Grant → Grant → Type 0
  ShareNone g h = on g ≡ true → on h ≡ true → (n : ℕ) → has g.nodes n ≡ true → has h.nodes n ≡ true → ⊥

  EachPair-at : (n : ℕ) (a : List Grant) → EachPair ShareNone a →
      EachPair (λ g h. (on g && has g.nodes n) ≡ true → (on h && has h.nodes n) ≡ true → ⊥) a
  EachPair-at n [] h = tt
  EachPair-at n (g ∷ gs) h = (
    Each-map (ShareNone g) (λ k. (on g && has g.nodes n) ≡ true → (on k && has k.nodes n) ≡ true → ⊥)
        (λ k apart p q. let b = and_parts (on g) (has g.nodes n) p in let c = and_parts (on k) (has k.nodes n) q in apart b.0 c.0 n b.1 c.1) gs h.0,
    EachPair-at n gs h.1,
  )

  cond_and : (b c : Bool) → cond b (bit c) 0 ≡ cond (b && c) 1 0
  cond_and true true = refl
  cond_and true false = refl
  cond_and false c = refl

  one_holder : (n : ℕ) (a : List Grant) → Each IsOnRight a → EachPair ShareNone a → sum_of (λ g. cond (on g) (bit (has g.nodes n)) 0) a ≤ bit (free n)
  one_holder n a right apart =
      subst (λ k. k ≤ bit (free n))
      (sym (sum_of-eq (λ g. cond (on g) (bit (has g.nodes n)) 0) (λ g. cond (on g && has g.nodes n) 1 0) a (Each-all _ (λ g. cond_and (on g) (has g.nodes n)) a)))
      (le_trans (at_most_one (λ g. on g && has g.nodes n) 1 a (EachPair-at n a apart))
      (by_test (list_any (λ g. on g && has g.nodes n) a)
      (any_which (λ g. on g && has g.nodes n) IsOnRight (free n ≡ true) a right (λ g r t. let b = and_parts (on g) (has g.nodes n) t in (r b.0).1 n b.1))))
    where
      by_test : (b : Bool) → (b ≡ true → free n ≡ true) → cond b 1 0 ≤ bit (free n)
      by_test true f = omega (arith, ap bit (f refl))
      by_test false f = omega arith

  pub held_le_free : (part : List ℕ) (a : List Grant) → Each IsOnRight a → EachPair ShareNone a →
      sum_of (λ g. cond (on g) (count (has part) g.nodes) 0) a ≤ count free part
  held_le_free part a right apart =
      le_trans
      (sum_of-le (λ g. cond (on g) (count (has part) g.nodes) 0) (λ g. sum_of (λ n. cond (on g) (bit (has g.nodes n)) 0) part) a
      (Each-map IsOnRight (λ g. cond (on g) (count (has part) g.nodes) 0 ≤ sum_of (λ n. cond (on g) (bit (has g.nodes n)) 0) part) (λ g r. turned g (on g) (λ e. (r e).0)) a right))
      (subst (λ k. k ≤ count free part) (sym (sum_of-swap (λ g n. cond (on g) (bit (has g.nodes n)) 0) a part))
      (sum_of-le (λ n. sum_of (λ g. cond (on g) (bit (has g.nodes n)) 0) a) (λ n. bit (free n)) part (Each-all _ (λ n. one_holder n a right apart) part)))
    where
      turned : (g : Grant) (b : Bool) → (b ≡ true → Ascends g.nodes) → cond b (count (has part) g.nodes) 0 ≤ sum_of (λ n. cond b (bit (has g.nodes n)) 0) part
      turned g true up = common-le g.nodes part (up refl)
      turned g false up = omega arith

-- ---- over leaves, of which no two are the same one
module _ {X : Type 0} (job leaf : X → ℕ) where
  abbrev pub IsOther : X → X → Type 0
  IsOther c d = job c ≡ job d → leaf c ≡ leaf d → ⊥

  abbrev pub suits_some : List X → Grant → Bool
  suits_some cs g = list_any (λ c. suits (job c) (leaf c) g) cs

  pub shares_le : (part : List ℕ) (cs : List X) (a : List Grant) → ((g : Grant) → EachPair (λ c d. suits (job c) (leaf c) g ≡ true → suits (job d) (leaf d) g ≡ true → ⊥) cs) →
      sum_of (λ c. granted_in a (job c) (leaf c) part) cs ≤ sum_of (λ g. cond (suits_some cs g) (count (has part) g.nodes) 0) a
  shares_le part cs a other =
      subst (λ k. k ≤ sum_of (λ g. cond (suits_some cs g) (count (has part) g.nodes) 0) a)
      (sym (sum_of-swap (λ c g. cond (suits (job c) (leaf c) g) (count (has part) g.nodes) 0) cs a))
      (sum_of-le (λ g. sum_of (λ c. cond (suits (job c) (leaf c) g) (count (has part) g.nodes) 0) cs) (λ g. cond (suits_some cs g) (count (has part) g.nodes) 0) a
      (Each-all _ (λ g. at_most_one (λ c. suits (job c) (leaf c) g) (count (has part) g.nodes) cs (other g)) a))

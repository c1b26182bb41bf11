-- An allotment is thrifty exactly where no idle leaf has a grant.
use Rattle.std.proofs.Common.{◌≡◌, ℕ, Bool, true, false, cond, ◌==◌, List, [], ◌∷◌, ◌++◌, Contains, ⊎_elim, refl, sym, ◌∙◌, inl, inr, arith}
use Rattle.std.proofs.lemmas.List.Elements.{Contains-append_left, Contains-append_right, Contains-append_cases}
use Rattle.tetri_strl.specs.declared.expr.Leaf.{Leaf}
use Rattle.tetri_strl.specs.Thrifty.{IsBare, AtMostOne, MeetsOne, IsThrifty, AreThrifty}
use Rattle.tetri_strl.specs.Tree.{Operator, greatest, least, added, Tree, one, join, scale, barrier, Trees, none, more, numbers, numbers_of}
use Rattle.tetri_strl.specs.Trim.{idle, idle_each, idle_but_first}
use Rattle.tetri_strl.specs.Worth.{worth_by, worths_by, greatest_of, least_of, added_of}
use Rattle.tetri_strl.proofs.GrantLemmas.{greatest_of-zero}
use Rattle.tetri_strl.proofs.TrimLemmas.{all_struck, all_struck_of, ne_from_test, eq_from_test, nothing_in_nil, zero_from_test}
use Rattle.tetri_strl.specs.WellMade.{IsGoodLeaf, IsSound, AreSound}

module _ (value : Leaf → ℕ) (held : List ℕ) where
  pub left_bare : (xs ys : List ℕ) → IsBare value held (xs ++ ys) → IsBare value held xs
  left_bare xs ys h n at = h n (Contains-append_left xs ys n at)

  pub right_bare : (xs ys : List ℕ) → IsBare value held (xs ++ ys) → IsBare value held ys
  right_bare xs ys h n at = h n (Contains-append_right xs ys n at)

  by_bare : (b : Bool) (xs ys : List ℕ) (Goal : Type 0) → (b ≡ true → IsBare value held xs → Goal) → (b ≡ false → IsBare value held ys → Goal) →
      IsBare value held (cond b xs ys) → Goal
  by_bare true xs ys Goal p q = p refl
  by_bare false xs ys Goal p q = q refl

  one_of_bare : (ts : Trees) → IsBare value held (numbers_of ts) → AtMostOne value held ts
  one_of_bare none h = tt
  one_of_bare (more t ts) h = inr (right_bare (numbers t) (numbers_of ts) h)

  meets_of_bare : (op : Operator) (ts : Trees) → IsBare value held (numbers_of ts) → MeetsOne value held op ts
  meets_of_bare greatest ts h = one_of_bare ts h
  meets_of_bare least ts h = tt
  meets_of_bare added ts h = tt

  mutual
    -- where no leaf has a grant
    pub thrifty_of_bare : (t : Tree) → IsBare value held (numbers t) → IsThrifty value held t
    thrifty_of_bare (one l) h = λ z. h
    thrifty_of_bare (join op ts) h = ((λ z. h), meets_of_bare op ts h, are_thrifty_of_bare ts h)
    thrifty_of_bare (scale t s) h = ((λ z. h), thrifty_of_bare t h)
    thrifty_of_bare (barrier t v) h = ((λ z. h), thrifty_of_bare t h)

    pub are_thrifty_of_bare : (ts : Trees) → IsBare value held (numbers_of ts) → AreThrifty value held ts
    are_thrifty_of_bare none h = tt
    are_thrifty_of_bare (more t ts) h =
        (thrifty_of_bare t (left_bare (numbers t) (numbers_of ts) h), are_thrifty_of_bare ts (right_bare (numbers t) (numbers_of ts) h))

  mutual
    pub thrifty_of_idle : (t : Tree) → IsBare value held (idle value t) → IsThrifty value held t
    thrifty_of_idle (one l) =
        by_bare (value l == 0) (l.num ∷ []) [] (value l ≡ 0 → IsBare value held (l.num ∷ []))
        (λ e h z. h) (λ e h z. absurd (ne_from_test (value l) 0 e z))
    thrifty_of_idle (join greatest ts) =
        by_bare (greatest_of (worths_by value ts) == 0) (numbers_of ts) (idle_but_first value (greatest_of (worths_by value ts)) ts)
        (IsThrifty value held (join greatest ts)) (λ e h. thrifty_of_bare (join greatest ts) h)
        (λ e h. let rest = but_first_rest (greatest_of (worths_by value ts)) ts h in
        ((λ z. absurd (ne_from_test (greatest_of (worths_by value ts)) 0 e z)), rest.0, rest.1))
    thrifty_of_idle (join least ts) =
        by_bare (least_of (worths_by value ts) == 0) (numbers_of ts) (idle_each value ts)
        (IsThrifty value held (join least ts)) (λ e h. thrifty_of_bare (join least ts) h)
        (λ e h. ((λ z. absurd (ne_from_test (least_of (worths_by value ts)) 0 e z)), tt, each_rest ts h))
    thrifty_of_idle (join added ts) =
        by_bare (added_of (worths_by value ts) == 0) (numbers_of ts) (idle_each value ts)
        (IsThrifty value held (join added ts)) (λ e h. thrifty_of_bare (join added ts) h)
        (λ e h. ((λ z. absurd (ne_from_test (added_of (worths_by value ts)) 0 e z)), tt, each_rest ts h))
    thrifty_of_idle (scale t s) =
        by_bare (worth_by value (scale t s) == 0) (numbers t) (idle value t) (IsThrifty value held (scale t s))
        (λ e h. thrifty_of_bare (scale t s) h)
        (λ e h. ((λ z. absurd (ne_from_test (worth_by value (scale t s)) 0 e z)), thrifty_of_idle t h))
    thrifty_of_idle (barrier t v) =
        by_bare (worth_by value (barrier t v) == 0) (numbers t) (idle value t) (IsThrifty value held (barrier t v))
        (λ e h. thrifty_of_bare (barrier t v) h)
        (λ e h. ((λ z. absurd (ne_from_test (worth_by value (barrier t v)) 0 e z)), thrifty_of_idle t h))

    each_rest : (ts : Trees) → IsBare value held (idle_each value ts) → AreThrifty value held ts
    each_rest none h = tt
    each_rest (more t ts) h =
        (thrifty_of_idle t (left_bare (idle value t) (idle_each value ts) h), each_rest ts (right_bare (idle value t) (idle_each value ts) h))

    but_first_rest : (best : ℕ) (ts : Trees) → IsBare value held (idle_but_first value best ts) → AtMostOne value held ts × AreThrifty value held ts
    but_first_rest best none h = (tt, tt)
    but_first_rest best (more t ts) h =
        by_bare (worth_by value t == best) (idle value t ++ numbers_of ts) (numbers t ++ idle_but_first value best ts)
        (AtMostOne value held (more t ts) × AreThrifty value held (more t ts))
        (λ e h.
        let others = right_bare (idle value t) (numbers_of ts) h in
        (inr others, (thrifty_of_idle t (left_bare (idle value t) (numbers_of ts) h), are_thrifty_of_bare ts others)))
        (λ e h.
        let here = left_bare (numbers t) (idle_but_first value best ts) h in
        let rest = but_first_rest best ts (right_bare (numbers t) (idle_but_first value best ts) h) in
        (inl (here, rest.0), (thrifty_of_bare t here, rest.1)))
        h

  append_bare : (xs ys : List ℕ) → IsBare value held xs → IsBare value held ys → IsBare value held (xs ++ ys)
  append_bare xs ys p q n at have = ⊎_elim (λ h. p n h have) (λ h. q n h have) (Contains-append_cases xs ys n at)

  cond_bare : (b : Bool) (xs ys : List ℕ) → (b ≡ true → IsBare value held xs) → (b ≡ false → IsBare value held ys) →
      IsBare value held (cond b xs ys)
  cond_bare true xs ys p q = p refl
  cond_bare false xs ys p q = q refl

  -- a leaf without a grant is worth nothing
  module _ (zero_at : (l : Leaf) → IsGoodLeaf l → (Contains held l.num → ⊥) → value l ≡ 0) where
    bare_zero : (t : Tree) → IsSound t → IsBare value held (numbers t) → worth_by value t ≡ 0
    bare_zero = all_struck value value (λ n. Contains held n → ⊥) zero_at (λ l away. refl)

    bare_zero_of : (ts : Trees) → AreSound ts → IsBare value held (numbers_of ts) → greatest_of (worths_by value ts) ≡ 0
    bare_zero_of ts sound bare =
        greatest_of-zero (worths_by value ts) (all_struck_of value value (λ n. Contains held n → ⊥) zero_at (λ l away. refl) ts sound bare)

    mutual
      pub idle_of_thrifty : (t : Tree) → IsSound t → IsThrifty value held t → IsBare value held (idle value t)
      idle_of_thrifty (one l) sound th =
          cond_bare (value l == 0) (l.num ∷ []) [] (λ e. th (zero_from_test (value l) e)) (λ e n at. absurd (nothing_in_nil n at))
      idle_of_thrifty (join greatest ts) sound th =
          cond_bare (greatest_of (worths_by value ts) == 0) (numbers_of ts) (idle_but_first value (greatest_of (worths_by value ts)) ts)
          (λ e. th.0 (zero_from_test (greatest_of (worths_by value ts)) e))
          (λ e. but_first_of (greatest_of (worths_by value ts)) ts sound.1 (ne_from_test (greatest_of (worths_by value ts)) 0 e) refl th.1 th.2)
      idle_of_thrifty (join least ts) sound th =
          cond_bare (least_of (worths_by value ts) == 0) (numbers_of ts) (idle_each value ts)
          (λ e. th.0 (zero_from_test (least_of (worths_by value ts)) e)) (λ e. each_of ts sound.1 th.2)
      idle_of_thrifty (join added ts) sound th =
          cond_bare (added_of (worths_by value ts) == 0) (numbers_of ts) (idle_each value ts)
          (λ e. th.0 (zero_from_test (added_of (worths_by value ts)) e)) (λ e. each_of ts sound.1 th.2)
      idle_of_thrifty (scale t s) sound th =
          cond_bare (worth_by value (scale t s) == 0) (numbers t) (idle value t)
          (λ e. th.0 (zero_from_test (worth_by value (scale t s)) e)) (λ e. idle_of_thrifty t sound.0 th.1)
      idle_of_thrifty (barrier t v) sound th =
          cond_bare (worth_by value (barrier t v) == 0) (numbers t) (idle value t)
          (λ e. th.0 (zero_from_test (worth_by value (barrier t v)) e)) (λ e. idle_of_thrifty t sound.0 th.1)

      each_of : (ts : Trees) → AreSound ts → AreThrifty value held ts → IsBare value held (idle_each value ts)
      each_of none sound th = λ n at. absurd (nothing_in_nil n at)
      each_of (more t ts) sound th =
          append_bare (idle value t) (idle_each value ts) (idle_of_thrifty t sound.0 th.0) (each_of ts sound.1 th.1)

      but_first_of : (best : ℕ) (ts : Trees) → AreSound ts → (best ≡ 0 → ⊥) → best ≡ greatest_of (worths_by value ts) →
          AtMostOne value held ts → AreThrifty value held ts → IsBare value held (idle_but_first value best ts)
      but_first_of best none sound some is single th = λ n at. absurd (nothing_in_nil n at)
      but_first_of best (more t ts) sound some is single th =
          cond_bare (worth_by value t == best) (idle value t ++ numbers_of ts) (numbers t ++ idle_but_first value best ts)
          (λ e. append_bare (idle value t) (numbers_of ts) (idle_of_thrifty t sound.0 th.0)
          (⊎_elim (λ h. absurd (some (sym (eq_from_test (worth_by value t) best e) ∙ bare_zero t sound.0 h.0))) (λ h. h) single))
          (λ e.
          let rest : best ≡ greatest_of (worths_by value ts) = omega (arith, is, ne_from_test (worth_by value t) best e) in
          ⊎_elim (λ h. append_bare (numbers t) (idle_but_first value best ts) h.0 (but_first_of best ts sound.1 some rest h.1 th.1))
          (λ h. absurd (some (rest ∙ bare_zero_of ts sound.1 h))) single)

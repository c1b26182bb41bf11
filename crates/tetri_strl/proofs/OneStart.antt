-- A thrifty allotment gives the leaves of an aligned tree one start.
use Rattle.std.proofs.Common.{◌≡◌, ℕ, List, Contains, ⊎_elim, refl, arith}
use Rattle.tetri_strl.specs.declared.expr.Leaf.{Leaf}
use Rattle.tetri_strl.specs.Aligned.{EachLeaf, EachLeafOf, StartsAt, IsAligned, AreAligned}
use Rattle.tetri_strl.specs.Thrifty.{IsBare, AtMostOne, IsThrifty, AreThrifty}
use Rattle.tetri_strl.specs.Tree.{greatest, least, added, Tree, one, join, scale, barrier, Trees, none, more, numbers, numbers_of}
use Rattle.tetri_strl.proofs.ThriftyLemmas.{left_bare, right_bare}

module _ (value : Leaf → ℕ) (held : List ℕ) where
  -- a leaf with a grant starts in this slot
  abbrev pub Begins : ℕ → Leaf → Type 0
  Begins s l = Contains held l.num → l.start ≡ s

  mutual
    of_all : (s : ℕ) (t : Tree) → EachLeaf (StartsAt s) t → EachLeaf (Begins s) t
    of_all s (one l) h = λ at. h
    of_all s (join op ts) h = of_all_parts s ts h
    of_all s (scale t v) h = of_all s t h
    of_all s (barrier t v) h = of_all s t h

    of_all_parts : (s : ℕ) (ts : Trees) → EachLeafOf (StartsAt s) ts → EachLeafOf (Begins s) ts
    of_all_parts s none h = tt
    of_all_parts s (more t ts) h = (of_all s t h.0, of_all_parts s ts h.1)

  mutual
    -- where no leaf has a grant, any slot will do
    of_none : (s : ℕ) (t : Tree) → IsBare value held (numbers t) → EachLeaf (Begins s) t
    of_none s (one l) h = λ at. absurd (h l.num (0, omega arith, refl) at)
    of_none s (join op ts) h = of_none_parts s ts h
    of_none s (scale t v) h = of_none s t h
    of_none s (barrier t v) h = of_none s t h

    of_none_parts : (s : ℕ) (ts : Trees) → IsBare value held (numbers_of ts) → EachLeafOf (Begins s) ts
    of_none_parts s none h = tt
    of_none_parts s (more t ts) h =
        (of_none s t (left_bare value held (numbers t) (numbers_of ts) h), of_none_parts s ts (right_bare value held (numbers t) (numbers_of ts) h))

  mutual
    pub one_held_start : (t : Tree) → IsAligned t → IsThrifty value held t → (s : ℕ) × EachLeaf (Begins s) t
    one_held_start (one l) aligned th = (l.start, λ at. refl)
    one_held_start (join greatest ts) aligned th = of_at_most_one ts aligned.1 th.2 th.1
    one_held_start (join least ts) aligned th = (aligned.0.0, of_all aligned.0.0 (join least ts) aligned.0.1)
    one_held_start (join added ts) aligned th = (aligned.0.0, of_all aligned.0.0 (join added ts) aligned.0.1)
    one_held_start (scale t s) aligned th = one_held_start t aligned th.1
    one_held_start (barrier t v) aligned th = one_held_start t aligned th.1

    of_at_most_one : (ts : Trees) → AreAligned ts → AreThrifty value held ts → AtMostOne value held ts → (s : ℕ) × EachLeafOf (Begins s) ts
    of_at_most_one none aligned th single = (0, tt)
    of_at_most_one (more t ts) aligned th single =
        ⊎_elim (λ h. let rest = of_at_most_one ts aligned.1 th.1 h.1 in (rest.0, (of_none rest.0 t h.0, rest.1)))
        (λ h. let first = one_held_start t aligned.0 th.0 in (first.0, (first.1, of_none_parts first.0 ts h))) single

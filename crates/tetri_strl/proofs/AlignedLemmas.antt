-- One start, found by the first leaf.
use Rattle.std.proofs.Common.{◌≡◌, ◌↔◌, ℕ, Bool, IsTrue, sym, subst}
use Rattle.tetri_strl.specs.Tree.{Operator, greatest, least, added, Tree, one, join, scale, barrier, Trees, none, more}
use Rattle.tetri_strl.specs.WellMade.{IsSound, AreSound, HasChild}
use Rattle.tetri_strl.specs.Aligned.{EachLeaf, EachLeafOf, StartsAt, HasOneStart, MeetsAt, IsAligned, AreAligned, first_start, first_start_of}

-- a join that asks for one start
abbrev pub AsksOneStart : Operator → Type 0
AsksOneStart greatest = ⊥
AsksOneStart least = Unit {0}
AsksOneStart added = Unit {0}

meets : (op : Operator) (t : Tree) → HasOneStart t → MeetsAt op t
meets greatest t h = tt
meets least t h = h
meets added t h = h

module _ (s : ℕ) where
  mutual
    one_start_aligned : (t : Tree) → EachLeaf (StartsAt s) t → IsAligned t
    one_start_aligned (one l) h = tt
    one_start_aligned (join op ts) h = (meets op (join op ts) (s, h), one_start_aligned_of ts h)
    one_start_aligned (scale t v) h = one_start_aligned t h
    one_start_aligned (barrier t v) h = one_start_aligned t h

    one_start_aligned_of : (ts : Trees) → EachLeafOf (StartsAt s) ts → AreAligned ts
    one_start_aligned_of none h = tt
    one_start_aligned_of (more t ts) h = (one_start_aligned t h.0, one_start_aligned_of ts h.1)

  mutual
    first_start_is : (t : Tree) → IsSound t → EachLeaf (StartsAt s) t → first_start t ≡ s
    first_start_is (one l) sound h = h
    first_start_is (join op ts) sound h = first_start_of_is ts sound.0 sound.1 h
    first_start_is (scale t v) sound h = first_start_is t sound.0 h
    first_start_is (barrier t v) sound h = first_start_is t sound.0 h

    first_start_of_is : (ts : Trees) → HasChild ts → AreSound ts → EachLeafOf (StartsAt s) ts → first_start_of ts ≡ s
    first_start_of_is none some sound h = absurd some
    first_start_of_is (more t ts) some sound h = first_start_is t sound.0 h.0

pub aligned_from_first : (t : Tree) → EachLeaf (StartsAt (first_start t)) t → IsAligned t
aligned_from_first t = one_start_aligned (first_start t) t

meets_one : (op : Operator) (t : Tree) → AsksOneStart op → MeetsAt op t → HasOneStart t
meets_one greatest t asks h = absurd asks
meets_one least t asks h = h
meets_one added t asks h = h

pub first_from_aligned : (op : Operator) (ts : Trees) → AsksOneStart op → IsSound (join op ts) → IsAligned (join op ts) →
    EachLeaf (StartsAt (first_start (join op ts))) (join op ts)
first_from_aligned op ts asks sound h =
    let one = meets_one op (join op ts) asks h.0 in
    subst (λ s. EachLeaf (StartsAt s) (join op ts)) (sym (first_start_is one.0 (join op ts) sound one.1)) one.1

pub by_first : (op : Operator) (ts : Trees) (t : Tree) (b : Bool) (start : ℕ) → AsksOneStart op → t ≡ join op ts → IsSound t →
    start ≡ first_start t → (IsTrue b ↔ EachLeaf (StartsAt start) t) → IsTrue b ↔ IsAligned t
by_first op ts t b start asks same sound is all = (
  λ h. aligned_from_first t (subst (λ s. EachLeaf (StartsAt s) t) is (all.0 h)),
  λ h. all.1 (subst (λ s. EachLeaf (StartsAt s) t) (sym is)
      (subst (λ u. EachLeaf (StartsAt (first_start u)) u) (sym same)
      (first_from_aligned op ts asks (subst IsSound same sound) (subst IsAligned same h)))),
)

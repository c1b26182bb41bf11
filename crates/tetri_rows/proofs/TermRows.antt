-- A whole pivot's row, by its terms, put into a row.
use Rattle.std.proofs.Common.{◌≡◌, ℕ, ◌+◌, ◌<◌, ◌≤◌, refl, sym, ap, ◌∙◌, subst, arith, List, [], ◌∷◌, length, get_or, set, ◌⊎◌, inl, inr, ⊎_elim}
use Prim.Native.Nat.{zero, suc}
use Rattle.std.specs.Prelude.{All}
use Rattle.std.proofs.lemmas.Bool.{cases_lt}
use Rattle.std.proofs.lemmas.List.{get_or-set_same, get_or-set_other, get_or_default}
use lib.IntN.{ℤ, pos, ◌*ℤ◌}
use Rattle.tetri_algebra.specs.Integers.{*ℤ-one}
use Rattle.tetri_algebra.specs.RingSolver.{var, num, ring, ◌⊕◌, ◌⊗◌}
use Rattle.tetri_algebra.specs.IntegerRing.{ℤ_ring}
use Rattle.tetri_rows.specs.Small.{IsShort}
use Rattle.tetri_rows.specs.Rows.{combined, combined_at}
use Rattle.tetri_rows.specs.Terms.{IsAscending, AreTerms, term_at}

-- whether a place is among the first m
pub find : (at : ℕ → ℕ) (m p : ℕ) → ((q : ℕ) × (q < m) × (at q ≡ p)) ⊎ ((q : ℕ) → q < m → at q ≡ p → ⊥)
find at zero p = inr (λ q l e. nothing q l)
  where
    nothing : (q : ℕ) → q < 0 → ⊥
    nothing q l = omega arith
find at (suc m) p =
    ⊎_elim (λ f. inl (f.0, more _ m f.1, f.2))
    (λ h. ⊎_elim (λ a. inr (λ q l e. past q l e h (λ s. less _ _ a s)))
    (λ a. ⊎_elim (λ b. inr (λ q l e. past q l e h (λ s. less _ _ b (sym s)))) (λ b. inl (m, self m, both _ _ a b)) (cases_lt p (at m)))
    (cases_lt (at m) p))
    (find at m p)
  where
    more : (q m : ℕ) → q < m → q < suc m
    more q m l = omega arith

    self : (m : ℕ) → m < suc m
    self m = omega arith

    less : (x y : ℕ) → x < y → x ≡ y → ⊥
    less x y l e = omega arith

    both : (x y : ℕ) → y ≤ x → x ≤ y → x ≡ y
    both x y l k = omega arith

    past : (q : ℕ) → q < suc m → at q ≡ p → ((q : ℕ) → q < m → at q ≡ p → ⊥) → (at m ≡ p → ⊥) → ⊥
    past q l e h n = ⊎_elim (λ b. h q b e) (λ b. let s : q ≡ m = omega arith in n (subst (λ k. at k ≡ p) s e)) (cases_lt q m)

-- ---- the row as far as the terms have been written
pub terms_next : (old row : List ℤ) (P : List ℕ) (T : ℕ → ℤ) (m : ℕ) (z : ℤ) → m < length P → IsAscending P → get_or P m 0 < length row →
    ((q : ℕ) → q < m → get_or row (get_or P q 0) (pos 0) ≡ T q) →
    ((p : ℕ) → ((q : ℕ) → q < m → get_or P q 0 ≡ p → ⊥) → get_or row p (pos 0) ≡ get_or old p (pos 0)) → z ≡ T m →
    ((q : ℕ) → q < m + 1 → get_or (set row (get_or P m 0) z) (get_or P q 0) (pos 0) ≡ T q) ×
    ((p : ℕ) → ((q : ℕ) → q < m + 1 → get_or P q 0 ≡ p → ⊥) → get_or (set row (get_or P m 0) z) p (pos 0) ≡ get_or old p (pos 0))
terms_next old row P T m z l up h done other e = (
  λ q b. ⊎_elim
      (λ k. get_or-set_other row (get_or P m 0) (get_or P q 0) z (pos 0) (λ s. less _ _ (up q m k l) s) ∙ done q k)
      (λ k. let s : q ≡ m = omega arith in
      ap (λ j. get_or (set row (get_or P m 0) z) (get_or P j 0) (pos 0)) s ∙ get_or-set_same row (get_or P m 0) z (pos 0) h ∙ e ∙ ap T (sym s))
      (cases_lt q m),
  λ p n. get_or-set_other row (get_or P m 0) p z (pos 0) (λ s. n m (self m) (sym s)) ∙ other p (λ q k. n q (more q m k)),
)
  where
    less : (x y : ℕ) → x < y → x ≡ y → ⊥
    less x y l e = omega arith

    more : (q m : ℕ) → q < m → q < m + 1
    more q m l = omega arith

    self : (m : ℕ) → m < m + 1
    self m = omega arith

-- the place of the next term was not written yet
pub not_yet : (old row : List ℤ) (P : List ℕ) (m : ℕ) → m < length P → IsAscending P →
    ((p : ℕ) → ((q : ℕ) → q < m → get_or P q 0 ≡ p → ⊥) → get_or row p (pos 0) ≡ get_or old p (pos 0)) → get_or row (get_or P m 0) (pos 0) ≡ get_or old (get_or P m 0) (pos 0)
not_yet old row P m l up other = other (get_or P m 0) (λ q k s. less _ _ (up q m k l) s)
  where
    less : (x y : ℕ) → x < y → x ≡ y → ⊥
    less x y l e = omega arith

-- ---- the whole row
pub terms_combined : (f : ℤ) (xs ys zs : List ℤ) (P : List ℕ) (N : List ℤ) → ((q : ℕ) → q < length P → get_or zs (get_or P q 0) (pos 0) ≡ term_at f xs P N q) →
    ((p : ℕ) → ((q : ℕ) → q < length P → get_or P q 0 ≡ p → ⊥) → get_or zs p (pos 0) ≡ get_or xs p (pos 0)) → AreTerms P N ys →
    (p : ℕ) → p < length ys → get_or zs p (pos 0) *ℤ pos 1 ≡ combined_at (pos 1) f xs ys p
terms_combined f xs ys zs P N done other t p l =
    *ℤ-one (get_or zs p (pos 0))
    ∙ ⊎_elim
    (λ w. ap (λ k. get_or zs k (pos 0)) (sym w.2) ∙ done w.0 w.1 ∙ ap (λ n. combined (pos 1) f (get_or xs (get_or P w.0 0) (pos 0)) n) (sym (t.at w.0 w.1)) ∙ ap (λ k. combined_at (pos 1) f xs ys k) w.2)
    (λ n. other p n ∙ alone f (get_or xs p (pos 0)) ∙ ap (λ y. combined (pos 1) f (get_or xs p (pos 0)) y) (sym (t.other p l n)))
    (find (λ q. get_or P q 0) (length P) p)
  where
    alone : (f x : ℤ) → x ≡ combined (pos 1) f x (pos 0)
    alone f x = ring ℤ_ring (f ∷ x ∷ []) (var 1) (var 1 ⊗ num (pos 1) ⊕ var 0 ⊗ num (pos 0)) refl

pub terms_short : (f : ℤ) (xs zs : List ℤ) (P : List ℕ) (N : List ℤ) → ((q : ℕ) → q < length P → get_or zs (get_or P q 0) (pos 0) ≡ term_at f xs P N q) →
    ((p : ℕ) → ((q : ℕ) → q < length P → get_or P q 0 ≡ p → ⊥) → get_or zs p (pos 0) ≡ get_or xs p (pos 0)) → length zs ≡ length xs → All IsShort xs →
    ((q : ℕ) → q < length P → IsShort (term_at f xs P N q)) → All IsShort zs
terms_short f xs zs P N done other l sx st k d m =
    subst IsShort (get_or_default zs k (pos 0) d m)
    (⊎_elim
    (λ w. subst (λ p. IsShort (get_or zs p (pos 0))) w.2 (subst IsShort (sym (done w.0 w.1)) (st w.0 w.1)))
    (λ n. subst IsShort (sym (other k n)) (sx k (pos 0) (omega arith)))
    (find (λ q. get_or P q 0) (length P) k))

-- Programs that say the same, and a row that is added last.
use Rattle.std.proofs.Common.{◌≡◌, ℕ, ◌+◌, ◌<◌, refl, sym, ap, ◌∙◌, subst, arith, List, [], ◌∷◌, ◌++◌, length, get_or, take}
use Prim.Native.Nat.{zero, suc}
use Rattle.std.proofs.lemmas.List.{length_push, take_more}
use Rattle.tetri_ip.specs.declared.programs.Row.{Row}
use Rattle.tetri_ip.specs.Points.{right_of, terms_of}
use Rattle.tetri_ip.specs.SamePrograms.{SameRows}

-- ---- rows pushed one by one
terms_push : (xs ys : List Row) (x y : Row) → length xs ≡ length ys → ((k : ℕ) → terms_of xs k ≡ terms_of ys k) → x.terms.items ≡ y.terms.items →
    (k : ℕ) → terms_of (xs ++ x ∷ []) k ≡ terms_of (ys ++ y ∷ []) k
terms_push [] [] x y n h e zero = e
terms_push [] [] x y n h e (suc k) = refl
terms_push [] (b ∷ ys) x y n h e k = absurd (omega (arith, n))
terms_push (a ∷ xs) [] x y n h e k = absurd (omega (arith, n))
terms_push (a ∷ xs) (b ∷ ys) x y n h e zero = h 0
terms_push (a ∷ xs) (b ∷ ys) x y n h e (suc k) = terms_push xs ys x y (omega (arith, n)) (λ i. h (suc i)) e k

rights_push : (xs ys : List Row) (x y : Row) → length xs ≡ length ys → ((k : ℕ) → right_of xs k ≡ right_of ys k) → x.right ≡ y.right →
    (k : ℕ) → right_of (xs ++ x ∷ []) k ≡ right_of (ys ++ y ∷ []) k
rights_push [] [] x y n h e zero = e
rights_push [] [] x y n h e (suc k) = refl
rights_push [] (b ∷ ys) x y n h e k = absurd (omega (arith, n))
rights_push (a ∷ xs) [] x y n h e k = absurd (omega (arith, n))
rights_push (a ∷ xs) (b ∷ ys) x y n h e zero = h 0
rights_push (a ∷ xs) (b ∷ ys) x y n h e (suc k) = rights_push xs ys x y (omega (arith, n)) (λ i. h (suc i)) e k

pub rows_push : (xs ys new : List Row) (i : ℕ) (x y : Row) → i < length xs → x ≡ get_or xs i x → y.terms.items ≡ x.terms.items → y.right ≡ x.right → new ≡ ys ++ y ∷ [] →
    SameRows (take i xs) ys → SameRows (take (i + 1) xs) new
rows_push xs ys new i x y l e terms right pushed same =
    subst (λ zs. SameRows (take (i + 1) xs) zs) (sym pushed)
    (subst (λ zs. SameRows zs (ys ++ y ∷ [])) (sym (take_more xs i x l ∙ ap (λ z. take i xs ++ z ∷ []) (sym e))) (record {
      count = length_push (take i xs) x ∙ ap (λ (n : ℕ). n + 1) same.count ∙ sym (length_push ys y);
      terms = terms_push (take i xs) ys x y same.count same.terms (sym terms);
      rights = rights_push (take i xs) ys x y same.count same.rights (sym right);
    }))

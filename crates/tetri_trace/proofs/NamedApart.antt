-- Names of which none comes a second time differ.
use Rattle.std.proofs.Common.{◌≡◌, ◌&&◌, ◌||◌, Bool, true, false, not, List, [], ◌∷◌, ◌++◌, refl, sym, ap, ◌∙◌, ℕ, length, bytes_eq}
use Rattle.std.specs.Prelude.{None, Some, if◌then◌else◌}
use Rattle.std.proofs.lemmas.Bool.{false≢true}
use Rattle.std.proofs.lemmas.List.Folds.{list_any-append}
use Rattle.std.proofs.lemmas.Slice.Eq.{bytes_eq-Decides}
use Rattle.tetri_cluster.specs.Names.{differ, first_repeated, is_among, repeated_after}

neither : (a b : Bool) → (a || b) ≡ false → (a ≡ false) × (b ≡ false)
neither true b e = absurd (false≢true (sym e))
neither false b e = (refl, e)

other_way : (x y : List ℕ) → bytes_eq y x ≡ false → bytes_eq x y ≡ false
other_way x y e = by_test (bytes_eq x y) refl
  where
    by_test : (t : Bool) → bytes_eq x y ≡ t → t ≡ false
    by_test true same = absurd (false≢true (sym e ∙ (bytes_eq-Decides y x).1 (sym ((bytes_eq-Decides x y).0 same))))
    by_test false same = refl

-- a name that is none of some is none of fewer
earlier_still : (z y : List ℕ) (earlier : List (List ℕ)) → is_among z (earlier ++ y ∷ []) ≡ false → (is_among z earlier ≡ false) × (bytes_eq z y ≡ false)
earlier_still z y earlier e =
    let parts = neither (is_among z earlier) (is_among z (y ∷ [])) (sym (list_any-append (bytes_eq z) earlier (y ∷ [])) ∙ e) in
    (parts.0, (neither (bytes_eq z y) false parts.1).0)

-- where no later name came before, this one is none of the later ones
not_later : (x : List ℕ) (earlier xs : List (List ℕ)) → ((y : List ℕ) → is_among y earlier ≡ false → bytes_eq x y ≡ false) → repeated_after earlier xs ≡ None →
    is_among x xs ≡ false
not_later x earlier [] apart none = refl
not_later x earlier (y ∷ ys) apart none =
    by_test (is_among y earlier) refl none (λ h. not_later x (earlier ++ y ∷ []) ys (λ z e. apart z (earlier_still z y earlier e).0) h)
  where
    by_test : (t : Bool) → is_among y earlier ≡ t → (if t then Some (length earlier) else repeated_after (earlier ++ y ∷ []) ys) ≡ None →
        (repeated_after (earlier ++ y ∷ []) ys ≡ None → is_among x ys ≡ false) → (bytes_eq x y || is_among x ys) ≡ false
    by_test true e repeated rest = absurd cc
    by_test false e fresh rest = ap (λ t. t || is_among x ys) (apart y e) ∙ rest fresh

differ_after : (earlier xs : List (List ℕ)) → repeated_after earlier xs ≡ None → differ xs ≡ true
differ_after earlier [] none = refl
differ_after earlier (x ∷ xs) none =
    by_test (is_among x earlier) none (λ h. differ_after (earlier ++ x ∷ []) xs h)
  where
    by_test : (t : Bool) → (if t then Some (length earlier) else repeated_after (earlier ++ x ∷ []) xs) ≡ None →
        (repeated_after (earlier ++ x ∷ []) xs ≡ None → differ xs ≡ true) → (not (is_among x xs) && differ xs) ≡ true
    by_test true repeated rest = absurd cc
    by_test false fresh rest =
        ap (λ t. not t && differ xs) (not_later x (earlier ++ x ∷ []) xs (λ y h. other_way x y (earlier_still y x earlier h).1) fresh) ∙ rest fresh

pub apart_differ : (names : List (List ℕ)) → first_repeated names ≡ None → differ names ≡ true
apart_differ names none = differ_after [] names none

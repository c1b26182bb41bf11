-- Steps of loops over lists.
use Rattle.std.proofs.Common.{◌≡◌, ℕ, zero, suc, ◌+◌, ◌<◌, Bool, true, false, cond, List, [], ◌∷◌, ◌++◌, length, get_or, map, drop, All, refl, sym, ap, ◌∙◌, arith}
use Rattle.std.specs.List.{filter}
use Rattle.std.proofs.lemmas.List.{append_assoc, drop_more, map-append}
use Rattle.tetri_base.specs.Lists.{Each}

-- one more item, where those from here on were still to come
pub map_next : {A B : Type 0} (f : A → B) (before new : List A) (x : A) (rest here all : List B) →
    new ≡ before ++ x ∷ [] → here ≡ f x ∷ rest → map f before ++ here ≡ all → map f new ++ rest ≡ all
map_next f before new x rest here all grown cut h =
    ap (λ ys. map f ys ++ rest) grown ∙ ap (λ ys. ys ++ rest) (map-append f before (x ∷ [])) ∙ append_assoc (map f before) (f x ∷ []) rest
    ∙ ap (λ ys. map f before ++ ys) (sym cut) ∙ h

-- the items from a place on begin with the one there
pub drop_here : {A : Type 0} (xs : List A) (i : ℕ) (x : A) → i < length xs → x ≡ get_or xs i x → drop i xs ≡ x ∷ drop (i + 1) xs
drop_here xs i x lt is = drop_more xs i x lt ∙ ap (λ y. y ∷ drop (i + 1) xs) (sym is)

pub filter-map : {A B : Type 0} (f : A → B) (p : B → Bool) (xs : List A) → filter p (map f xs) ≡ map f (filter (λ x. p (f x)) xs)
filter-map f p [] = refl
filter-map f p (x ∷ xs) = by_test (p (f x)) (filter-map f p xs)
  where
    by_test : (b : Bool) → filter p (map f xs) ≡ map f (filter (λ y. p (f y)) xs) →
        cond b (f x ∷ filter p (map f xs)) (filter p (map f xs)) ≡ map f (cond b (x ∷ filter (λ y. p (f y)) xs) (filter (λ y. p (f y)) xs))
    by_test true h = ap (λ ys. f x ∷ ys) h
    by_test false h = h

pub each_from_map : {A B : Type 0} (f : A → B) (P : B → Type 0) (xs : List A) → Each P (map f xs) → All (λ x. P (f x)) xs
each_from_map f P [] h k d lt = absurd (omega (arith, lt))
each_from_map f P (x ∷ xs) h zero d lt = h.0
each_from_map f P (x ∷ xs) h (suc k) d lt = each_from_map f P xs h.1 k d (omega (arith, lt))

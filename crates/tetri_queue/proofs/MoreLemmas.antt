-- One item more of the front of a list.
use Rattle.std.proofs.Common.{◌≡◌, ◌+◌, ◌<◌, ◌∙◌, ◌++◌, ◌∷◌, [], ℕ, List, length, take, get_or, fold, ap, sym, subst}
use Rattle.std.specs.Prelude.{All, flat_map}
use Rattle.std.proofs.lemmas.Grind.{fold-append, flat_map-append}
use Rattle.std.proofs.lemmas.List.{append-nil, take_more}
use Rattle.std.proofs.lemmas.List.Elements.{All-append, All-cons, All-nil}

pub all_more : {X : Type 0} (P : X → Type 0) (xs : List X) (i : ℕ) (d : X) → i < length xs → All P (take i xs) → P (get_or xs i d) → All P (take (i + 1) xs)
all_more P xs i d lt before here =
    subst (All P) (sym (take_more xs i d lt)) (All-append P (take i xs) (get_or xs i d ∷ []) before (All-cons P (get_or xs i d) [] here (All-nil P)))

pub fold_more : {X Y : Type 0} (f : Y → X → Y) (a : Y) (xs : List X) (i : ℕ) (d : X) → i < length xs → fold f a (take (i + 1) xs) ≡ f (fold f a (take i xs)) (get_or xs i d)
fold_more f a xs i d lt = ap (fold f a) (take_more xs i d lt) ∙ fold-append f a (take i xs) (get_or xs i d ∷ [])

pub flat_more : {X Y : Type 0} (f : X → List Y) (xs : List X) (i : ℕ) (d : X) → i < length xs → flat_map f (take (i + 1) xs) ≡ flat_map f (take i xs) ++ f (get_or xs i d)
flat_more f xs i d lt =
    ap (flat_map f) (take_more xs i d lt) ∙ flat_map-append f (take i xs) (get_or xs i d ∷ []) ∙ ap (λ ys. flat_map f (take i xs) ++ ys) (append-nil (f (get_or xs i d)))

-- Lists that are the same item by item, each seen in its own way.
use Rattle.std.proofs.Common.{◌≡◌, ◌+◌, ◌<◌, ◌≤◌, ◌∙◌, ◌++◌, ◌∷◌, [], ℕ, List, length, map, take, get_or, ap, sym}
use Rattle.std.proofs.lemmas.List.{take_all, take_more, map-append}

-- one item more
pub same_more : {X Y Z : Type 0} (f : X → Z) (g : Y → Z) (xs : List X) (ys : List Y) (i : ℕ) (d : X) (e : Y) → map f (take i xs) ≡ map g (take i ys) → i < length xs → i < length ys → f (get_or xs i d) ≡ g (get_or ys i e)
    → map f (take (i + 1) xs) ≡ map g (take (i + 1) ys)
same_more f g xs ys i d e before inside within here =
    ap (map f) (take_more xs i d inside)
    ∙ map-append f (take i xs) (get_or xs i d ∷ [])
    ∙ ap (λ zs. zs ++ f (get_or xs i d) ∷ []) before
    ∙ ap (λ z. map g (take i ys) ++ z ∷ []) here
    ∙ sym (map-append g (take i ys) (get_or ys i e ∷ []))
    ∙ ap (map g) (sym (take_more ys i e within))

-- all items
pub same_all : {X Y Z : Type 0} (f : X → Z) (g : Y → Z) (xs : List X) (ys : List Y) (i : ℕ) → map f (take i xs) ≡ map g (take i ys) → length xs ≤ i → length ys ≤ i → map f xs ≡ map g ys
same_all f g xs ys i same left right = ap (map f) (sym (take_all i xs left)) ∙ same ∙ ap (map g) (take_all i ys right)

-- one item more of the lists themselves
pub same_take : {X : Type 0} (xs ys : List X) (i : ℕ) (d : X) → take i xs ≡ take i ys → i < length xs → i < length ys → get_or xs i d ≡ get_or ys i d → take (i + 1) xs ≡ take (i + 1) ys
same_take xs ys i d before inside within here =
    take_more xs i d inside ∙ ap (λ zs. zs ++ get_or xs i d ∷ []) before ∙ ap (λ z. take i ys ++ z ∷ []) here ∙ sym (take_more ys i d within)

pub same_whole : {X : Type 0} (xs ys : List X) (i : ℕ) → take i xs ≡ take i ys → length xs ≤ i → length ys ≤ i → xs ≡ ys
same_whole xs ys i same left right = sym (take_all i xs left) ∙ same ∙ take_all i ys right

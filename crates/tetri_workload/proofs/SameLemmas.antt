-- Lists that are the same item by item.
use Rattle.std.proofs.Common.{◌≡◌, ◌+◌, ◌<◌, ◌≤◌, ◌∙◌, ◌++◌, ◌∷◌, [], ℕ, List, length, map, take, get_or, ap, refl, sym, subst}
use Rattle.std.specs.Prelude.{All}
use Rattle.std.proofs.lemmas.List.{get_or-map, length-map, take_all, take_more, take_more_same, map-append}
use Rattle.tetri_cluster.specs.Cluster.{name_at, names_of}
use Rattle.tetri_cluster.specs.declared.cluster.NodeText.{NodeText}

-- one item more
pub same_more : {X Y Z : Type 0} (f : X → Z) (g : Y → Z) (xs : List X) (ys : List Y) (i : ℕ) (d : X) (e : Y) → map f (take i xs) ≡ map g (take i ys) → i < length xs → i < length ys → f (get_or xs i d) ≡ g (get_or ys i e)
    → map f (take (i + 1) xs) ≡ map g (take (i + 1) ys)
same_more f g xs ys i d e before inside within here =
    ap (map f) (take_more xs i d inside)
    ∙ map-append f (take i xs) (get_or xs i d ∷ [])
    ∙ ap (λ zs. zs ++ f (get_or xs i d) ∷ []) before
    ∙ ap (λ z. map g (take i ys) ++ z ∷ []) here
    ∙ sym (map-append g (take i ys) (get_or ys i e ∷ []))
    ∙ ap (map g) (sym (take_more ys i e within))

-- all items
pub same_all : {X Y Z : Type 0} (f : X → Z) (g : Y → Z) (xs : List X) (ys : List Y) (i : ℕ) → map f (take i xs) ≡ map g (take i ys) → length xs ≤ i → length ys ≤ i → map f xs ≡ map g ys
same_all f g xs ys i same left right = ap (map f) (sym (take_all i xs left)) ∙ same ∙ ap (map g) (take_all i ys right)

-- what holds of each item of a list's image holds of the image of each item
pub image_at : {X Y : Type 0} (P : Y → Type 0) (f : X → Y) (xs : List X) (i : ℕ) (d : X) → All P (map f xs) → i < length xs → P (f (get_or xs i d))
image_at P f xs i d each inside = subst P (get_or-map f xs i d (f d) inside) (each i (f d) (subst (λ n. i < n) (sym (length-map xs f)) inside))

-- lists with the same images have items with the same images
pub same_at : {X Y Z : Type 0} (f : X → Z) (g : Y → Z) (xs : List X) (ys : List Y) (i : ℕ) (d : X) (e : Y) → map f xs ≡ map g ys → i < length xs → i < length ys → f (get_or xs i d) ≡ g (get_or ys i e)
same_at f g xs ys i d e same inside within =
    sym (get_or-map f xs i d (f d) inside) ∙ ap (λ zs. get_or zs i (f d)) same ∙ get_or-map g ys i e (f d) within

-- the images of images
pub twice : {X Y Z : Type 0} (f : Y → Z) (g : X → Y) (xs : List X) → map f (map g xs) ≡ map (λ x. f (g x)) xs
twice f g [] = refl
twice f g (x ∷ xs) = ap (λ ys. f (g x) ∷ ys) (twice f g xs)

-- one name more
pub name_more : (read meant : List NodeText) (i : ℕ) (d : NodeText) → take i (names_of read) ≡ take i (names_of meant) → i < length read → i < length meant → name_at read i ≡ (get_or meant i d).name
    → take (i + 1) (names_of read) ≡ take (i + 1) (names_of meant)
name_more read meant i d before inside within here =
    take_more_same (names_of read) (names_of meant) i [] (subst (λ n. i < n) (sym (length-map read (λ n. n.name))) inside) (subst (λ n. i < n) (sym (length-map meant (λ n. n.name))) within) before
    (here ∙ sym (get_or-map (λ n. n.name) meant i d [] within))

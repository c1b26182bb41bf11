-- Sums of products of lists, where one pivot changes a place.
use Rattle.std.proofs.Common.{◌≡◌, ℕ, ◌<◌, refl, ap, ◌∙◌, arith, List, [], ◌∷◌, length, get_or, set, map}
use Prim.Native.Nat.{zero, suc}
use lib.IntN.{negsuc}
use Rattle.tetri_algebra.specs.CommutativeRing.{CommutativeRing}
use Rattle.tetri_algebra.specs.RingSolver.{var, num, nil, minus, ring, ◌⊕◌, ◌⊗◌}
use Rattle.tetri_algebra.specs.Sums.{dot}

-- u + f * v, the shorter one filled up with 0
abbrev pub plus_scaled : {A : Type 0} → CommutativeRing A → A → List A → List A → List A
plus_scaled r f [] [] = []
plus_scaled r f [] (b ∷ v) = r.add r.zero (r.mul f b) ∷ plus_scaled r f [] v
plus_scaled r f (a ∷ u) [] = r.add a (r.mul f r.zero) ∷ plus_scaled r f u []
plus_scaled r f (a ∷ u) (b ∷ v) = r.add a (r.mul f b) ∷ plus_scaled r f u v

pub dot-plus_scaled : {A : Type 0} → (r : CommutativeRing A) (f : A) (u v xs : List A) → dot r (plus_scaled r f u v) xs ≡ r.add (dot r u xs) (r.mul f (dot r v xs))
dot-plus_scaled r f [] [] xs = ring r (f ∷ []) nil (nil ⊕ var 0 ⊗ nil) refl
dot-plus_scaled r f [] (b ∷ v) [] = ring r (f ∷ []) nil (nil ⊕ var 0 ⊗ nil) refl
dot-plus_scaled r f (a ∷ u) [] [] = ring r (f ∷ []) nil (nil ⊕ var 0 ⊗ nil) refl
dot-plus_scaled r f (a ∷ u) (b ∷ v) [] = ring r (f ∷ []) nil (nil ⊕ var 0 ⊗ nil) refl
dot-plus_scaled r f [] (b ∷ v) (x ∷ xs) =
    let F = var 0 in let B = var 1 in let X = var 2 in let D = var 3 in
    ap (λ w. r.add (r.mul (r.add r.zero (r.mul f b)) x) w) (dot-plus_scaled r f [] v xs)
    ∙ ring r (f ∷ b ∷ x ∷ dot r v xs ∷ []) ((nil ⊕ F ⊗ B) ⊗ X ⊕ (nil ⊕ F ⊗ D)) (nil ⊕ F ⊗ (B ⊗ X ⊕ D)) refl
dot-plus_scaled r f (a ∷ u) [] (x ∷ xs) =
    let F = var 0 in let B = var 1 in let X = var 2 in let D = var 3 in
    ap (λ w. r.add (r.mul (r.add a (r.mul f r.zero)) x) w) (dot-plus_scaled r f u [] xs)
    ∙ ring r (f ∷ a ∷ x ∷ dot r u xs ∷ []) ((B ⊕ F ⊗ nil) ⊗ X ⊕ (D ⊕ F ⊗ nil)) ((B ⊗ X ⊕ D) ⊕ F ⊗ nil) refl
dot-plus_scaled r f (a ∷ u) (b ∷ v) (x ∷ xs) =
    let F = var 0 in let B = var 1 in let X = var 2 in let D = var 3 in let C = var 4 in let E = var 5 in
    ap (λ w. r.add (r.mul (r.add a (r.mul f b)) x) w) (dot-plus_scaled r f u v xs)
    ∙ ring r (f ∷ b ∷ x ∷ dot r v xs ∷ a ∷ dot r u xs ∷ []) ((C ⊕ F ⊗ B) ⊗ X ⊕ (E ⊕ F ⊗ D)) ((C ⊗ X ⊕ E) ⊕ F ⊗ (B ⊗ X ⊕ D)) refl

-- with 0 at place k, what stands there in the other list counts no more
pub dot-set_zero : {A : Type 0} → (r : CommutativeRing A) (u v : List A) (k : ℕ) (w : A) → dot r (set u k r.zero) (set v k w) ≡ r.add (dot r u v) (r.neg (r.mul (get_or u k r.zero) (get_or v k r.zero)))
dot-set_zero r [] v k w = ring r (get_or v k r.zero ∷ []) nil (nil ⊕ minus (nil ⊗ var 0)) refl
dot-set_zero r (a ∷ u) [] zero w = ring r (a ∷ []) nil (nil ⊕ minus (var 0 ⊗ nil)) refl
dot-set_zero r (a ∷ u) [] (suc k) w = ring r (get_or u k r.zero ∷ []) nil (nil ⊕ minus (var 0 ⊗ nil)) refl
dot-set_zero r (a ∷ u) (b ∷ v) zero w =
    ring r (a ∷ b ∷ w ∷ dot r u v ∷ []) (nil ⊗ var 2 ⊕ var 3) ((var 0 ⊗ var 1 ⊕ var 3) ⊕ minus (var 0 ⊗ var 1)) refl
dot-set_zero r (a ∷ u) (b ∷ v) (suc k) w =
    let A0 = var 0 in let B = var 1 in let D = var 2 in let G = var 3 in let H = var 4 in
    ap (λ z. r.add (r.mul a b) z) (dot-set_zero r u v k w)
    ∙ ring r (a ∷ b ∷ dot r u v ∷ get_or u k r.zero ∷ get_or v k r.zero ∷ []) (A0 ⊗ B ⊕ (D ⊕ minus (G ⊗ H))) ((A0 ⊗ B ⊕ D) ⊕ minus (G ⊗ H)) refl

pub dot-set_both : {A : Type 0} → (r : CommutativeRing A) (u v : List A) (k : ℕ) (z w : A) → k < length u → k < length v →
    dot r (set u k z) (set v k w) ≡ r.add (dot r u v) (r.add (r.mul z w) (r.neg (r.mul (get_or u k r.zero) (get_or v k r.zero))))
dot-set_both r [] v k z w h g = absurd (omega arith)
dot-set_both r (a ∷ u) [] k z w h g = absurd (omega arith)
dot-set_both r (a ∷ u) (b ∷ v) zero z w h g =
    ring r (a ∷ b ∷ w ∷ dot r u v ∷ z ∷ []) (var 4 ⊗ var 2 ⊕ var 3) ((var 0 ⊗ var 1 ⊕ var 3) ⊕ (var 4 ⊗ var 2 ⊕ minus (var 0 ⊗ var 1))) refl
dot-set_both r (a ∷ u) (b ∷ v) (suc k) z w h g =
    let A0 = var 0 in let B = var 1 in let D = var 2 in let G = var 3 in let H = var 4 in let Z = var 5 in let W = var 6 in
    ap (λ x. r.add (r.mul a b) x) (dot-set_both r u v k z w (omega arith) (omega arith))
    ∙ ring r (a ∷ b ∷ dot r u v ∷ get_or u k r.zero ∷ get_or v k r.zero ∷ z ∷ w ∷ []) (A0 ⊗ B ⊕ (D ⊕ (Z ⊗ W ⊕ minus (G ⊗ H)))) ((A0 ⊗ B ⊕ D) ⊕ (Z ⊗ W ⊕ minus (G ⊗ H))) refl

-- each number_at by -c
abbrev pub negated : {A : Type 0} → CommutativeRing A → A → A → A
negated r c x = r.mul (r.neg x) c

pub dot-negated : {A : Type 0} → (r : CommutativeRing A) (c : A) (u v : List A) → dot r (map (negated r c) u) v ≡ r.neg (r.mul c (dot r u v))
dot-negated r c [] v = ring r (c ∷ []) nil (minus (var 0 ⊗ nil)) refl
dot-negated r c (a ∷ u) [] = ring r (c ∷ []) nil (minus (var 0 ⊗ nil)) refl
dot-negated r c (a ∷ u) (b ∷ v) =
    let A0 = var 0 in let B = var 1 in let D = var 2 in let C = var 3 in
    ap (λ z. r.add (r.mul (r.mul (r.neg a) c) b) z) (dot-negated r c u v)
    ∙ ring r (a ∷ b ∷ dot r u v ∷ c ∷ []) ((minus A0 ⊗ C) ⊗ B ⊕ minus (C ⊗ D)) (minus (C ⊗ (A0 ⊗ B ⊕ D))) refl

-- the solved_row row gives the entering variable
pub dot-solved : {A : Type 0} → (r : CommutativeRing A) (u v : List A) (k : ℕ) (c : A) → k < length u → k < length v → r.mul (get_or u k r.zero) c ≡ r.one →
    dot r (map (negated r c) (set u k (r.of (negsuc 0)))) (set v k (dot r u v)) ≡ get_or v k r.zero
dot-solved r u v k c h g e =
    let a = get_or u k r.zero in let y = get_or v k r.zero in let x = dot r u v in
    let A0 = var 0 in let Y = var 1 in let X = var 2 in let C = var 3 in
    dot-negated r c (set u k (r.of (negsuc 0))) (set v k x)
    ∙ ap (λ z. r.neg (r.mul c z)) (dot-set_both r u v k (r.of (negsuc 0)) x h g)
    ∙ ring r (a ∷ y ∷ x ∷ c ∷ []) (minus (C ⊗ (X ⊕ (num (negsuc 0) ⊗ X ⊕ minus (A0 ⊗ Y))))) ((A0 ⊗ C) ⊗ Y) refl
    ∙ ap (λ z. r.mul z y) e
    ∙ r.mul_one y

-- every other row keeps its value
pub dot-replaced : {A : Type 0} → (r : CommutativeRing A) (row fresh v : List A) (k : ℕ) (x : A) → dot r fresh (set v k x) ≡ get_or v k r.zero →
    dot r (plus_scaled r (get_or row k r.zero) (set row k r.zero) fresh) (set v k x) ≡ dot r row v
dot-replaced r row fresh v k x e =
    let f = get_or row k r.zero in let y = get_or v k r.zero in let d = dot r row v in
    dot-plus_scaled r f (set row k r.zero) fresh (set v k x)
    ∙ ap (λ z. r.add z (r.mul f (dot r fresh (set v k x)))) (dot-set_zero r row v k x)
    ∙ ap (λ z. r.add (r.add d (r.neg (r.mul f y))) (r.mul f z)) e
    ∙ ring r (d ∷ f ∷ y ∷ []) ((var 0 ⊕ minus (var 1 ⊗ var 2)) ⊕ var 1 ⊗ var 2) (var 0) refl

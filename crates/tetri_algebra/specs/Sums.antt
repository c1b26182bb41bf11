-- Sums over lists in a commutative ring, dot products, and that both are linear.
use Rattle.std.proofs.Common.{◌≡◌, ℕ, ◌+◌, ◌<◌, refl, sym, ap, ◌∙◌, arith, List, [], ◌∷◌, ◌++◌, get_or, cond, Bool, true, false, eqb}
use Prim.Native.Nat.{zero, suc}
use Rattle.std.proofs.lemmas.Bool.{eqb-true, eq-eqb}
use Rattle.tetri_algebra.specs.CommutativeRing.{CommutativeRing, add_zero_right, mul_zero_right}
use Rattle.tetri_algebra.specs.RingSolver.{var, nil, ring, ◌⊕◌, ◌⊗◌}

-- ---- the sum of f over a list
abbrev pub sum_over : {A X : Type 0} → CommutativeRing A → (X → A) → List X → A
sum_over r f [] = r.zero
sum_over r f (x ∷ xs) = r.add (f x) (sum_over r f xs)

pub sum_over-zero : {A X : Type 0} → (r : CommutativeRing A) (xs : List X) → sum_over r (λ (x : X). r.zero) xs ≡ r.zero
sum_over-zero r [] = refl
sum_over-zero r (x ∷ xs) = r.add_zero _ ∙ sum_over-zero r xs

pub sum_over-add : {A X : Type 0} → (r : CommutativeRing A) (f g : X → A) (xs : List X) → sum_over r (λ x. r.add (f x) (g x)) xs ≡ r.add (sum_over r f xs) (sum_over r g xs)
sum_over-add r f g [] = sym (r.add_zero r.zero)
sum_over-add r f g (x ∷ xs) =
    ap (λ w. r.add (r.add (f x) (g x)) w) (sum_over-add r f g xs)
    ∙ ring r (f x ∷ g x ∷ sum_over r f xs ∷ sum_over r g xs ∷ [])
    ((var 0 ⊕ var 1) ⊕ (var 2 ⊕ var 3)) ((var 0 ⊕ var 2) ⊕ (var 1 ⊕ var 3)) refl

pub sum_over-mul : {A X : Type 0} → (r : CommutativeRing A) (k : A) (f : X → A) (xs : List X) → sum_over r (λ x. r.mul k (f x)) xs ≡ r.mul k (sum_over r f xs)
sum_over-mul r k f [] = sym (mul_zero_right r k)
sum_over-mul r k f (x ∷ xs) =
    ap (λ w. r.add (r.mul k (f x)) w) (sum_over-mul r k f xs)
    ∙ ring r (k ∷ f x ∷ sum_over r f xs ∷ []) ((var 0 ⊗ var 1) ⊕ (var 0 ⊗ var 2)) (var 0 ⊗ (var 1 ⊕ var 2)) refl

pub sum_over-append : {A X : Type 0} → (r : CommutativeRing A) (f : X → A) (xs ys : List X) → sum_over r f (xs ++ ys) ≡ r.add (sum_over r f xs) (sum_over r f ys)
sum_over-append r f [] ys = sym (r.add_zero _)
sum_over-append r f (x ∷ xs) ys = ap (λ w. r.add (f x) w) (sum_over-append r f xs ys) ∙ sym (r.add_assoc (f x) _ _)

pub same_sum_over : {A X : Type 0} → (r : CommutativeRing A) (f g : X → A) (xs : List X) → ((x : X) → f x ≡ g x) → sum_over r f xs ≡ sum_over r g xs
same_sum_over r f g [] h = refl
same_sum_over r f g (x ∷ xs) h = ap (λ w. r.add w (sum_over r f xs)) (h x) ∙ ap (λ w. r.add (g x) w) (same_sum_over r f g xs h)

-- two sums, one in the other, in either order
pub sum_over_exchange : {A X Y : Type 0} → (r : CommutativeRing A) (f : X → Y → A) (xs : List X) (ys : List Y) →
    sum_over r (λ x. sum_over r (f x) ys) xs ≡ sum_over r (λ y. sum_over r (λ x. f x y) xs) ys
sum_over_exchange r f [] ys = sym (sum_over-zero r ys)
sum_over_exchange r f (x ∷ xs) ys =
    ap (λ w. r.add (sum_over r (f x) ys) w) (sum_over_exchange r f xs ys)
    ∙ sym (sum_over-add r (f x) (λ y. sum_over r (λ z. f z y) xs) ys)

-- ---- the sum of products of two lists
abbrev pub dot : {A : Type 0} → CommutativeRing A → List A → List A → A
dot r [] xs = r.zero
dot r (a ∷ us) [] = r.zero
dot r (a ∷ us) (x ∷ xs) = r.add (r.mul a x) (dot r us xs)

-- u + k * v, for lists of one length
abbrev pub add_scaled : {A : Type 0} → CommutativeRing A → List A → A → List A → List A
add_scaled r [] k vs = []
add_scaled r (a ∷ us) k [] = a ∷ us
add_scaled r (a ∷ us) k (b ∷ vs) = r.add a (r.mul k b) ∷ add_scaled r us k vs

abbrev pub IsSameLength : {A B : Type 0} → List A → List B → Type 0
IsSameLength [] [] = Unit {0}
IsSameLength [] (y ∷ ys) = ⊥
IsSameLength (x ∷ xs) [] = ⊥
IsSameLength (x ∷ xs) (y ∷ ys) = IsSameLength xs ys

pub dot-add_scaled : {A : Type 0} → (r : CommutativeRing A) (us : List A) (k : A) (vs xs : List A) → IsSameLength us vs → dot r (add_scaled r us k vs) xs ≡ r.add (dot r us xs) (r.mul k (dot r vs xs))
dot-add_scaled r [] k [] xs h = ring r (k ∷ []) nil (nil ⊕ var 0 ⊗ nil) refl
dot-add_scaled r [] k (b ∷ vs) xs h = absurd h
dot-add_scaled r (a ∷ us) k [] xs h = absurd h
dot-add_scaled r (a ∷ us) k (b ∷ vs) [] h = ring r (k ∷ []) nil (nil ⊕ var 0 ⊗ nil) refl
dot-add_scaled r (a ∷ us) k (b ∷ vs) (x ∷ xs) h =
    let A0 = var 0 in let B = var 1 in let K = var 2 in let X = var 3 in let D = var 4 in let E = var 5 in
    ap (λ w. r.add (r.mul (r.add a (r.mul k b)) x) w) (dot-add_scaled r us k vs xs h)
    ∙ ring r (a ∷ b ∷ k ∷ x ∷ dot r us xs ∷ dot r vs xs ∷ [])
    ((A0 ⊕ K ⊗ B) ⊗ X ⊕ (D ⊕ K ⊗ E)) ((A0 ⊗ X ⊕ D) ⊕ K ⊗ (B ⊗ X ⊕ E)) refl

-- ---- the sum of f (j + k) * x_k: coefficients by the number of the column, counted from j
abbrev pub dot_from : {A : Type 0} → CommutativeRing A → (ℕ → A) → ℕ → List A → A
dot_from r f j [] = r.zero
dot_from r f j (x ∷ xs) = r.add (r.mul (f j) x) (dot_from r f (j + 1) xs)

pub dot_from-zero : {A : Type 0} → (r : CommutativeRing A) (j : ℕ) (xs : List A) → dot_from r (λ i. r.zero) j xs ≡ r.zero
dot_from-zero r j [] = refl
dot_from-zero r j (x ∷ xs) = ap (λ w. r.add (r.mul r.zero x) w) (dot_from-zero r (j + 1) xs) ∙ ring r (x ∷ []) (nil ⊗ var 0 ⊕ nil) nil refl

pub dot_from-add : {A : Type 0} → (r : CommutativeRing A) (f g : ℕ → A) (j : ℕ) (xs : List A) → dot_from r (λ i. r.add (f i) (g i)) j xs ≡ r.add (dot_from r f j xs) (dot_from r g j xs)
dot_from-add r f g j [] = sym (r.add_zero r.zero)
dot_from-add r f g j (x ∷ xs) =
    ap (λ w. r.add (r.mul (r.add (f j) (g j)) x) w) (dot_from-add r f g (j + 1) xs)
    ∙ ring r (f j ∷ g j ∷ x ∷ dot_from r f (j + 1) xs ∷ dot_from r g (j + 1) xs ∷ [])
    ((var 0 ⊕ var 1) ⊗ var 2 ⊕ (var 3 ⊕ var 4)) ((var 0 ⊗ var 2 ⊕ var 3) ⊕ (var 1 ⊗ var 2 ⊕ var 4)) refl

pub dot_from-mul : {A : Type 0} → (r : CommutativeRing A) (k : A) (f : ℕ → A) (j : ℕ) (xs : List A) → dot_from r (λ i. r.mul k (f i)) j xs ≡ r.mul k (dot_from r f j xs)
dot_from-mul r k f j [] = sym (mul_zero_right r k)
dot_from-mul r k f j (x ∷ xs) =
    ap (λ w. r.add (r.mul (r.mul k (f j)) x) w) (dot_from-mul r k f (j + 1) xs)
    ∙ ring r (k ∷ f j ∷ x ∷ dot_from r f (j + 1) xs ∷ []) ((var 0 ⊗ var 1) ⊗ var 2 ⊕ var 0 ⊗ var 3) (var 0 ⊗ (var 1 ⊗ var 2 ⊕ var 3)) refl

-- coefficients that are sums, as the sum of the dot products
pub dot_from-sum_over : {A X : Type 0} → (r : CommutativeRing A) (f : X → ℕ → A) (ws : List X) (j : ℕ) (xs : List A) →
    dot_from r (λ i. sum_over r (λ w. f w i) ws) j xs ≡ sum_over r (λ w. dot_from r (f w) j xs) ws
dot_from-sum_over r f [] j xs = dot_from-zero r j xs
dot_from-sum_over r f (w ∷ ws) j xs =
    dot_from-add r (f w) (λ i. sum_over r (λ v. f v i) ws) j xs
    ∙ ap (λ s. r.add (dot_from r (f w) j xs) s) (dot_from-sum_over r f ws j xs)

-- the coefficient b at column c alone
abbrev pub unit_at : {A : Type 0} → CommutativeRing A → ℕ → A → ℕ → A
unit_at r c b j = cond (eqb c j) b r.zero

unit_same : {A : Type 0} → (r : CommutativeRing A) (c : ℕ) (b : A) (j : ℕ) → c ≡ j → unit_at r c b j ≡ b
unit_same r c b j e = ap (λ t. cond t b r.zero) (eq-eqb c j e)

unit_other : {A : Type 0} → (r : CommutativeRing A) (c : ℕ) (b : A) (j : ℕ) → (c ≡ j → ⊥) → unit_at r c b j ≡ r.zero
unit_other r c b j n = by_test (eqb c j) refl
  where
    by_test : (t : Bool) → eqb c j ≡ t → cond t b r.zero ≡ r.zero
    by_test true e = absurd (n (eqb-true c j e))
    by_test false e = refl

dot_from-unit_past : {A : Type 0} → (r : CommutativeRing A) (c : ℕ) (b : A) (j : ℕ) (xs : List A) → c < j → dot_from r (unit_at r c b) j xs ≡ r.zero
dot_from-unit_past r c b j [] h = refl
dot_from-unit_past r c b j (x ∷ xs) h =
    ap (λ w. r.add (r.mul w x) (dot_from r (unit_at r c b) (j + 1) xs)) (unit_other r c b j (λ (p : c ≡ j). omega arith))
    ∙ ap (λ w. r.add (r.mul r.zero x) w) (dot_from-unit_past r c b (j + 1) xs (omega arith))
    ∙ ring r (x ∷ []) (nil ⊗ var 0 ⊕ nil) nil refl

pub dot_from-unit_at : {A : Type 0} → (r : CommutativeRing A) (c : ℕ) (b : A) (j k : ℕ) (xs : List A) → c ≡ j + k → dot_from r (unit_at r c b) j xs ≡ r.mul b (get_or xs k r.zero)
dot_from-unit_at r c b j k [] e = sym (mul_zero_right r b)
dot_from-unit_at r c b j zero (x ∷ xs) e =
    ap (λ w. r.add (r.mul w x) (dot_from r (unit_at r c b) (j + 1) xs)) (unit_same r c b j (omega arith))
    ∙ ap (λ w. r.add (r.mul b x) w) (dot_from-unit_past r c b (j + 1) xs (omega arith))
    ∙ add_zero_right r (r.mul b x)
dot_from-unit_at r c b j (suc k) (x ∷ xs) e =
    ap (λ w. r.add (r.mul w x) (dot_from r (unit_at r c b) (j + 1) xs)) (unit_other r c b j (λ (p : c ≡ j). omega arith))
    ∙ ap (λ w. r.add (r.mul r.zero x) w) (dot_from-unit_at r c b (j + 1) k xs (omega arith))
    ∙ ring r (x ∷ r.mul b (get_or xs k r.zero) ∷ []) (nil ⊗ var 0 ⊕ var 1) (var 1) refl

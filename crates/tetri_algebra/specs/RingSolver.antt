-- A solver of equations in a commutative ring: with the variables' values in a list,
-- `ring r values left right refl` proves that two expressions are equal where their normal forms are.
use Rattle.std.proofs.Common.{◌≡◌, ℕ, refl, sym, ap, ◌∙◌, Bool, true, false, cond, eqb, ltb, leb, List, [], ◌∷◌}
use Prim.Native.Nat.{zero, suc}
use Rattle.std.proofs.lemmas.Bool.{eqb-true, false≢true}
use lib.IntN.{ℤ, pos, negsuc, ◌+ℤ◌, ◌*ℤ◌}
use Rattle.tetri_algebra.specs.CommutativeRing.{CommutativeRing, swap_mul, swap_add, distrib_left, mul_zero_right, mul_pairs, add_zero_right, add_cancel, neg_is_times}

-- an expression over numbered variables
pub data Expr : Type 0 where
  var : ℕ → Expr
  num : ℤ → Expr
  nil : Expr
  unit : Expr
  plus : Expr → Expr → Expr
  times : Expr → Expr → Expr
  minus : Expr → Expr

infixl 6 ◌⊕◌
abbrev pub ◌⊕◌ : Expr → Expr → Expr
a ⊕ b = plus a b

infixl 7 ◌⊗◌
abbrev pub ◌⊗◌ : Expr → Expr → Expr
a ⊗ b = times a b

-- a sum of terms: a coefficient and the numbers of the variables, in order
pub data Polynomial : Type 0 where
  none : Polynomial
  term : ℤ → List ℕ → Polynomial → Polynomial

-- a variable's value, 0 past the end
abbrev pub value_at : {A : Type 0} → A → List A → ℕ → A
value_at z [] n = z
value_at z (x ∷ xs) zero = x
value_at z (x ∷ xs) (suc n) = value_at z xs n

-- what an expression means
abbrev pub eval : {A : Type 0} → CommutativeRing A → List A → Expr → A
eval r ρ (var n) = value_at r.zero ρ n
eval r ρ (num k) = r.of k
eval r ρ nil = r.zero
eval r ρ unit = r.one
eval r ρ (plus a b) = r.add (eval r ρ a) (eval r ρ b)
eval r ρ (times a b) = r.mul (eval r ρ a) (eval r ρ b)
eval r ρ (minus a) = r.neg (eval r ρ a)

-- ---- the computation
-- a variable into a monomial, in order
abbrev pub insert_variable : ℕ → List ℕ → List ℕ
insert_variable x [] = x ∷ []
insert_variable x (y ∷ ys) = cond (leb x y) (x ∷ (y ∷ ys)) (y ∷ insert_variable x ys)

-- the product of two monomials
abbrev pub monomial_product : List ℕ → List ℕ → List ℕ
monomial_product [] m = m
monomial_product (x ∷ xs) m = insert_variable x (monomial_product xs m)

-- whether two monomials are equal
abbrev pub same_monomial : List ℕ → List ℕ → Bool
same_monomial [] [] = true
same_monomial [] (y ∷ ys) = false
same_monomial (x ∷ xs) [] = false
same_monomial (x ∷ xs) (y ∷ ys) = cond (eqb x y) (same_monomial xs ys) false

-- the lexicographic order of monomials
abbrev pub precedes : List ℕ → List ℕ → Bool
precedes [] [] = false
precedes [] (y ∷ ys) = true
precedes (x ∷ xs) [] = false
precedes (x ∷ xs) (y ∷ ys) = cond (ltb x y) true (cond (eqb x y) (precedes xs ys) false)

-- one more term
abbrev pub add_term : ℤ → List ℕ → Polynomial → Polynomial
add_term k m none = term k m none
add_term k m (term j n p) = cond (same_monomial m n) (term (k +ℤ j) n p) (cond (precedes m n) (term k m (term j n p)) (term j n (add_term k m p)))

-- the sum
abbrev pub polynomial_sum : Polynomial → Polynomial → Polynomial
polynomial_sum none q = q
polynomial_sum (term k m p) q = add_term k m (polynomial_sum p q)

-- the product with one term
abbrev pub scaled_by_term : ℤ → List ℕ → Polynomial → Polynomial
scaled_by_term k m none = none
scaled_by_term k m (term j n p) = add_term (k *ℤ j) (monomial_product m n) (scaled_by_term k m p)

-- the product
abbrev pub polynomial_product : Polynomial → Polynomial → Polynomial
polynomial_product none q = none
polynomial_product (term k m p) q = polynomial_sum (scaled_by_term k m q) (polynomial_product p q)

-- the polynomial of an expression
abbrev pub normal_form : Expr → Polynomial
normal_form (var n) = term (pos 1) (n ∷ []) none
normal_form (num k) = term k [] none
normal_form nil = none
normal_form unit = term (pos 1) [] none
normal_form (plus a b) = polynomial_sum (normal_form a) (normal_form b)
normal_form (times a b) = polynomial_product (normal_form a) (normal_form b)
normal_form (minus a) = scaled_by_term (negsuc 0) [] (normal_form a)

-- whether a coefficient is 0
abbrev pub is_zero_number : ℤ → Bool
is_zero_number (pos n) = eqb n 0
is_zero_number (negsuc n) = false

-- whether all coefficients are 0
abbrev pub is_zero : Polynomial → Bool
is_zero none = true
is_zero (term k m p) = cond (is_zero_number k) (is_zero p) false

-- ---- what the results mean
-- what a monomial means
abbrev monomial_value : {A : Type 0} → CommutativeRing A → List A → List ℕ → A
monomial_value r ρ [] = r.one
monomial_value r ρ (x ∷ xs) = r.mul (value_at r.zero ρ x) (monomial_value r ρ xs)

-- what a polynomial means
abbrev polynomial_value : {A : Type 0} → CommutativeRing A → List A → Polynomial → A
polynomial_value r ρ none = r.zero
polynomial_value r ρ (term k m p) = r.add (r.mul (r.of k) (monomial_value r ρ m)) (polynomial_value r ρ p)

monomial_value-insert_variable : {A : Type 0} → (r : CommutativeRing A) (ρ : List A) (x : ℕ) (m : List ℕ) → monomial_value r ρ (insert_variable x m) ≡ r.mul (value_at r.zero ρ x) (monomial_value r ρ m)
monomial_value-insert_variable r ρ x [] = refl
monomial_value-insert_variable r ρ x (y ∷ ys) =
    let h = monomial_value-insert_variable r ρ x ys in
    elim (leb x y) as (λ t. monomial_value r ρ (cond t (x ∷ (y ∷ ys)) (y ∷ insert_variable x ys)) ≡ r.mul (value_at r.zero ρ x) (monomial_value r ρ (y ∷ ys))) [
      | true ↦ refl
      | false ↦ ap (λ a. r.mul (value_at r.zero ρ y) a) h ∙ swap_mul r (value_at r.zero ρ y) (value_at r.zero ρ x) (monomial_value r ρ ys)
    ]

monomial_value-monomial_product : {A : Type 0} → (r : CommutativeRing A) (ρ : List A) (m n : List ℕ) → monomial_value r ρ (monomial_product m n) ≡ r.mul (monomial_value r ρ m) (monomial_value r ρ n)
monomial_value-monomial_product r ρ [] n = sym (r.mul_one (monomial_value r ρ n))
monomial_value-monomial_product r ρ (x ∷ xs) n = monomial_value-insert_variable r ρ x (monomial_product xs n) ∙ ap (λ a. r.mul (value_at r.zero ρ x) a) (monomial_value-monomial_product r ρ xs n) ∙ sym (r.mul_assoc (value_at r.zero ρ x) (monomial_value r ρ xs) (monomial_value r ρ n))

and_true : (t b : Bool) → cond t b false ≡ true → (t ≡ true) × (b ≡ true)
and_true true b e = (refl, e)
and_true false b e = absurd (false≢true e)

same_monomial_is : (m n : List ℕ) → same_monomial m n ≡ true → m ≡ n
same_monomial_is [] [] e = refl
same_monomial_is [] (y ∷ ys) e = absurd (false≢true e)
same_monomial_is (x ∷ xs) [] e = absurd (false≢true e)
same_monomial_is (x ∷ xs) (y ∷ ys) e =
    let d = and_true (eqb x y) (same_monomial xs ys) e in
    let p = eqb-true x y d.0 in
    let q = same_monomial_is xs ys d.1 in
    cc

polynomial_value-add_term_same : {A : Type 0} → (r : CommutativeRing A) (ρ : List A) (k : ℤ) (m : List ℕ) (j : ℤ) (n : List ℕ) (p : Polynomial) → m ≡ n → polynomial_value r ρ (term (k +ℤ j) n p) ≡ r.add (r.mul (r.of k) (monomial_value r ρ m)) (polynomial_value r ρ (term j n p))
polynomial_value-add_term_same r ρ k m j n p e =
    let w = monomial_value r ρ n in
    let q = polynomial_value r ρ p in
    rw e (ap (λ a. r.add (r.mul a w) q) (r.of_add k j) ∙ ap (λ a. r.add a q) (r.distrib (r.of k) (r.of j) w) ∙ r.add_assoc (r.mul (r.of k) w) (r.mul (r.of j) w) q)

polynomial_value-add_term_by : {A : Type 0} → (r : CommutativeRing A) (ρ : List A) (k : ℤ) (m : List ℕ) (j : ℤ) (n : List ℕ) (p : Polynomial) (s : Bool) → same_monomial m n ≡ s → (b : Bool) →
    polynomial_value r ρ (add_term k m p) ≡ r.add (r.mul (r.of k) (monomial_value r ρ m)) (polynomial_value r ρ p) →
    polynomial_value r ρ (cond s (term (k +ℤ j) n p) (cond b (term k m (term j n p)) (term j n (add_term k m p)))) ≡ r.add (r.mul (r.of k) (monomial_value r ρ m)) (polynomial_value r ρ (term j n p))
polynomial_value-add_term_by r ρ k m j n p true e b h = polynomial_value-add_term_same r ρ k m j n p (same_monomial_is m n e)
polynomial_value-add_term_by r ρ k m j n p false e true h = refl
polynomial_value-add_term_by r ρ k m j n p false e false h = ap (λ a. r.add (r.mul (r.of j) (monomial_value r ρ n)) a) h ∙ swap_add r (r.mul (r.of j) (monomial_value r ρ n)) (r.mul (r.of k) (monomial_value r ρ m)) (polynomial_value r ρ p)

polynomial_value-add_term : {A : Type 0} → (r : CommutativeRing A) (ρ : List A) (k : ℤ) (m : List ℕ) (p : Polynomial) → polynomial_value r ρ (add_term k m p) ≡ r.add (r.mul (r.of k) (monomial_value r ρ m)) (polynomial_value r ρ p)
polynomial_value-add_term r ρ k m none = refl
polynomial_value-add_term r ρ k m (term j n p) =
    let h = polynomial_value-add_term r ρ k m p in
    polynomial_value-add_term_by r ρ k m j n p (same_monomial m n) refl (precedes m n) h

polynomial_value-polynomial_sum : {A : Type 0} → (r : CommutativeRing A) (ρ : List A) (p q : Polynomial) → polynomial_value r ρ (polynomial_sum p q) ≡ r.add (polynomial_value r ρ p) (polynomial_value r ρ q)
polynomial_value-polynomial_sum r ρ none q = sym (r.add_zero (polynomial_value r ρ q))
polynomial_value-polynomial_sum r ρ (term k m p) q = polynomial_value-add_term r ρ k m (polynomial_sum p q) ∙ ap (λ a. r.add (r.mul (r.of k) (monomial_value r ρ m)) a) (polynomial_value-polynomial_sum r ρ p q) ∙ sym (r.add_assoc (r.mul (r.of k) (monomial_value r ρ m)) (polynomial_value r ρ p) (polynomial_value r ρ q))

polynomial_value-scaled_by_term : {A : Type 0} → (r : CommutativeRing A) (ρ : List A) (k : ℤ) (m : List ℕ) (p : Polynomial) → polynomial_value r ρ (scaled_by_term k m p) ≡ r.mul (r.mul (r.of k) (monomial_value r ρ m)) (polynomial_value r ρ p)
polynomial_value-scaled_by_term r ρ k m none = sym (mul_zero_right r (r.mul (r.of k) (monomial_value r ρ m)))
polynomial_value-scaled_by_term r ρ k m (term j n p) =
    let s = r.mul (r.of k) (monomial_value r ρ m) in
    let t = r.mul (r.of j) (monomial_value r ρ n) in
    polynomial_value-add_term r ρ (k *ℤ j) (monomial_product m n) (scaled_by_term k m p)
    ∙ ap (λ a. r.add (r.mul a (monomial_value r ρ (monomial_product m n))) (polynomial_value r ρ (scaled_by_term k m p))) (r.of_mul k j)
    ∙ ap (λ a. r.add (r.mul (r.mul (r.of k) (r.of j)) a) (polynomial_value r ρ (scaled_by_term k m p))) (monomial_value-monomial_product r ρ m n)
    ∙ ap (λ a. r.add a (polynomial_value r ρ (scaled_by_term k m p))) (mul_pairs r (r.of k) (r.of j) (monomial_value r ρ m) (monomial_value r ρ n))
    ∙ ap (λ a. r.add (r.mul s t) a) (polynomial_value-scaled_by_term r ρ k m p)
    ∙ sym (distrib_left r s t (polynomial_value r ρ p))

polynomial_value-polynomial_product : {A : Type 0} → (r : CommutativeRing A) (ρ : List A) (p q : Polynomial) → polynomial_value r ρ (polynomial_product p q) ≡ r.mul (polynomial_value r ρ p) (polynomial_value r ρ q)
polynomial_value-polynomial_product r ρ none q = sym (r.mul_zero (polynomial_value r ρ q))
polynomial_value-polynomial_product r ρ (term k m p) q =
    let s = r.mul (r.of k) (monomial_value r ρ m) in
    polynomial_value-polynomial_sum r ρ (scaled_by_term k m q) (polynomial_product p q)
    ∙ ap (λ a. r.add a (polynomial_value r ρ (polynomial_product p q))) (polynomial_value-scaled_by_term r ρ k m q)
    ∙ ap (λ a. r.add (r.mul s (polynomial_value r ρ q)) a) (polynomial_value-polynomial_product r ρ p q)
    ∙ sym (r.distrib s (polynomial_value r ρ p) (polynomial_value r ρ q))

-- ---- the normal form means what the expression means
polynomial_value-normal_form : {A : Type 0} → (r : CommutativeRing A) (ρ : List A) (e : Expr) → polynomial_value r ρ (normal_form e) ≡ eval r ρ e
polynomial_value-normal_form r ρ (var n) =
    let x = value_at r.zero ρ n in
    add_zero_right r (r.mul (r.of (pos 1)) (r.mul x r.one)) ∙ ap (λ a. r.mul a (r.mul x r.one)) r.of_one ∙ r.mul_one (r.mul x r.one) ∙ r.mul_comm x r.one ∙ r.mul_one x
polynomial_value-normal_form r ρ (num k) = add_zero_right r (r.mul (r.of k) r.one) ∙ r.mul_comm (r.of k) r.one ∙ r.mul_one (r.of k)
polynomial_value-normal_form r ρ nil = refl
polynomial_value-normal_form r ρ unit = add_zero_right r (r.mul (r.of (pos 1)) r.one) ∙ ap (λ a. r.mul a r.one) r.of_one ∙ r.mul_one r.one
polynomial_value-normal_form r ρ (plus a b) = polynomial_value-polynomial_sum r ρ (normal_form a) (normal_form b) ∙ ap (λ x. r.add x (polynomial_value r ρ (normal_form b))) (polynomial_value-normal_form r ρ a) ∙ ap (λ x. r.add (eval r ρ a) x) (polynomial_value-normal_form r ρ b)
polynomial_value-normal_form r ρ (times a b) = polynomial_value-polynomial_product r ρ (normal_form a) (normal_form b) ∙ ap (λ x. r.mul x (polynomial_value r ρ (normal_form b))) (polynomial_value-normal_form r ρ a) ∙ ap (λ x. r.mul (eval r ρ a) x) (polynomial_value-normal_form r ρ b)
polynomial_value-normal_form r ρ (minus a) =
    polynomial_value-scaled_by_term r ρ (negsuc 0) [] (normal_form a)
    ∙ ap (λ x. r.mul x (polynomial_value r ρ (normal_form a))) (r.mul_comm (r.of (negsuc 0)) r.one ∙ r.mul_one (r.of (negsuc 0)))
    ∙ ap (λ x. r.mul (r.of (negsuc 0)) x) (polynomial_value-normal_form r ρ a)
    ∙ neg_is_times r (eval r ρ a)

is_zero_number_is : (k : ℤ) → is_zero_number k ≡ true → k ≡ pos 0
is_zero_number_is (pos n) e = ap pos (eqb-true n 0 e)
is_zero_number_is (negsuc n) e = absurd (false≢true e)

polynomial_value_zero : {A : Type 0} → (r : CommutativeRing A) (ρ : List A) (p : Polynomial) → is_zero p ≡ true → polynomial_value r ρ p ≡ r.zero
polynomial_value_zero r ρ none e = refl
polynomial_value_zero r ρ (term k m p) e =
    let d = and_true (is_zero_number k) (is_zero p) e in
    ap (λ x. r.add (r.mul x (monomial_value r ρ m)) (polynomial_value r ρ p)) (ap r.of (is_zero_number_is k d.0) ∙ r.of_zero)
    ∙ ap (λ x. r.add x (polynomial_value r ρ p)) (r.mul_zero (monomial_value r ρ m))
    ∙ r.add_zero (polynomial_value r ρ p)
    ∙ polynomial_value_zero r ρ p d.1

-- two expressions with the same normal form are equal
pub ring : {A : Type 0} → (r : CommutativeRing A) (ρ : List A) (a b : Expr) → is_zero (normal_form (plus a (minus b))) ≡ true → eval r ρ a ≡ eval r ρ b
ring r ρ a b e =
    let x = eval r ρ a in
    let y = eval r ρ b in
    let z : r.add x (r.neg y) ≡ r.zero = sym (polynomial_value-normal_form r ρ (plus a (minus b))) ∙ polynomial_value_zero r ρ (normal_form (plus a (minus b))) e in
    add_cancel r (r.neg y) x y (r.add_comm (r.neg y) x ∙ z ∙ sym (r.neg_add y))

-- Commutative rings: the laws, with the whole numbers mapped into the ring.
use Rattle.std.proofs.Common.{◌≡◌, sym, ap, ◌∙◌}
use lib.IntN.{ℤ, pos, negsuc, ◌+ℤ◌, ◌*ℤ◌}

-- the operations of a commutative ring, `of` from the whole numbers, and their laws
pub record CommutativeRing (A : Type 0) : Type 0 where
  pub zero : A
  pub one : A
  pub add : A → A → A
  pub mul : A → A → A
  pub neg : A → A
  pub of : ℤ → A
  pub add_zero : (a : A) → add zero a ≡ a
  pub add_comm : (a b : A) → add a b ≡ add b a
  pub add_assoc : (a b c : A) → add (add a b) c ≡ add a (add b c)
  pub neg_add : (a : A) → add (neg a) a ≡ zero
  pub mul_one : (a : A) → mul one a ≡ a
  pub mul_zero : (a : A) → mul zero a ≡ zero
  pub mul_comm : (a b : A) → mul a b ≡ mul b a
  pub mul_assoc : (a b c : A) → mul (mul a b) c ≡ mul a (mul b c)
  pub distrib : (a b c : A) → mul (add a b) c ≡ add (mul a c) (mul b c)
  pub of_zero : of (pos 0) ≡ zero
  pub of_one : of (pos 1) ≡ one
  pub of_add : (j k : ℤ) → of (j +ℤ k) ≡ add (of j) (of k)
  pub of_mul : (j k : ℤ) → of (j *ℤ k) ≡ mul (of j) (of k)

-- a * (b * c) = b * (a * c), and the same of sums
pub swap_mul : {A : Type 0} → (r : CommutativeRing A) (a b c : A) → r.mul a (r.mul b c) ≡ r.mul b (r.mul a c)
swap_mul r a b c = sym (r.mul_assoc a b c) ∙ ap (λ x. r.mul x c) (r.mul_comm a b) ∙ r.mul_assoc b a c

pub swap_add : {A : Type 0} → (r : CommutativeRing A) (a b c : A) → r.add a (r.add b c) ≡ r.add b (r.add a c)
swap_add r a b c = sym (r.add_assoc a b c) ∙ ap (λ x. r.add x c) (r.add_comm a b) ∙ r.add_assoc b a c

pub distrib_left : {A : Type 0} → (r : CommutativeRing A) (a b c : A) → r.mul a (r.add b c) ≡ r.add (r.mul a b) (r.mul a c)
distrib_left r a b c = r.mul_comm a (r.add b c) ∙ r.distrib b c a ∙ ap (λ x. r.add x (r.mul c a)) (r.mul_comm b a) ∙ ap (λ x. r.add (r.mul a b) x) (r.mul_comm c a)

pub mul_zero_right : {A : Type 0} → (r : CommutativeRing A) (a : A) → r.mul a r.zero ≡ r.zero
mul_zero_right r a = r.mul_comm a r.zero ∙ r.mul_zero a

-- (a * b) * (c * d) = (a * c) * (b * d)
pub mul_pairs : {A : Type 0} → (r : CommutativeRing A) (a b c d : A) → r.mul (r.mul a b) (r.mul c d) ≡ r.mul (r.mul a c) (r.mul b d)
mul_pairs r a b c d = r.mul_assoc a b (r.mul c d) ∙ ap (λ x. r.mul a x) (swap_mul r b c d) ∙ sym (r.mul_assoc a c (r.mul b d))

pub add_zero_right : {A : Type 0} → (r : CommutativeRing A) (a : A) → r.add a r.zero ≡ a
add_zero_right r a = r.add_comm a r.zero ∙ r.add_zero a

pub add_cancel : {A : Type 0} → (r : CommutativeRing A) (a b c : A) → r.add a b ≡ r.add a c → b ≡ c
add_cancel r a b c e =
    sym (r.add_zero b) ∙ ap (λ x. r.add x b) (sym (r.neg_add a)) ∙ r.add_assoc (r.neg a) a b
    ∙ ap (λ x. r.add (r.neg a) x) e
    ∙ sym (r.add_assoc (r.neg a) a c) ∙ ap (λ x. r.add x c) (r.neg_add a) ∙ r.add_zero c

pub neg_is_times : {A : Type 0} → (r : CommutativeRing A) (a : A) → r.mul (r.of (negsuc 0)) a ≡ r.neg a
neg_is_times r a =
    let s : r.add a (r.mul (r.of (negsuc 0)) a) ≡ r.zero =
    ap (λ x. r.add x (r.mul (r.of (negsuc 0)) a)) (sym (r.mul_one a) ∙ ap (λ x. r.mul x a) (sym r.of_one))
    ∙ sym (r.distrib (r.of (pos 1)) (r.of (negsuc 0)) a)
    ∙ ap (λ x. r.mul x a) (sym (r.of_add (pos 1) (negsuc 0)) ∙ r.of_zero)
    ∙ r.mul_zero a in
    add_cancel r a (r.mul (r.of (negsuc 0)) a) (r.neg a) (s ∙ sym (r.add_comm a (r.neg a) ∙ r.neg_add a))

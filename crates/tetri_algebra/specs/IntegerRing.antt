-- The whole numbers as a commutative ring.
use Rattle.std.proofs.Common.{refl}
use lib.IntN.{ℤ, pos, ◌+ℤ◌, ◌*ℤ◌, neg_ℤ, *ℤ_comm, +ℤ_assoc, +ℤ_comm, +ℤ_idl, +ℤ_invl, zero-*ℤ}
use Rattle.tetri_algebra.specs.Integers.{*ℤ-distrib_right, *ℤ_assoc, one-*ℤ}
use Rattle.tetri_algebra.specs.CommutativeRing.{CommutativeRing}

-- the whole numbers
abbrev pub ℤ_ring : CommutativeRing ℤ
ℤ_ring = record {
  zero = pos 0;
  one = pos 1;
  add = ◌+ℤ◌;
  mul = ◌*ℤ◌;
  neg = neg_ℤ;
  of = λ k. k;
  add_zero = +ℤ_idl;
  add_comm = +ℤ_comm;
  add_assoc = +ℤ_assoc;
  neg_add = +ℤ_invl;
  mul_one = one-*ℤ;
  mul_zero = zero-*ℤ;
  mul_comm = *ℤ_comm;
  mul_assoc = *ℤ_assoc;
  distrib = *ℤ-distrib_right;
  of_zero = refl;
  of_one = refl;
  of_add = λ j k. refl;
  of_mul = λ j k. refl;
}

-- A root, by its parts.
use Rattle.std.proofs.Common.{◌≡◌, ℕ, List, Result, Ok, Err}
use lib.IntN.{ℤ}
use Rattle.tetri_ip.specs.declared.programs.Weight.{Weight}
use Rattle.tetri_ip.specs.declared.programs.WeighFault.{WeighFault}
use Rattle.tetri_cuts.specs.Tightening.{PlainRoot}

abbrev pub root_with : ℤ → List Weight → ℕ → PlainRoot
root_with q ws bound = record { q = q; weights = ws; bound = bound }

pub err_is_not_ok : (e : WeighFault) (z : ℤ) (r : Result ℤ WeighFault) → r ≡ Err e → r ≡ Ok z → ⊥
err_is_not_ok e z r f g = cc

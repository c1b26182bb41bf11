-- Forms and rows at a point.
use Rattle.std.proofs.Common.{◌≡◌, ℕ, ◌+◌, ◌*◌, List, [], ◌∷◌, ◌++◌, length, map, refl, sym, subst, arith}
use Rattle.std.proofs.Math.Nat.{mul-zero}
use Rattle.tetri_base.specs.Lists.{sum_of}
use Rattle.tetri_base.proofs.ListLaws.{sum_of-append}
use Rattle.tetri_compile.specs.Forms.{Form, at_point, times, run, Limit, AreMet, Reads, Within}

module _ (x : ℕ → ℕ) where
  pub at_point-append : (f g : Form) → at_point x (f ++ g) ≡ at_point x f + at_point x g
  at_point-append f g = sum_of-append (λ s. s.by * x s.column) f g

  pub at_point-times : (s : ℕ) (f : Form) → at_point x (times s f) ≡ s * at_point x f
  at_point-times s [] = sym (mul-zero s)
  at_point-times s (p ∷ ps) = omega (arith, at_point-times s ps)

  -- columns with one coefficient
  pub at_point-run : {X : Type 0} (b n : ℕ) (xs : List X) → at_point x (run b n xs) ≡ b * at_point x (run 1 n xs)
  at_point-run b n [] = sym (mul-zero b)
  at_point-run b n (y ∷ xs) = omega (arith, at_point-run b (n + 1) xs)

  pub run-reads : {X : Type 0} (f : X → ℕ) (n : ℕ) (xs : List X) → Reads x n (map f xs) → at_point x (run 1 n xs) ≡ sum_of f xs
  run-reads f n [] h = refl
  run-reads f n (y ∷ xs) h = omega (arith, h.0, run-reads f (n + 1) xs h.1)

  pub Reads-split : (n m : ℕ) (vs ws : List ℕ) → length vs ≡ m → Reads x n (vs ++ ws) → Reads x n vs × Reads x (n + m) ws
  Reads-split n m [] ws e h = (tt, subst (λ k. Reads x k ws) (omega arith) h)
  Reads-split n m (v ∷ vs) ws e h =
      let rest = Reads-split (n + 1) (length vs) vs ws refl h.1 in
      ((h.0, rest.0), subst (λ k. Reads x k ws) (omega arith) rest.1)

  pub Within-split : (n : ℕ) (vs ws : List ℕ) → Within x n (vs ++ ws) → Within x n vs × Within x (n + length vs) ws
  Within-split n [] ws h = (tt, subst (λ k. Within x k ws) (omega arith) h)
  Within-split n (v ∷ vs) ws h =
      let rest = Within-split (n + 1) vs ws h.1 in
      ((h.0, rest.0), subst (λ k. Within x k ws) (omega arith) rest.1)

  pub AreMet-append : (rs ss : List Limit) → AreMet x rs → AreMet x ss → AreMet x (rs ++ ss)
  AreMet-append [] ss h k = k
  AreMet-append (r ∷ rs) ss h k = (h.0, AreMet-append rs ss h.1 k)

  pub AreMet-split : (rs ss : List Limit) → AreMet x (rs ++ ss) → AreMet x rs × AreMet x ss
  AreMet-split [] ss h = (tt, h)
  AreMet-split (r ∷ rs) ss h = let rest = AreMet-split rs ss h.1 in ((h.0, rest.0), rest.1)

use Rattle.std.proofs.Common.{ℕ, ◌≡◌, ◌++◌, drop, map}
use Rattle.std.specs.Prelude.{pos}
use Rattle.tetri_wide.proofs.flattening.zeros.Given as goal

abbrev pub invariant-loop : goal.invariant-loop
invariant-loop l = l.bounds.items ++ map (λ (u : ℕ). pos 0) (drop l.index l.uppers) ≡ map (λ (u : ℕ). pos 0) l.uppers

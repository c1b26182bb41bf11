use Rattle.std.proofs.Common.{◌≡◌, ℕ, ◌<◌, get_or}
use Rattle.std.specs.Prelude.{pos}
use Rattle.tetri_rows.specs.Terms.{term_at}
use Rattle.tetri_rows.proofs.terms.write_terms.Given as goal

abbrev pub invariant-loop-k : goal.invariant-loop-k
invariant-loop-k l = record {
  done : (q : ℕ) → q < l.k → get_or l.row (get_or l.places q 0) (pos 0) ≡ term_at l.f l.fn.row l.places l.numbers q;
  other : (p : ℕ) → ((q : ℕ) → q < l.k → get_or l.places q 0 ≡ p → ⊥) → get_or l.row p (pos 0) ≡ get_or l.fn.row p (pos 0);
}

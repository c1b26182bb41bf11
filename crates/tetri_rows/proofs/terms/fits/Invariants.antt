use Rattle.std.proofs.Common.{ℕ, ◌<◌}
use Rattle.tetri_rows.specs.Small.{IsShort}
use Rattle.tetri_rows.specs.Terms.{term_at}
use Rattle.tetri_rows.proofs.terms.fits.Given as goal

abbrev pub invariant-loop-k : goal.invariant-loop-k
invariant-loop-k l = (q : ℕ) → q < l.k → IsShort (term_at l.f l.row l.places l.numbers q)

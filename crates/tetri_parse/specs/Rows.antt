-- Items one after the other.
use Rattle.std.specs.Prelude.{ℕ, zero, suc, Bool, if◌then◌else◌, List, [], ◌∷◌, Result, Ok, Err}
use Rattle.tetri_base.specs.ResultSteps.{◌>>=◌}
use Rattle.tetri_parse.specs.declared.fault.Fault.TheVariants.{Ended}
use Rattle.tetri_parse.specs.declared.fault.Miss.{Miss}

-- at most n items, as long as they go on; each takes a byte, so that n is not reached where it is the number of bytes
unfoldable pub row_at : {S A : Type 0} → (S → Result (A × S) Miss) → (S → Result (Bool × S) Miss) → ℕ → S → Result (List A × S) Miss
row_at item goes_on zero s = Err (record { fault = Ended; left = 0 })
row_at item goes_on (suc n) s = do
  first ← item s
  next ← goes_on first.1
  if next.0 then (do
    others ← row_at item goes_on n next.1
    Ok (first.0 ∷ others.0, others.1)) else Ok (first.0 ∷ [], next.1)

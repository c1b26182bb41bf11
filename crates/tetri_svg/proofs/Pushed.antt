-- What a push of a text leaves.
use Rattle.std.proofs.Common.{◌≡◌, List, ℕ, ◌++◌, Result, Ok, Err}
use Rattle.std.specs.Prelude.{OnOk, is_ok, if◌then◌else◌}

pub pushed : {T E : Type 0} (r : Result T E) (before after text : List ℕ) → after ≡ (if is_ok r then before ++ text else before) → OnOk r (after ≡ before ++ text)
pushed (Ok x) before after text h = h
pushed (Err e) before after text h = tt

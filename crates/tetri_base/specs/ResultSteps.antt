-- A step after a step that may fail.
use Rattle.std.specs.Prelude.{Result, Ok, Err}

abbrev pub then_ok : {A B E : Type 0} → Result A E → (A → Result B E) → Result B E
then_ok (Ok x) f = f x
then_ok (Err e) f = Err e

infixl 10 ◌>>=◌
abbrev pub ◌>>=◌ : {A B E : Type 0} → Result A E → (A → Result B E) → Result B E
r >>= f = then_ok r f

-- The object that a line is.
use Rattle.std.proofs.Common.{◌≡◌, ℕ, Bool, true, false, cond, List, refl, Some, None, is_some, ok_or, Ok, Err}
use Rattle.std.specs.Str.{IsUtf8, is_utf8}
use Rattle.std.proofs.lemmas.Str.{IsUtf8-from_is_utf8, is_utf8-from_IsUtf8}
use Rattle.serde_json.specs.Data.{Data}
use Rattle.serde_json.specs.Read.{read}
use Rattle.serde_json.specs.Find.{as_object}
use Rattle.tetri_base.specs.ResultSteps.{◌>>=◌}
use Rattle.tetri_notice.specs.Fields.{object_in}
use Rattle.tetri_notice.specs.declared.fault.TraceWhy.TheVariants.{NotJson, NotObject}

refused : (line : List ℕ) (b : Bool) → (b ≡ true → read line ≡ None) → (cond b (ok_or (read line) NotJson) (Err NotJson) >>= λ value. cond (is_some (as_object value)) (Ok value) (Err NotObject)) ≡ Err NotJson
refused line true h = rw (h refl) refl
refused line false h = refl

pub not_json : (line : List ℕ) → (IsUtf8 line → read line ≡ None) → object_in line ≡ Err NotJson
unfolding object_in
not_json line h = refused line (is_utf8 line) (λ e. h (IsUtf8-from_is_utf8 line e))

pub is_json : (line : List ℕ) (d : Data) → IsUtf8 line → read line ≡ Some d → object_in line ≡ cond (is_some (as_object d)) (Ok d) (Err NotObject)
unfolding object_in
is_json line d u e = rw (is_utf8-from_IsUtf8 line u, e) refl

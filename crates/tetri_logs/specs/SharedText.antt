-- A text that is shared.
use Rattle.std.specs.Prelude.{ℕ, List, [], Option, Some, None, String, string_bytes}
use Rattle.std.specs.declared.alloc.Global.{Global}
use Rattle.std.specs.declared.rc.Rc.{Rc}

-- the bytes of a text, if there is one
abbrev pub shared_bytes : Option (Rc (String Global) Global) → List ℕ
shared_bytes None = []
shared_bytes (Some text) = string_bytes text.value

-- What words ask of the program itself.
use Rattle.std.specs.Prelude.{ℕ, List, [], ◌∷◌, Option, Some, None, if◌then◌else◌, bytes_eq, codes}
use Rattle.tetri_about.specs.declared.itself.Itself.{Itself}
use Rattle.tetri_about.specs.declared.itself.Itself.TheVariants.{Help, Version}

-- `--help` alone, or `--version` alone
abbrev pub asked_of_itself : List (List ℕ) → Option Itself
asked_of_itself (word ∷ []) =
    if bytes_eq word (codes "--help") then Some Help
    else (if bytes_eq word (codes "--version") then Some Version else None)
asked_of_itself words = None

-- The text of a program in a format.
use Rattle.std.specs.Prelude.{ℕ, List}
use Rattle.tetri_compile.specs.Flat.{FlatProgram}
use Rattle.tetri_export.specs.Lp.{lp_text}
use Rattle.tetri_export.specs.Mps.{mps_text}
use Rattle.tetri_export.specs.declared.format.Format.{Format}
use Rattle.tetri_export.specs.declared.format.Format.TheVariants.{Lp, Mps}

-- by the names of its columns and of its rows
abbrev pub text_in : Format → List (List ℕ) → List (List ℕ) → FlatProgram → List ℕ
text_in Lp columns names p = lp_text columns names p
text_in Mps columns names p = mps_text columns names p

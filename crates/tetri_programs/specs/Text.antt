-- Texts that tell the program of an instance.
use Rattle.std.specs.Prelude.{◌≡◌, ◌++◌, List, ℕ}
use Rattle.tetri_cluster.specs.declared.cluster.NodeText.{NodeText}
use Rattle.tetri_compile.specs.Flat.{program_of}
use Rattle.tetri_export.specs.Format.{text_in}
use Rattle.tetri_export.specs.declared.format.Format.{Format}
use Rattle.tetri_space.specs.Space.{Space}
use Rattle.tetri_programs.specs.Head.{head_text}

-- Behind the head, which tells the partitions by the names of the cluster's nodes, stands the program of the instance in this format,
-- its columns and rows under some names.
pub record TellsProgram (f : Format) (nodes : List NodeText) (s : Space) (text : List ℕ) : Type 0 where
  pub columns : List (List ℕ)
  pub rows : List (List ℕ)
  pub is : text ≡ head_text f nodes s ++ text_in f columns rows (program_of s)

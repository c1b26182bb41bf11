-- What the shelf over files counts.
use Rattle.std.specs.Prelude.{ℕ, List, Option, None}
use Rattle.tetri_io.specs.declared.file_shelf.FileShelf.{FileShelf}

-- how many reads failed, at a runtime R with its types of files
abbrev pub fault_count : {R A B : Type 0} → FileShelf R A B → ℕ
fault_count s = s.faults

-- It tells no content.
abbrev pub told_content : {R A B : Type 0} → FileShelf R A B → List ℕ → Option (List ℕ)
told_content s name = None

-- What the shelf over pipes and files keeps and counts.
use Rattle.std.specs.Prelude.{ℕ, List, Option, option_map, string_bytes}
use Rattle.std.specs.BTreeMap.{get_by_text}
use Rattle.tetri_io.specs.FileShelf.{fault_count as failed_reads}
use Rattle.tetri_pipes.specs.declared.pipe_shelf.PipeShelf.{PipeShelf}

-- what was read whole of a name, at a runtime R with its types of files and readers
abbrev pub kept : {R A B C : Type 0} → PipeShelf R A B C → List ℕ → Option (List ℕ)
kept s name = option_map (λ v. v.items) (get_by_text s.names name)

-- how many reads failed
abbrev pub fault_count : {R A B C : Type 0} → PipeShelf R A B C → ℕ
fault_count s = failed_reads s.files

-- the name of which a read failed last, if there was memory to keep it
abbrev pub failed_name : {R A B C : Type 0} → PipeShelf R A B C → Option (List ℕ)
failed_name s = option_map string_bytes s.failed

-- The name of a job.
use Rattle.std.specs.Prelude.{◌≡◌, ℕ, List, true}
use Rattle.tetri_cluster.specs.Names.{is_name}
use Rattle.tetri_logs.specs.declared.job_name.NameBytes.{NameBytes}
use Rattle.tetri_logs.specs.declared.job_name.NameBytes.TheVariants.{Lent, Made}

-- the bytes of a name, borrowed or in memory of its own
abbrev pub name_bytes : NameBytes → List ℕ
name_bytes (Lent bytes) = bytes.now
name_bytes (Made name) = name.value

-- borrowed bytes are a name
abbrev pub IsLentName : NameBytes → Type 0
IsLentName (Lent bytes) = is_name bytes.now ≡ true
IsLentName (Made name) = Unit {0}

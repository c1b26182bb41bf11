-- What of an allotment earns something for the jobs of an instance.
use Rattle.std.specs.Prelude.{List, All}
use Rattle.std.specs.List.{flat_map}
use Rattle.tetri_strl.specs.Thrifty.{IsThriftyFor}
use Rattle.tetri_strl.specs.Trim.{trimmed}
use Rattle.tetri_strl.specs.declared.grants.Grant.{Grant}
use Rattle.tetri_space.specs.Space.{Space}

-- no grant of any job is wasted
abbrev pub IsThriftyForAll : Space → List Grant → Type 0
IsThriftyForAll s a = All (λ b. IsThriftyFor a b.job b.expr) s.bids

-- what of each job's grants earns something, job by job
abbrev pub all_trimmed : Space → List Grant → List Grant
all_trimmed s a = flat_map (λ b. trimmed a b.job b.expr) s.bids

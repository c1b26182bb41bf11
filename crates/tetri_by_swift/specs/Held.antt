-- Allotments that may be planned.
use Rattle.std.specs.Prelude.{◌≡◌}
use Rattle.tetri_by_swift.specs.declared.planning.Candidate.{Candidate}
use Rattle.tetri_space.specs.Lawful.{IsLawful}
use Rattle.tetri_space.specs.Space.{Space}
use Rattle.tetri_space.specs.Total.{total_in}
use Rattle.tetri_space.specs.Trimmed.{IsThriftyForAll}

-- the grants are lawful and thrifty, and worth so much
pub record IsHeld (s : Space) (c : Candidate) : Type 0 where
  pub lawful : IsLawful s c.grants
  pub thrifty : IsThriftyForAll s c.grants
  pub worth : c.worth ≡ total_in s c.grants

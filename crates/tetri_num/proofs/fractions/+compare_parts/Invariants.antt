use Rattle.std.proofs.Common.{◌+◌}
use Rattle.std.specs.Prelude.{unsigned_abs}
use Rattle.tetri_num.proofs.fractions.+compare_parts.Given as goal

abbrev pub decreases-compare_parts : goal.decreases-compare_parts
decreases-compare_parts l = unsigned_abs l.b + unsigned_abs l.d

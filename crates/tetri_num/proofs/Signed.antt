-- Rules for the code of this crate: those for signed numbers, and that a common divisor is in range.
use Rattle.tetri_algebra.proofs.SignLaws as numbers
use Rattle.tetri_num.proofs.Common.{common_positive, common_within}

pub ruleset signed = (numbers.signed, common_positive, common_within)

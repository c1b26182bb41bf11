-- Rules for code on signed numbers.
use Rattle.tetri_algebra.proofs.SignLaws as numbers

pub ruleset signed = (numbers.signed)

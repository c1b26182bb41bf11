-- Rules for code on signed numbers: a value that a call passes is read from its bits.
use Rattle.std.proofs.lemmas.Int.{to_z-of_z, to_z_pos}

pub ruleset signed = (to_z-of_z, to_z_pos)

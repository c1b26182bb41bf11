use Rattle.std.proofs.Common.{◌≡◌, option_map}
use Rattle.tetri_io.specs.Words.{parts_at}
use Rattle.tetri_cert.specs.Lists.{entries_from, onto, parts_left}
use Rattle.tetri_cert.specs.Pairs.{weight_in, weight_key}
use Rattle.tetri_cert.proofs.HalvesBack.{bytes_left}
use Rattle.tetri_cert.proofs.lists.weights_from.Given as goal

abbrev pub invariant-loop-left : goal.invariant-loop-left
invariant-loop-left l = onto l.read (entries_from weight_in weight_key l.least (parts_left (option_map (λ rest. rest.now) l.left))) ≡ entries_from weight_in weight_key 0 (parts_at 44 l.word)

abbrev pub decreases-loop-left : goal.decreases-loop-left
decreases-loop-left l = bytes_left (option_map (λ rest. rest.now) l.left)

use Rattle.std.proofs.Common.{◌≡◌, ◌+◌, drop}
use Rattle.std.specs.List.{prefix_len}
use Rattle.tetri_parse.specs.Tokens.{stands}
use Rattle.tetri_parse.proofs.token.run_of.Given as goal

abbrev pub invariant-loop-i : goal.invariant-loop-i
invariant-loop-i l = prefix_len (stands l.class) l.text ≡ l.i + prefix_len (stands l.class) (drop l.i l.text)

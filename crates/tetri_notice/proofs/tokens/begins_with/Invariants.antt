use Rattle.std.proofs.Common.{◌≡◌, take}
use Rattle.std.specs.Prelude.{◌↔◌, IsTrue}
use Rattle.tetri_notice.proofs.tokens.begins_with.Given as goal

abbrev pub invariant-loop-i : goal.invariant-loop-i
invariant-loop-i l = IsTrue l.same ↔ (take l.i l.text ≡ take l.i l.front)

use Rattle.std.proofs.Common.{◌≡◌, ◌++◌, take, string_bytes}
use Rattle.std.specs.Prelude.{flat_map}
use Rattle.tetri_cert.specs.NodeText.{node_line}
use Rattle.tetri_cert.proofs.certificate.print_marks.Given as goal

abbrev pub invariant-loop-mark : goal.invariant-loop-mark
invariant-loop-mark l = string_bytes l.out ≡ string_bytes l.initial.out ++ flat_map node_line (take l.mark-index l.marks)

use Rattle.std.proofs.Common.{◌≡◌, take}
use Rattle.std.specs.Prelude.{flat_map}
use Rattle.tetri_accounts.proofs.text.nodes_of.Given as goal

abbrev pub invariant-loop-piece : goal.invariant-loop-piece
invariant-loop-piece l = l.nodes.items ≡ flat_map (λ p. p.nodes) (take l.piece-index l.pieces)

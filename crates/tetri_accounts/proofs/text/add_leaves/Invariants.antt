use Rattle.std.proofs.Common.{◌≡◌, ◌++◌, take, map, string_bytes}
use Rattle.std.specs.Prelude.{decimal, flat_map}
use Rattle.tetri_report.specs.Text.{after_comma}
use Rattle.tetri_accounts.proofs.text.add_leaves.Given as goal

abbrev pub invariant-loop-piece : goal.invariant-loop-piece
invariant-loop-piece l = string_bytes l.out ≡ string_bytes l.initial.out ++ flat_map after_comma (map (λ p. decimal p.leaf) (take l.piece-index l.others))

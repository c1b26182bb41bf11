use Rattle.std.proofs.Common.{◌≡◌, ◌++◌}
use Rattle.tetri_hosts.proofs.expansion.Expansion.add_texts.Given as goal

abbrev pub invariant-loop-text : goal.invariant-loop-text
invariant-loop-text l = l.self ≡ record l.initial.self { texts = l.initial.self.texts ++ l.yielded }

use Rattle.std.proofs.Common.{◌≡◌, ℕ, ◌<◌, ◌≤◌, length}
use Rattle.tetri_space.specs.steps.Finding.{IsSigned}
use Rattle.tetri_base.specs.Lists.{list_at}
use Rattle.tetri_space.specs.Space.{space}
use Rattle.tetri_space.proofs.finding.sign_each.Given as goal

abbrev pub invariant-loop-node : goal.invariant-loop-node
invariant-loop-node l = record {
  count : length l.signatures.items ≡ l.inst.nodes;
  signed : (n : ℕ) → n < l.node → IsSigned (space l.inst) l.base n (list_at l.fn.signatures.items n) (list_at l.signatures.items n);
  rest : (n : ℕ) → l.node ≤ n → list_at l.signatures.items n ≡ list_at l.fn.signatures.items n;
}

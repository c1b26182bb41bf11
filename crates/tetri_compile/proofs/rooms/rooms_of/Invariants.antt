use Rattle.std.proofs.Common.{◌≡◌, ◌<◌, ℕ, length}
use Rattle.std.specs.Prelude.{nat_le}
use Rattle.std.specs.List.Sorted.{IsNonDecreasing}
use Rattle.tetri_base.specs.Lists.{count, list_at}
use Rattle.tetri_space.specs.Space.{space}
use Rattle.tetri_compile.specs.steps.Room.{idle_count}
use Rattle.tetri_compile.proofs.rooms.rooms_of.Given as goal

abbrev pub invariant-loop-part : goal.invariant-loop-part
invariant-loop-part l = record {
  many : length l.since.items ≡ l.part;
  ascending : (p : ℕ) → p < l.part → IsNonDecreasing (list_at l.since.items p);
  idle : (p t : ℕ) → p < l.part → count (λ b. nat_le b t) (list_at l.since.items p) ≡ idle_count (space l.inst) p t;
}

use Rattle.std.proofs.Common.{◌≡◌, length, reverse, vec_len, All, ◌<◌}
use Rattle.tetri_ip.specs.Points.{bounds_of}
use Rattle.tetri_cert.specs.Turns.{pending}
use Rattle.tetri_cert.proofs.turns.turn_back.Given as goal

abbrev pub invariant-loop-turn : goal.invariant-loop-turn
invariant-loop-turn l = record {
  next : pending (bounds_of l.region) (reverse l.trail.items) ≡ pending (bounds_of l.fn.region) (reverse l.fn.trail.items);
  columns : All (λ t. t.column < length l.region.lower.items) l.trail.items;
  lower : length l.region.lower.items ≡ length l.fn.region.lower.items;
  upper : length l.region.upper.items ≡ length l.region.lower.items;
}

abbrev pub decreases-loop-turn : goal.decreases-loop-turn
decreases-loop-turn l = vec_len l.trail

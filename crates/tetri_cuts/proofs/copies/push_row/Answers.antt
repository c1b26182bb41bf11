use Rattle.std.proofs.Common.{refl}
use Rattle.tetri_cuts.proofs.copies.push_row.Goals as goal

pub returns : goal.returns
returns c = record { costs = refl; lower = refl; upper = refl; last = c.in_ok-copy.copy; rows = c.in_ok-push.ensures.items; terms = c.in_ok-copy.ensures.terms; right = c.in_ok-copy.ensures.right }

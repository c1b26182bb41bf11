use Rattle.std.proofs.Common.{arith}
use Rattle.tetri_make.proofs.jobs.request.Goals as goal

pub any_share-requires-clause-shape : goal.any_share-requires-clause-shape
any_share-requires-clause-shape c = omega (arith, c.in_default)

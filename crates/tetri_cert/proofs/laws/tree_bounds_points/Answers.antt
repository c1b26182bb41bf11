use Rattle.tetri_cert.proofs.Covers.{tree_bound_holds}
use Rattle.tetri_cert.proofs.laws.tree_bounds_points.Goals as goal

pub returns : goal.returns
returns c = tree_bound_holds

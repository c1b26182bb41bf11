use Rattle.tetri_cert.proofs.ShapeLemmas as shapes
use Rattle.tetri_cert.proofs.laws.shape_is_of_trees.Goals as goal

pub returns : goal.returns
returns c = shapes.shape_is_of_trees

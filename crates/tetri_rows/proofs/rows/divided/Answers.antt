use Rattle.std.proofs.lemmas.Int.{to_z-of_z}
use Rattle.tetri_rows.proofs.Words.{divided_word}
use Rattle.tetri_rows.proofs.rows.divided.Goals as goal

pub returns-else-g-eq1-clause-value : goal.returns-else-g-eq1-clause-value
returns-else-g-eq1-clause-value c = (divided_word c.args.n c.args.g _ _ (to_z-of_z _ _ c.ranges.n) (to_z-of_z _ _ c.ranges.g) c.requires.fits c.requires.positive c.requires.divides).0

pub returns-else-g-eq1-clause-size : goal.returns-else-g-eq1-clause-size
returns-else-g-eq1-clause-size c = (divided_word c.args.n c.args.g _ _ (to_z-of_z _ _ c.ranges.n) (to_z-of_z _ _ c.ranges.g) c.requires.fits c.requires.positive c.requires.divides).1

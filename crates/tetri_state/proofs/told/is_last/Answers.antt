use Rattle.std.proofs.Common.{arith}
use Rattle.tetri_state.proofs.ToldLemmas.{next_tells}
use Rattle.tetri_state.proofs.told.is_last.Goals as goal

pub returns-else-place-ids : goal.returns-else-place-ids
returns-else-place-ids c = λ d. next_tells c.args.ids.now c.args.place d (record { job = 0; leaf = 0 }) c.requires.rise (omega (arith, c.requires.within))

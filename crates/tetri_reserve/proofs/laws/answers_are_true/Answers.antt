use Rattle.tetri_reserve.proofs.MeaningLemmas.{answers_are_true}
use Rattle.tetri_reserve.proofs.laws.answers_are_true.Goals as goal

pub returns : goal.returns
returns c = answers_are_true

use Rattle.tetri_run.proofs.RefusalLemmas.{refused_once}
use Rattle.tetri_run.proofs.laws.reports_are_refused_once.Goals as goal

pub returns : goal.returns
returns c = λ t bytes line other why because sound first second. refused_once t sound bytes line other why because first second

use Rattle.tetri_base.specs.Lists.{has}
use Rattle.tetri_split.specs.Restricted.{restricted}
use Rattle.tetri_reserve.proofs.WantedLemmas.{total_wanted}
use Rattle.tetri_reserve.proofs.laws.totals_count_wanted_jobs.Goals as goal

pub returns : goal.returns
returns c s jobs a = total_wanted (restricted (has jobs) s) a

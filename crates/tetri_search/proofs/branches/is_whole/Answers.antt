use Rattle.std.proofs.Common.{rules}
use Rattle.tetri_num.specs.Frac.{value}
use Rattle.tetri_search.proofs.branches.is_whole.Goals as goal

pub returns : goal.returns
unfolding value
returns c = search rules

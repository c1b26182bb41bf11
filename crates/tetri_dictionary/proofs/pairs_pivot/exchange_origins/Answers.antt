use Rattle.tetri_dictionary.proofs.PairExchanges.{exchanged_set}
use Rattle.tetri_dictionary.proofs.pairs_pivot.exchange_origins.Goals as goal

pub returns-clause-origins : goal.returns-clause-origins
returns-clause-origins c =
    λ n m k homes h lr lj. exchanged_set n m k c.args.r c.args.j c.args.origins.now c.make_column.new.origins c.make_mirror.new.origins homes c.args.mirrors.now c.args.columns.now h lr lj c.make_column.ensures c.make_mirror.ensures

use Rattle.tetri_request.proofs.ExpiryLemmas.{earns_nothing}
use Rattle.tetri_request.proofs.laws.expired_asks_earn_nothing.Goals as goal

pub returns : goal.returns
returns c = earns_nothing c.args.ask.now c.args.arrival

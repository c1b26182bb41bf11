use Rattle.tetri_request.proofs.ExpiryLemmas.{offers_until_expired}
use Rattle.tetri_request.proofs.laws.unexpired_asks_have_offers.Goals as goal

pub returns : goal.returns
returns c = offers_until_expired c.args.ask.now c.args.arrival c.requires

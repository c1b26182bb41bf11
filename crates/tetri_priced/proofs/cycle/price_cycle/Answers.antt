use Rattle.tetri_space.specs.Space.{space}
use Rattle.tetri_priced.proofs.CycleLemmas.{priced_from}
use Rattle.tetri_priced.proofs.cycle.price_cycle.Goals as goal

pub returns : goal.returns
returns g c =
    let i = space c.args.inst.now in
    priced_from i c.args.printed (λ q. g.P.Pricer.gives c.args.pricer.now i c.args.printed.value c.args.printed.bound q c.quote.new.self) c.in_ok-quote.quote c.priced_by.result
    c.in_ok-quote.ensures.gave c.in_ok-quote.ensures.limits c.priced_by.ensures.told c.priced_by.ensures.bounds

use Rattle.tetri_advice.specs.Sitting.{seat_of}
use Rattle.tetri_advice.proofs.SeatLemmas.{strikes_at}
use Rattle.tetri_advice.proofs.panel.PanelOf.strikes.Goals as goal

pub returns : goal.returns
returns g c =
    strikes_at (seat_of g.A.Advisor.says g.A.Advisor.misses g.A.Advisor.creed) c.args.self.now.seats.items c.args.place c.index.result.now c.requires c.index.ensures

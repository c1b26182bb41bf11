use Rattle.std.proofs.Common.{sym, ◌∙◌}
use Rattle.tetri_space.specs.Space.{space}
use Rattle.tetri_priced.proofs.NotedLemmas.{noted_one}
use Rattle.tetri_priced.proofs.noting.Noting.note.Goals as goal

pub returns : goal.returns
returns g c =
    noted_one g.P.Pricer.gives (space c.args.inst.now) c.args.printed c.args.self.now.wanted c.args.self.now.pricer c.price_cycle.new.pricer c.args.self.now.cycles.items c.push.new.self.items c.in_ok-cycle.cycle (sym c.has.ensures ∙ c.if-not-has.false)
    c.in_ok-push.ensures.items c.in_ok-cycle.ensures

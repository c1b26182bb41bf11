use Rattle.std.proofs.Common.{sym, ◌∙◌}
use Rattle.tetri_space.proofs.InstanceLaws.{list_is}
use Rattle.tetri_prices.proofs.prices.Prices.row.Goals as goal

pub returns : goal.returns
returns c = c.as_slice.ensures.value ∙ sym (list_is c.args.self.now.rows.items c.args.part c.index.result.now c.requires c.index.ensures)

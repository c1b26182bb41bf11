use Rattle.std.proofs.Common.{[]}
use Rattle.tetri_space.specs.Space.{space}
use Rattle.tetri_run.proofs.sight.first_walk.Goals as goal

pub feed-requires-clause-walks : goal.feed-requires-clause-walks
feed-requires-clause-walks c = (space c.args.slot.now.inst, [], c.in_ok-walk.ensures.walks)

pub returns : goal.returns
returns c = c.in_ok-feed.ensures.walks (space c.args.slot.now.inst) [] c.in_ok-walk.ensures.walks

use Rattle.std.proofs.Common.{◌∙◌}
use Rattle.tetri_parse.proofs.SeenTags.{search_holds}
use Rattle.tetri_parse.proofs.nodes.holds.Goals as goal

pub returns : goal.returns
returns c = c.is_ok.ensures.value ∙ search_holds c.args.numbers.now c.args.number c.binary_search.result c.requires c.binary_search.ensures.position

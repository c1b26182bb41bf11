use Rattle.tetri_strl.specs.Tree.{tree}
use Rattle.tetri_strl.proofs.GrantedWorth.{granted_worth}
use Rattle.tetri_strl.proofs.laws.worth_comes_of_grants.Goals as goal

pub returns : goal.returns
returns c = granted_worth (tree c.args.e.now) c.requires

use Rattle.std.proofs.Common.{◌≡◌, None, sym, subst}
use Rattle.std.specs.Prelude.{◌↔◌}
use Rattle.tetri_strl.specs.Thrifty.{IsThriftyFor}
use Rattle.tetri_strl.specs.Tree.{tree}
use Rattle.tetri_strl.proofs.TrimThrift.{waste_is_exact}
use Rattle.tetri_strl.proofs.wasting.waste_among.Goals as goal

pub returns-clause-thrifty : goal.returns-clause-thrifty
returns-clause-thrifty c =
    subst (λ r. (r ≡ None) ↔ IsThriftyFor c.args.grants.now c.args.job (tree c.args.e.now)) (sym c.find_waste.ensures)
    (waste_is_exact c.args.grants.now c.args.job (tree c.args.e.now) c.requires)

use Rattle.std.proofs.Common.{◌≡◌, None, ◌∙◌, ap, subst}
use Rattle.std.specs.Prelude.{◌↔◌}
use Rattle.tetri_strl.specs.Thrifty.{IsThriftyFor}
use Rattle.tetri_strl.specs.Tree.{tree}
use Rattle.tetri_strl.specs.Trim.{first_waste}
use Rattle.tetri_strl.proofs.wasting.waste.Goals as goal

pub returns-clause-place : goal.returns-clause-place
returns-clause-place c = c.waste_among.ensures.place ∙ ap (λ a. first_waste a c.args.job (tree c.args.e.now)) c.as_slice.ensures

pub returns-clause-thrifty : goal.returns-clause-thrifty
returns-clause-thrifty c =
    subst (λ a. (c.waste_among.result ≡ None) ↔ IsThriftyFor a c.args.job (tree c.args.e.now)) c.as_slice.ensures c.waste_among.ensures.thrifty

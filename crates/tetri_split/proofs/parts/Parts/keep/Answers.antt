use Rattle.std.proofs.Common.{◌∙◌, ap, subst, sym}
use Rattle.tetri_base.specs.Lists.{has}
use Rattle.tetri_space.specs.Lawful.{IsLawful}
use Rattle.tetri_space.specs.Trimmed.{IsThriftyForAll}
use Rattle.tetri_split.specs.Parts.{is_in_part}
use Rattle.tetri_split.specs.Restricted.{grants_to, restricted}
use Rattle.tetri_split.proofs.RestrictedLemmas.{lawful-kept, thrifty-kept}
use Rattle.tetri_split.proofs.parts.Parts.keep.Goals as goal

pub returns-clause-lawful : goal.returns-clause-lawful
returns-clause-lawful c s lawful =
    let keeps = is_in_part c.args.self.now c.args.part in
    let is = c.in_ok-kept.ensures ∙ ap (λ ns. grants_to (has ns) c.args.a.now) c.jobs_of.ensures.jobs in
    subst (IsLawful (restricted keeps s)) (sym is) (lawful-kept keeps s c.args.a.now lawful)

pub returns-clause-thrifty : goal.returns-clause-thrifty
returns-clause-thrifty c s thrifty =
    let keeps = is_in_part c.args.self.now c.args.part in
    let is = c.in_ok-kept.ensures ∙ ap (λ ns. grants_to (has ns) c.args.a.now) c.jobs_of.ensures.jobs in
    subst (IsThriftyForAll (restricted keeps s)) (sym is) (thrifty-kept keeps s c.args.a.now thrifty)

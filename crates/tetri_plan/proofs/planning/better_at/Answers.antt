use Rattle.std.proofs.Common.{◌∙◌, Option, ap, sym}
use Rattle.std.specs.Prelude.{option_map}
use Rattle.std.specs.Global.{Vec}
use lib.IntN.{ℤ}
use Rattle.tetri_space.specs.Space.{space}
use Rattle.tetri_space.specs.Trimmed.{all_trimmed}
use Rattle.tetri_assign.specs.Assigned.{assigned}
use Rattle.tetri_plan.specs.Chosen.{better}
use Rattle.tetri_plan.specs.Searched.{better_at}
use Rattle.tetri_plan.proofs.planning.better_at.Goals as goal

pub returns-in_ok-trimmed-in-Some-clause-grants : goal.returns-in_ok-trimmed-in-Some-clause-grants
returns-in_ok-trimmed-in-Some-clause-grants c =
    let s = space c.args.inst.now in
    let found = c.in_ok-trimmed-in-Some.ensures ∙ ap (all_trimmed s) (c.in_ok-assigned-in-Some.ensures.assigned ∙ ap (assigned s) c.deref.ensures.value) in
    c.better.ensures.grants ∙ ap (better s c.args.best.grants) found
    ∙ sym (ap (λ (o : Option (Vec ℤ)). better_at s c.args.best.grants (option_map (λ (v : Vec ℤ). v.items) o)) c.in-Some.is)

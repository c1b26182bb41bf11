use Rattle.std.proofs.Common.{◌≡◌, None, ◌∙◌, ap, subst, sym}
use Rattle.std.specs.Prelude.{◌↔◌}
use Rattle.tetri_claims.specs.Good.{IsThriftyForAll}
use Rattle.tetri_judge.specs.Wasted.{first_wasted}
use Rattle.tetri_space.specs.Space.{space}
use Rattle.tetri_judge.proofs.WastedLemmas.{none_wasted}
use Rattle.tetri_judge.proofs.wasted.first_wasted.Goals as goal

pub returns-then-ascends_by_job-clause-thrifty : goal.returns-then-ascends_by_job-clause-thrifty
returns-then-ascends_by_job-clause-thrifty c =
    subst (λ r. (r ≡ None) ↔ IsThriftyForAll (space c.args.inst.now) c.args.a.now)
    (sym (c.wasted_by_runs.ensures ∙ ap (first_wasted (space c.args.inst.now).bids) c.as_slice-grants.ensures)) (none_wasted (space c.args.inst.now) c.requires c.args.a.now)

pub returns-else-ascends_by_job-clause-thrifty : goal.returns-else-ascends_by_job-clause-thrifty
returns-else-ascends_by_job-clause-thrifty c =
    subst (λ r. (r ≡ None) ↔ IsThriftyForAll (space c.args.inst.now) c.args.a.now)
    (sym (c.wasted_by_jobs.ensures ∙ ap (first_wasted (space c.args.inst.now).bids) c.as_slice-grants.ensures)) (none_wasted (space c.args.inst.now) c.requires c.args.a.now)

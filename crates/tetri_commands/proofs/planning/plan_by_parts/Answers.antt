use Rattle.std.proofs.Common.{◌∙◌, ◌++◌, List, ℕ, ap, sym, subst}
use Rattle.std.specs.Prelude.{flat_map}
use Rattle.tetri_strl.specs.declared.grants.Grant.{Grant}
use Rattle.tetri_space.specs.Space.{space}
use Rattle.tetri_split.proofs.SplitLaws.{bounds_add}
use Rattle.tetri_trace.specs.Scenario.{scenario}
use Rattle.tetri_commands.specs.PartsReady.{ArePartsReady}
use Rattle.tetri_commands.specs.PartsText.{part_text}
use Rattle.tetri_commands.proofs.PlanLemmas.{is_optimal, joined_plans, same_line}
use Rattle.tetri_commands.proofs.planning.plan_by_parts.Goals as goal

pub returns-clause-plan : goal.returns-clause-plan
returns-clause-plan c =
    let t = scenario c.args.trace.now in
    let s = space c.args.inst.now in
    let carry = c.args.carry.now in
    let plans = c.in_ok-plans.plans in
    let parts = c.in_ok-parts.parts in
    let text = plans.text.items in
    let lists = c.deref.result.now in
    let done : ArePartsReady t s carry parts text lists plans.value plans.bound =
    subst (λ (l : List (List Grant)). ArePartsReady t s carry parts text l plans.value plans.bound) (sym c.deref.ensures.value) c.in_ok-plans.ensures in
    record {
      parts = done.parts;
      plans = joined_plans t s carry parts text lists plans.value plans.bound c.in_ok-grants.grants c.requires.instance.sound c.in_ok-parts.ensures done
          c.in_ok-grants.ensures.grants c.in_ok-grants.ensures.lawful c.in_ok-grants.ensures.total c.in_ok-grants.ensures.thrifty (bounds_add s parts c.in_ok-parts.ensures);
      text = c.in_ok-extend_from_slice.ensures.items ∙ ap (λ (x : List ℕ). c.in_ok-text.text.items ++ x) (c.deref-2.ensures.value ∙ done.text_is)
          ∙ ap (λ (x : List ℕ). x ++ flat_map (part_text t) done.parts)
          (c.in_ok-text.ensures ∙ same_line t s carry parts text lists plans.value plans.bound c.count.result c.count.ensures done);
      optimal = c.optimal_count.ensures.value ∙ is_optimal t s carry parts text lists plans.value plans.bound done;
    }

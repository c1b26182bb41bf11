use Rattle.std.proofs.Common.{◌∙◌, ◌<◌, ◌++◌, [], List, ℕ, length, map, ap, refl, sym, subst, slice_index_or}
use Rattle.tetri_base.specs.Lists.{has}
use Rattle.tetri_claims.specs.Good.{IsGood}
use Rattle.tetri_plan.specs.Chosen.{IsChosen}
use Rattle.tetri_plan.specs.Plans.{planned_of}
use Rattle.tetri_report.specs.Text.{job_name, plan_text}
use Rattle.tetri_space.specs.Lawful.{IsLawful}
use Rattle.tetri_space.specs.Space.{Space, space}
use Rattle.tetri_space.specs.Total.{total_in}
use Rattle.tetri_space.specs.Trimmed.{IsThriftyForAll}
use Rattle.tetri_split.specs.Parts.{first_job, is_in_part}
use Rattle.tetri_split.specs.Restricted.{restricted}
use Rattle.tetri_state.specs.Launch.{start_of}
use Rattle.tetri_trace.specs.Scenario.{scenario}
use Rattle.tetri_commands.specs.PartsText.{part_line}
use Rattle.tetri_commands.proofs.PrintLaws.{grants_printable, least_job_known, same_instance}
use Rattle.tetri_commands.proofs.planning.plan_part.Goals as goal

pub choose-requires-clause-lawful : goal.choose-requires-clause-lawful
choose-requires-clause-lawful c =
    subst (λ (i : Space). IsLawful i c.in_ok-kept.kept) (sym c.in_ok-own.ensures.instance) (c.in_ok-kept.ensures.lawful (space c.args.inst.now) c.requires.lawful)

pub choose-requires-clause-thrifty : goal.choose-requires-clause-thrifty
choose-requires-clause-thrifty c =
    subst (λ (i : Space). IsThriftyForAll i c.in_ok-kept.kept) (sym c.in_ok-own.ensures.instance) (c.in_ok-kept.ensures.thrifty (space c.args.inst.now) c.requires.thrifty)

pub name_of-requires : goal.name_of-requires
name_of-requires c =
    subst (λ (p : List ℕ). first_job p < length (scenario c.args.trace.now).submissions) (sym c.jobs_of.ensures.jobs)
    (least_job_known (scenario c.args.trace.now) (space c.args.inst.now) c.args.parts.now c.args.part c.requires.instance c.requires.parts c.requires.within)

pub print_plan-requires-clause-printable : goal.print_plan-requires-clause-printable
print_plan-requires-clause-printable c =
    let t = scenario c.args.trace.now in
    grants_printable t (space c.in_ok-own.own) c.in_ok-plan.plan.grants
    (same_instance t (space c.args.inst.now) (space c.in_ok-own.own) (is_in_part c.args.parts.now c.args.part) c.requires.instance c.in_ok-own.ensures.instance c.in_ok-own.ensures.sound)
    c.in_ok-plan.ensures.good.honest.lawful

pub returns-clause-ready : goal.returns-clause-ready
returns-clause-ready c =
    let t = scenario c.args.trace.now in
    let s = space c.args.inst.now in
    let jobs = slice_index_or c.args.parts.now c.args.part [] in
    let p = planned_of c.in_ok-plan.plan in
    let starts = c.in_ok-starts.starts.items in
    let own = c.in_ok-own.ensures.instance in
    let kept = c.in_ok-kept.ensures.grants in
    record {
      part = record { jobs = jobs; plan = p; starts = starts };
      is_of = refl;
      plan = record {
        good = subst (λ a. IsGood (restricted (has jobs) s) (total_in (restricted (has jobs) s) a) p) kept (subst (λ (i : Space). IsGood i (total_in i c.in_ok-kept.kept) p) own c.in_ok-plan.ensures.good);
        chosen = subst (λ a. IsChosen (restricted (has jobs) s) a [] t.header.budget p) kept
            (subst (λ (i : Space). IsChosen i c.in_ok-kept.kept [] t.header.budget p) own c.in_ok-plan.ensures.chosen);
        starts = c.in_ok-starts.ensures ∙ ap (map (start_of s)) c.as_slice.ensures;
      };
      text = c.in_ok-extend_from_slice.ensures.items
          ∙ ap (λ l. c.in_ok-text.text.items ++ l)
          (c.deref-2.ensures.value ∙ c.in_ok-lines.ensures ∙ ap (λ ss. plan_text t p.value p.bound p.mark p.nodes p.grants ss p.certificate) c.deref.ensures.value)
          ∙ ap (λ l. l ++ plan_text t p.value p.bound p.mark p.nodes p.grants starts p.certificate)
          (c.in_ok-text.ensures ∙ ap part_line (c.name_of.ensures ∙ ap (λ (l : List ℕ). job_name t (first_job l)) c.jobs_of.ensures.jobs));
      grants = refl;
      value = refl;
      bound = refl;
    }

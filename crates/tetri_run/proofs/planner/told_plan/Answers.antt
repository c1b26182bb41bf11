use Rattle.std.proofs.Common.{◌∙◌, List, ap, arith, map, rules, subst, sym}
use Rattle.tetri_report.specs.Printable.{AreSmall, GrantSmallLeaves}
use Rattle.tetri_space.specs.Space.{space}
use Rattle.tetri_state.specs.After.{starting_pieces}
use Rattle.tetri_state.specs.Launch.{launched_in, start_of, worth_launched}
use Rattle.tetri_strl.specs.declared.grants.Grant.{Grant}
use Rattle.tetri_trace.specs.Scenario.{scenario}
use Rattle.tetri_run.proofs.PrintLemmas.{certificate_in_range, starts_small}
use Rattle.tetri_run.proofs.planner.told_plan.Goals as goal

pub returns-clause-starts : goal.returns-clause-starts
returns-clause-starts c =
    c.in_ok-starts.ensures.items ∙ c.deref.ensures.value ∙ c.in_ok-launch.ensures.starts ∙ ap (map (start_of (space c.args.inst.now))) c.as_slice.ensures

pub returns-clause-launched : goal.returns-clause-launched
returns-clause-launched c =
    c.in_ok-launched.ensures.items ∙ c.deref-2.ensures.value ∙ c.in_ok-launch.ensures.jobs ∙ ap (launched_in (space c.args.inst.now)) c.as_slice.ensures

pub returns-clause-jobs : goal.returns-clause-jobs
returns-clause-jobs c = c.in_ok-launch.ensures.jobs ∙ ap (launched_in (space c.args.inst.now)) c.as_slice.ensures

pub returns-clause-pieces : goal.returns-clause-pieces
returns-clause-pieces c = c.in_ok-launch.ensures.pieces ∙ ap (starting_pieces (scenario c.args.trace.now) (space c.args.inst.now)) c.as_slice.ensures

pub returns-clause-worth : goal.returns-clause-worth
returns-clause-worth c = c.in_ok-launch.ensures.worth ∙ ap (worth_launched (space c.args.inst.now)) c.as_slice.ensures

pub returns-clause-in_range : goal.returns-clause-in_range
returns-clause-in_range c =
    let s = space c.args.inst.now in
    let a = c.args.plan.grants in
    let starts = c.in_ok-starts.ensures.items ∙ c.deref.ensures.value ∙ c.in_ok-launch.ensures.starts ∙ ap (map (start_of s)) c.as_slice.ensures in
    record {
      number = omega (arith, c.requires.sound.early);
      ended = c.requires.ended;
      over = c.requires.over;
      value = first_of (omega arith, search rules);
      bound = first_of (omega arith, search rules);
      nodes = first_of (omega arith, search rules);
      grants = subst (λ (gs : List Grant). GrantSmallLeaves gs) c.as_slice.ensures c.in_ok-launch.ensures.leaves;
      starts = subst AreSmall (sym starts) (starts_small s c.requires.sound a);
      certificate = certificate_in_range c.args.plan.certificate c.requires.printable;
    }

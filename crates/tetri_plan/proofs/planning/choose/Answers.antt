use Rattle.std.proofs.Common.{◌∙◌, List, ap, arith, rules, subst, sym}
use Rattle.tetri_strl.specs.declared.grants.Grant.{Grant}
use Rattle.tetri_space.specs.Lawful.{IsLawful}
use Rattle.tetri_space.specs.Space.{space}
use Rattle.tetri_space.specs.Total.{total_in}
use Rattle.tetri_space.specs.Trimmed.{IsThriftyForAll}
use Rattle.tetri_plan.specs.Searched.{IsSearched}
use Rattle.tetri_plan.proofs.KeptLemmas.{kept_is_fair, unfound_worth}
use Rattle.tetri_plan.proofs.PlanLemmas.{plan_is_right}
use Rattle.tetri_plan.proofs.planning.choose.Goals as goal

pub bound_on-requires-clause-lawful : goal.bound_on-requires-clause-lawful
bound_on-requires-clause-lawful c =
    let s = space c.args.inst.now in
    subst (IsLawful s) (sym c.in_ok-kept.ensures.grants)
    (kept_is_fair s c.requires.sound c.args.carry.now c.args.given.now (record { lawful = c.requires.lawful; thrifty = c.requires.thrifty }) c.requires.given).lawful

pub bound_on-requires-clause-thrifty : goal.bound_on-requires-clause-thrifty
bound_on-requires-clause-thrifty c =
    let s = space c.args.inst.now in
    subst (IsThriftyForAll s) (sym c.in_ok-kept.ensures.grants)
    (kept_is_fair s c.requires.sound c.args.carry.now c.args.given.now (record { lawful = c.requires.lawful; thrifty = c.requires.thrifty }) c.requires.given).thrifty

pub returns : goal.returns
returns c =
    let s = space c.args.inst.now in
    let found = c.in_ok-found.found in
    let kept_is = c.in_ok-kept.ensures.grants in
    let is = subst (λ (a : List Grant). IsSearched s a c.args.budget found) kept_is c.in_ok-found.ensures in
    let low_is = c.in_ok-kept.ensures.worth ∙ ap (total_in s) kept_is in
    let holds = plan_is_right s c.requires.sound c.args.carry.now c.args.given.now c.args.budget found is c.mark_of-mark.result c.mark_of-mark.ensures c.in_ok-grants.grants c.in_ok-grants.ensures in
    record {
      good = holds.good;
      chosen = holds.chosen;
      low = low_is;
      at_least = omega (arith, low_is, is.at_least);
      no_whole = λ none. low_is ∙ unfound_worth s c.requires.sound c.args.carry.now c.args.given.now c.args.budget _ holds.chosen holds.good.honest.attained none;
      heard = search rules;
      ordered = holds.ordered;
      printable = is.printable;
      tree = is.tree;
      no_rest = holds.no_rest;
      spent = holds.spent;
      wide = holds.wide;
      enough = holds.enough;
    }

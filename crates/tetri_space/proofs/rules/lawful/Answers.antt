use Rattle.std.proofs.Common.{sym, subst, ◌∙◌}
use Rattle.std.proofs.lemmas.Bool.{false≢true}
use Rattle.std.proofs.lemmas.List.{take_all}
use Rattle.tetri_space.specs.Space.{space}
use Rattle.tetri_space.specs.Lawful.{IsLawful}
use Rattle.tetri_space.proofs.ClashLemmas.{at_place}
use Rattle.tetri_space.proofs.RuleLemmas.{ascending_grants, exact_err, first_broken, broken_first, lawful_keeps, lawful_more}
use Rattle.tetri_space.proofs.rules.lawful.Goals as goal

pub check_grant-requires-clause-ascending : goal.check_grant-requires-clause-ascending
check_grant-requires-clause-ascending c = ascending_grants (space c.args.inst.now) _ c.loop-place.invariant.grants

pub returns-in-Err-clause-ok : goal.returns-in-Err-clause-ok
returns-in-Err-clause-ok c =
    let here = at_place c.as_slice-grants.result.now c.loop-place.place c.index-grants-place.result c.loop-place-test.true c.index-grants-place.is in
    let first = first_broken (space c.args.inst.now) c.as_slice-grants.result.now c.loop-place.place c.index-grants-place.result c.in-Err.rule here c.loop-place.invariant c.in-Err.ensures.first in
    let broken = broken_first (space c.args.inst.now) c.as_slice-grants.result.now _ first in (
      λ e. absurd (false≢true e),
      λ lawful. absurd (lawful_keeps (space c.args.inst.now) c.as_slice-grants.result.now (subst (IsLawful (space c.args.inst.now)) (sym c.as_slice-grants.ensures) lawful) _ broken),
    )

pub returns-in-Err-clause-exact : goal.returns-in-Err-clause-exact
returns-in-Err-clause-exact c =
    let here = at_place c.as_slice-grants.result.now c.loop-place.place c.index-grants-place.result c.loop-place-test.true c.index-grants-place.is in
    let first = first_broken (space c.args.inst.now) c.as_slice-grants.result.now c.loop-place.place c.index-grants-place.result c.in-Err.rule here c.loop-place.invariant c.in-Err.ensures.first in
    exact_err (space c.args.inst.now) c.as_slice-grants.result.now c.args.a.now _ c.as_slice-grants.ensures first

pub loop-place-preserved : goal.loop-place-preserved
loop-place-preserved c =
    lawful_more (space c.args.inst.now) c.as_slice-grants.result.now c.loop-place.place c.index-grants-place.result c.loop-place-test.true c.index-grants-place.is c.loop-place.invariant
    c.in_default.ensures.lawful c.in_default.ensures.apart

pub returns-clause-exact : goal.returns-clause-exact
returns-clause-exact c =
    let lawful = subst (IsLawful (space c.args.inst.now)) (take_all c.loop-place.place c.as_slice-grants.result.now c.loop-place-test.false ∙ c.as_slice-grants.ensures) c.loop-place.invariant in
    λ u. (λ e. absurd cc, λ first. absurd (lawful_keeps (space c.args.inst.now) c.args.a.now lawful u (broken_first (space c.args.inst.now) c.args.a.now u first)))

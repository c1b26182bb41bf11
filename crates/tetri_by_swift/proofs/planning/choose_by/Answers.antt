use Rattle.std.proofs.Common.{◌≤◌, ◌∙◌, arith, sym}
use Rattle.tetri_plan.specs.Plans.{planned_of}
use Rattle.tetri_space.specs.Space.{space}
use Rattle.tetri_space.specs.Total.{total_in}
use Rattle.tetri_by_swift.proofs.RightLemmas.{certified_at, good_at, never_spent, settled_tree}
use Rattle.tetri_by_swift.proofs.planning.choose_by.Goals as goal

pub search_from-requires-clause-tree : goal.search_from-requires-clause-tree
search_from-requires-clause-tree g c = c.in_ok-known.ensures.tree.0 (c.may_get_better.ensures.tree c.if-may_get_better.true)

pub search_from-requires-clause-held : goal.search_from-requires-clause-held
search_from-requires-clause-held g c =
    let honest = c.in_ok-known.ensures.good.honest in
    record { lawful = honest.lawful; thrifty = honest.thrifty; worth = sym honest.attained }

pub returns-then-may_get_better : goal.returns-then-may_get_better
returns-then-may_get_better g c =
    let s = space c.args.inst.now in
    let known = c.in_ok-known.ensures in
    let plan = c.in_ok-plan.ensures in
    let right = plan.right in
    let more : c.in_ok-known.known.value ≤ c.in_ok-plan.plan.value = right.good.honest.at_least in
    record {
      good = good_at s c.in_ok-known.known.value (total_in s c.args.carry.now) _ known.good.honest.at_least right.good;
      certified = right.certified;
      low = plan.low ∙ known.low;
      at_least = omega (arith, plan.low, known.at_least, more);
      heard = plan.heard;
      ordered = right.ordered;
      printable = right.printable;
      tree = (λ has. known.tree.0 (c.may_get_better.ensures.tree c.if-may_get_better.true), λ may. right.tree);
      no_rest = λ may. right.no_rest;
      spent = right.spent;
      wide = λ e. absurd (right.never_wide e);
      enough = λ may le. right.enough le;
    }

pub returns : goal.returns
returns g c =
    let s = space c.args.inst.now in
    let p = c.in_ok-known.known in
    let known = c.in_ok-known.ensures in
    let settled = c.may_get_better.ensures.settled c.if-may_get_better.false in
    record {
      good = known.good;
      certified = certified_at s 0 c.args.budget (planned_of p) settled known.chosen.certified;
      low = known.low;
      at_least = known.at_least;
      heard = known.heard;
      ordered = known.ordered;
      printable = known.printable;
      tree = known.tree;
      no_rest = known.no_rest;
      spent = λ e. absurd (never_spent p.mark p.certificate settled e (known.spent e).1);
      wide = known.wide;
      enough = λ may le. settled_tree p.mark p.certificate settled (known.tree.1 may);
    }

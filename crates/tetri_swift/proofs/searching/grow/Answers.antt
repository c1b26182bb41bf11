use Rattle.std.proofs.Common.{◌≡◌, ◌++◌, ◌∷◌, [], ◌∙◌, sym, ap, arith}
use Rattle.std.specs.Prelude.{nat_lt}
use Rattle.tetri_cert.specs.Trees.{nodes_in}
use Rattle.tetri_search.specs.Follow.{best_behind, used_after}
use Rattle.tetri_swift.specs.Fronts.{regions_of}
use Rattle.tetri_swift.proofs.FrontLemmas.{regions_end}
use Rattle.tetri_swift.proofs.LoopLemmas.{begins_end, begins_first, best_more, front_fewer, front_push, nodes_more, used_is, used_within}
use Rattle.tetri_swift.proofs.searching.grow.Goals as goal

pub tree-init : goal.tree-init
tree-init g c = record {
  factors = c.requires.length;
  over = c.in_ok-front.ensures.over;
  begins = begins_first c.args.p.now c.args.low c.args.budget c.new-marks.result (regions_of c.in_ok-front.front) c.new-marks.ensures c.in_ok-front.ensures.regions;
  best_is = sym (ap (best_behind c.args.low) c.new-marks.ensures);
  used_is = sym (ap nodes_in c.new-marks.ensures);
  within = omega arith;
}

pub better-best-requires : goal.better-best-requires
better-best-requires g c = c.in_ok-mark.ensures.fair.better

pub tree-preserved : goal.tree-preserved
tree-preserved g c =
    let p = c.args.p.now in
    let m = c.in_ok-mark.mark in
    let n : c.push.new.self ≡ c.tree.marks ++ m ∷ [] = c.in_ok-push.ensures.ok in
    let u : c.count-used.result ≡ used_after c.tree.used m = used_is c.tree.used c.count-used.result (nat_lt c.tree.used c.args.budget) m c.in_ok-mark.ensures.fair.rest c.count-used.ensures in
    record {
      factors = c.visit.auto.factors ∙ c.tree.invariant.factors;
      over = c.in_ok-mark.ensures.over;
      begins = front_push p c.args.low c.args.budget c.tree.marks c.push.new.self c.tree.front c.visit.new.front c.tree.best c.tree.used c.better-best.result c.count-used.result m c.tree-test.true c.tree.invariant.begins c.in_ok-mark.ensures.fair n c.in_ok-mark.ensures.regions c.better-best.ensures u;
      best_is = best_more c.args.low c.tree.marks c.push.new.self m c.tree.best c.better-best.result n c.tree.invariant.best_is c.better-best.ensures;
      used_is = nodes_more c.tree.marks c.push.new.self m c.tree.used c.count-used.result n c.tree.invariant.used_is u;
      within = used_within c.tree.used c.args.budget c.count-used.result c.tree.invariant.within c.count-used.ensures;
    }

pub tree-smaller : goal.tree-smaller
tree-smaller g c =
    let m = c.in_ok-mark.mark in
    let u : c.count-used.result ≡ used_after c.tree.used m = used_is c.tree.used c.count-used.result (nat_lt c.tree.used c.args.budget) m c.in_ok-mark.ensures.fair.rest c.count-used.ensures in
    front_fewer c.tree.front c.visit.new.front m c.tree.used c.args.budget c.count-used.result c.tree-test.true c.in_ok-mark.ensures.fair.rest c.in_ok-mark.ensures.regions u

pub returns-clause-follows : goal.returns-clause-follows
returns-clause-follows g c = begins_end c.args.p.now c.args.low c.args.budget c.tree.marks (regions_of c.tree.front) c.tree.best c.tree.used (regions_end c.tree.front c.tree-test.false) c.tree.invariant.begins

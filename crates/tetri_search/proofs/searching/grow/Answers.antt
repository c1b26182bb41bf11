use Rattle.std.proofs.Common.{◌≡◌, ◌++◌, ◌∷◌, [], ◌∙◌, sym, subst, refl, arith, rules, None}
use Rattle.std.specs.Prelude.{nat_lt}
use Rattle.std.proofs.lemmas.Grind.{common_steps}
use Rattle.tetri_ip.specs.Points.{bounds_of}
use Rattle.tetri_search.specs.Table.{Node}
use Rattle.tetri_search.specs.Follow.{best_after, used_after}
use Rattle.tetri_search.specs.Views.{dual_of_rc}
use Rattle.tetri_search.proofs.LoopLemmas.{Stands, mark_natural, stands_best, stands_on, stands_push, stands_start, stands_top, stands_used, used_is, used_within}
use Rattle.tetri_search.proofs.searching.grow.Goals as goal

pub loop-above-init : goal.loop-above-init
loop-above-init c =
    let e : c.push.new.self.items ≡ None ∷ [] = (let h = c.in_ok-push.ensures.items in let k = c.new-2.ensures.items in grind (arith, common_steps)) in
    record {
      factors = c.requires.length;
      stands = stands_start c.args.p.now c.args.low c.args.budget c.new-marks.result c.in_ok-whole.field-0 c.new.result.items c.push.new.self.items c.requires.fit c.in_ok-whole.ensures.bounds c.new-marks.ensures c.new.ensures.items e;
      within = omega arith;
    }

pub visit-requires-clause-at : goal.visit-requires-clause-at
visit-requires-clause-at c =
    let k : c.loop-above.front.duals.items ≡ c.pop.new.self.items ++ c.in-Some.above ∷ [] = search rules in
    stands_on c.args.p.now c.args.low c.args.budget c.loop-above.marks c.loop-above.front.region c.loop-above.front.trail.items c.in-Some.above c.pop.new.self.items c.loop-above.front.duals.items c.loop-above.best c.loop-above.used k c.loop-above.invariant.stands

pub better-best-requires : goal.better-best-requires
better-best-requires c =
    let k : c.loop-above.front.duals.items ≡ c.pop.new.self.items ++ c.in-Some.above ∷ [] = search rules in
    let t = stands_top c.args.p.now c.args.low c.args.budget c.loop-above.marks c.loop-above.front.region c.loop-above.front.trail.items c.in-Some.above c.pop.new.self.items c.loop-above.front.duals.items c.loop-above.best c.loop-above.used k c.loop-above.invariant.stands in
    mark_natural c.args.p.now (bounds_of c.loop-above.front.region) (dual_of_rc c.in-Some.above) c.loop-above.best (nat_lt c.loop-above.used c.args.budget) c.in_ok-mark.mark c.requires.fit c.requires.lower c.requires.bounded t.in_box t.dual c.in_ok-mark.ensures.mark

pub loop-above-preserved : goal.loop-above-preserved
loop-above-preserved c =
    let p = c.args.p.now in
    let m = c.in_ok-mark.mark in
    let k : c.loop-above.front.duals.items ≡ c.pop.new.self.items ++ c.in-Some.above ∷ [] = search rules in
    let n : c.push-in-Some.new.self ≡ c.loop-above.marks ++ m ∷ [] = c.in_ok-push-2.ensures.ok in
    let node : Node = record { region = bounds_of c.loop-above.front.region; dual = dual_of_rc c.in-Some.above } in
    let u : c.count-used.result ≡ used_after c.loop-above.used m = used_is p node c.loop-above.best c.loop-above.used c.args.budget m (nat_lt c.loop-above.used c.args.budget) c.count-used.result refl c.in_ok-mark.ensures.mark c.count-used.ensures in
    let b : c.better-best.result ≡ best_after c.loop-above.best m = c.better-best.ensures in
    let s = stands_push p c.args.low c.args.budget c.loop-above.marks c.push-in-Some.new.self m c.loop-above.front.region c.visit.new.front.region c.loop-above.front.trail.items c.visit.new.front.trail.items c.in-Some.above c.pop.new.self.items c.loop-above.front.duals.items c.visit.new.front.duals.items c.loop-above.best c.loop-above.used
    c.requires.fit k n c.loop-above.invariant.stands c.in_ok-mark.ensures.mark c.in_ok-mark.ensures.regions c.in_ok-mark.ensures.duals c.in_ok-mark.ensures.lower c.in_ok-mark.ensures.upper c.in_ok-mark.ensures.columns c.in_ok-mark.ensures.narrow in
    record {
      factors = c.visit.auto.factors ∙ c.loop-above.invariant.factors;
      stands = subst (λ x. Stands p c.args.low c.args.budget c.push-in-Some.new.self c.visit.new.front.region c.visit.new.front.trail.items c.visit.new.front.duals.items c.better-best.result x) (sym u)
          (subst (λ x. Stands p c.args.low c.args.budget c.push-in-Some.new.self c.visit.new.front.region c.visit.new.front.trail.items c.visit.new.front.duals.items x (used_after c.loop-above.used m)) (sym b) s);
      within = used_within c.loop-above.used c.args.budget c.count-used.result c.loop-above.invariant.within c.count-used.ensures;
    }

pub returns-clause-best : goal.returns-clause-best
returns-clause-best c = stands_best c.args.p.now c.args.low c.args.budget c.loop-above.marks c.loop-above.front.region c.loop-above.front.trail.items c.loop-above.front.duals.items c.loop-above.best c.loop-above.used c.loop-above.invariant.stands

pub returns-clause-used : goal.returns-clause-used
returns-clause-used c = stands_used c.args.p.now c.args.low c.args.budget c.loop-above.marks c.loop-above.front.region c.loop-above.front.trail.items c.loop-above.front.duals.items c.loop-above.best c.loop-above.used c.loop-above.invariant.stands

use Rattle.std.proofs.Common.{◌≡◌, ◌+◌, ◌∙◌, drop, take, length, ap, sym, subst}
use Rattle.tetri_strl.specs.Tree.{tree, trees}
use Rattle.tetri_strl.specs.Aligned.{EachLeafOf}
use Rattle.tetri_strl.specs.WellMade.{AreSound}
use Rattle.tetri_space.specs.Sound.{HasKnownSet}
use Rattle.tetri_space.specs.Space.{space}
use Rattle.tetri_advice.specs.Fit.{all_fit, best_fit, fit_beside, fit_worth}
use Rattle.tetri_greedy.specs.Fitted.{Fitted, grown, with_fit}
use Rattle.tetri_space.specs.Slots.{is_marked}
use Rattle.tetri_greedy.proofs.Steps.{cut_back, cut_off, more_fit, next_part, no_more_fit, none_fit}
use Rattle.tetri_greedy.proofs.fits.+fit.Goals as goal
use Rattle.tetri_greedy.proofs.fits.+fit.Goals.{fit_best-then-worth-most+in_ok-best, fit_best-else-worth-most}

pub fit_all-returns-then-branch-eq0-clause-all : goal.fit_all-returns-then-branch-eq0-clause-all
fit_all-returns-then-branch-eq0-clause-all t c =
    let s = space c.args.inst.now in
    let marks = is_marked c.args.held.now s.now in
    let own = c.loop-part.own in
    let e = c.part-item.result in
    let ts = trees (drop (c.loop-part.part-index + 1) c.args.parts.now) in
    let next = next_part c.args.parts.now c.loop-part.part-index e c.loop-part-test.true c.part-item.is in
    let nothing : fit_worth c.args.own.now.job (tree e) (fit_beside s c.args.own.now.job marks own.placements (tree e)) ≡ 0 =
    subst (λ job. fit_worth job (tree e) (fit_beside s job marks own.placements (tree e)) ≡ 0) c.loop-part.invariant.job
    (sym c.in_ok-fit_and_weigh.ensures.worth ∙ c.if-branch-eq0.true) in
    sym
    (sym c.loop-part.invariant.all ∙ ap (all_fit s c.args.own.now.job marks own.placements) next
    ∙ none_fit s c.args.own.now.job marks own.placements (tree e) ts nothing)

pub fit_best-loop-part-preserved : goal.fit_best-loop-part-preserved
fit_best-loop-part-preserved t c =
    let s = space c.args.inst.now in
    let marks = is_marked c.args.held.now s.now in
    let f = c.args.own.now in
    let e = c.part-item.result in
    let made = c.fit_and_weigh.new.own in
    let worth = c.in_ok-worth.worth in
    let ts = trees (drop (c.loop-part.part-index + 1) c.args.parts.now) in
    let ps = fit_beside s f.job marks f.placements (tree e) in
    let next = next_part c.args.parts.now c.loop-part.part-index e c.loop-part-test.true c.part-item.is in
    let good = subst AreSound next c.loop-part.invariant.good in
    let known = subst (EachLeafOf (HasKnownSet s)) next c.loop-part.invariant.known in
    let fit : made ≡ grown f ps = subst (λ g. made ≡ with_fit s c.args.held.now g (tree e)) c.loop-part.invariant.own c.in_ok-worth.ensures.fit in
    let weighed : worth ≡ fit_worth f.job (tree e) ps =
    subst (λ (g : Fitted). worth ≡ fit_worth g.job (tree e) (fit_beside s g.job marks g.placements (tree e))) c.loop-part.invariant.own c.in_ok-worth.ensures.worth in
    let before : c.len-before.result ≡ length f.placements = c.len-before.ensures in
    let so_far = ap (λ us. best_fit s f.job marks f.placements us (c.loop-part.most, c.loop-part.best.placements)) (sym next) ∙ c.loop-part.invariant.so_far in
    elim c.if-worth-most.branch [
      | fit_best-then-worth-most+in_ok-best w ↦
          let best : c.if-worth-most.best ≡ record { job = f.job; placements = ps } =
          w.best-is ∙ w.in_ok-best.ensures.rest ∙ ap (λ (g : Fitted). record { job = g.job; placements = drop c.len-before.result g.placements }) fit
          ∙ cut_off f ps c.len-before.result before in
          record {
            good = good.1;
            known = known.1;
            own = w.own-is ∙ w.in_ok-best.ensures.kept ∙ ap (λ (g : Fitted). record { job = g.job; placements = take c.len-before.result g.placements }) fit
                ∙ cut_back f ps c.len-before.result before;
            job = ap (λ (g : Fitted). g.job) best;
            so_far =
                ap (λ n. best_fit s f.job marks f.placements ts (n, c.if-worth-most.best.placements)) w.most-is
                ∙ ap (λ (g : Fitted). best_fit s f.job marks f.placements ts (worth, g.placements)) best
                ∙ sym (more_fit s f.job marks f.placements (tree e) ts c.loop-part.most worth c.loop-part.best.placements weighed w.if-worth-most.true) ∙ so_far;
          }
      | fit_best-else-worth-most w ↦ record {
        good = good.1;
        known = known.1;
        own = w.own-is ∙ w.truncate.ensures ∙ ap (λ (g : Fitted). record { job = g.job; placements = take c.len-before.result g.placements }) fit
            ∙ cut_back f ps c.len-before.result before;
        job = ap (λ (g : Fitted). g.job) w.best-is ∙ c.loop-part.invariant.job;
        so_far =
            ap (λ n. best_fit s f.job marks f.placements ts (n, c.if-worth-most.best.placements)) w.most-is
            ∙ ap (λ (g : Fitted). best_fit s f.job marks f.placements ts (c.loop-part.most, g.placements)) w.best-is
            ∙ sym (no_more_fit s f.job marks f.placements (tree e) ts c.loop-part.most worth c.loop-part.best.placements weighed w.if-worth-most.false) ∙ so_far;
      }
    ]

use Rattle.std.proofs.Common.{◌≡◌, [], drop, take, length}
use Rattle.tetri_advice.specs.Fit.{all_fit, best_fit, fits}
use Rattle.tetri_space.specs.Sound.{HasKnownSet}
use Rattle.tetri_space.specs.Space.{space}
use Rattle.tetri_strl.specs.Aligned.{EachLeafOf}
use Rattle.tetri_strl.specs.Tree.{tree, trees}
use Rattle.tetri_strl.specs.WellMade.{AreSound}
use Rattle.tetri_greedy.specs.Fitted.{grown, with_fit}
use Rattle.tetri_space.specs.Slots.{is_marked}
use Rattle.tetri_greedy.proofs.fits.+fit.Given as goal

abbrev pub invariant-fit-loop-part : goal.invariant-fit-loop-part
invariant-fit-loop-part l = record {
  good : AreSound (trees (drop l.part-index l.part-items));
  known : EachLeafOf (HasKnownSet (space l.inst)) (trees (drop l.part-index l.part-items));
  so_far :
      grown l.own (fits (space l.inst) l.own.job (is_marked l.held (space l.inst).now) l.own.placements (trees (drop l.part-index l.part-items))) ≡
      with_fit (space l.inst) l.held l.fn.own (tree l.e);
}

abbrev pub invariant-fit_best-loop-part : goal.invariant-fit_best-loop-part
invariant-fit_best-loop-part l = record {
  good : AreSound (trees (drop l.part-index l.parts));
  known : EachLeafOf (HasKnownSet (space l.inst)) (trees (drop l.part-index l.parts));
  own : l.own ≡ l.fn.own;
  job : l.best.job ≡ l.fn.own.job;
  so_far :
      best_fit (space l.inst) l.fn.own.job (is_marked l.held (space l.inst).now) l.fn.own.placements (trees (drop l.part-index l.parts)) (l.most, l.best.placements) ≡
      best_fit (space l.inst) l.fn.own.job (is_marked l.held (space l.inst).now) l.fn.own.placements (trees l.parts) (0, []);
}

abbrev pub invariant-fit_all-loop-part : goal.invariant-fit_all-loop-part
invariant-fit_all-loop-part l = record {
  good : AreSound (trees (drop l.part-index l.parts));
  known : EachLeafOf (HasKnownSet (space l.inst)) (trees (drop l.part-index l.parts));
  job : l.own.job ≡ l.fn.own.job;
  front : take (length l.fn.own.placements) l.own.placements ≡ l.fn.own.placements;
  all :
      all_fit (space l.inst) l.fn.own.job (is_marked l.held (space l.inst).now) l.own.placements (trees (drop l.part-index l.parts)) ≡
      all_fit (space l.inst) l.fn.own.job (is_marked l.held (space l.inst).now) l.fn.own.placements (trees l.parts);
  so_far :
      grown l.own (fits (space l.inst) l.fn.own.job (is_marked l.held (space l.inst).now) l.own.placements (trees (drop l.part-index l.parts))) ≡
      grown l.fn.own (fits (space l.inst) l.fn.own.job (is_marked l.held (space l.inst).now) l.fn.own.placements (trees l.parts));
}

use Rattle.std.proofs.Common.{◌<◌, length, arith, ◌∙◌, refl}
use Rattle.std.proofs.Math.ListN.{length-set}
use Rattle.tetri_advice.specs.Sitting.{seat_of}
use Rattle.tetri_advice.proofs.SeatLemmas.{taught_first, taught_more}
use Rattle.tetri_advice.proofs.panel.PanelOf.teach.Goals as goal

pub loop-place-init : goal.loop-place-init
loop-place-init g c = record {
  missed = refl;
  len_is = omega (arith, c.args.self.now.seats.ok.0);
  taught = taught_first (seat_of g.A.Advisor.says g.A.Advisor.misses g.A.Advisor.creed) _;
}

pub loop-place-preserved : goal.loop-place-preserved
loop-place-preserved g c =
    let i = c.loop-place.invariant in
    let sat = seat_of g.A.Advisor.says g.A.Advisor.misses g.A.Advisor.creed in
    let l : c.loop-place.place < length c.loop-place.self.seats.items = omega arith in
    record {
      missed = i.missed;
      len_is = length-set _ _ _ ∙ i.len_is;
      taught = taught_more sat _ _ _ c.index_mut.result.now c.learn.new.self i.taught c.index_mut.ensures.value
          (record { strikes = c.learn.ensures.strikes; creed = c.learn.ensures.creed; later = c.learn.ensures.later }) l;
    }

use Rattle.std.proofs.Common.{◌≡◌, ◌-◌, ◌<◌, length}
use Rattle.tetri_ip.specs.Points.{bounds_of}
use Rattle.tetri_simplex.specs.Machine.{run, machine}
use Rattle.tetri_simplex.specs.Turns.{HasPlaces}
use Rattle.tetri_simplex.proofs.run.run_over.Given as goal

abbrev pub invariant-loop-outcome : goal.invariant-loop-outcome
invariant-loop-outcome g l =
    let t = g.D.Dictionary.table l.dictionary in
    record {
      factors : length l.factors ≡ length l.p.costs.items;
      few : l.step < 10001;
      sound : g.D.Dictionary.is_sound l.dictionary;
      places : HasPlaces l.p t;
      same : run l.p (bounds_of l.r) l.best (10000 - l.step) l.step t ≡ machine l.p (bounds_of l.r) l.best;
    }

abbrev pub decreases-loop-outcome : goal.decreases-loop-outcome
decreases-loop-outcome g l = 10001 - l.step

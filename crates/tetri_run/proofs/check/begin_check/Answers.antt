use Rattle.std.proofs.Common.{arith, refl}
use Rattle.tetri_run.proofs.StepLemmas.{unchecked_in_order}
use Rattle.tetri_run.proofs.check.begin_check.Goals as goal

pub returns : goal.returns
returns c = record {
  keeps = record {
    behind = record { run = tt; worth = refl; optimal = refl; small_worth = omega arith; small_optimal = omega arith };
    sight = (c.in_ok-state.ensures.state, refl);
    reading = c.new-strips.ensures;
    first = refl;
    in_order = unchecked_in_order;
  };
  in_place = omega (arith, c.requires.header.some_cycles);
}

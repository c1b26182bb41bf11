use Rattle.std.proofs.Common.{List, refl, sym, ap, ◌∙◌}
use Rattle.tetri_space.specs.Space.{space}
use Rattle.tetri_prices.specs.declared.filling.Place.{Place}
use Rattle.tetri_prices.specs.Prices.{rows_of}
use Rattle.tetri_prices.specs.steps.Places.{sorted_cost, sorted_gain}
use Rattle.tetri_prices.proofs.PlaceLemmas.{cost_is, gain_is}
use Rattle.tetri_prices.proofs.leaves.leaf_value.Goals as goal

pub returns-clause-value : goal.returns-clause-value
returns-clause-value c =
    let s = space c.args.inst.now in
    let rows = rows_of c.args.prices.now in
    let l = c.args.leaf.now in
    let m = c.args.times in
    record {
      top = refl;
      gain = c.gain_over.ensures ∙ ap (λ (ps : List Place). sorted_gain l ps m) (c.deref.ensures.value ∙ c.in_ok-places.ensures.places) ∙ sym (gain_is s rows l m);
      cost = c.cost_over.ensures.cost ∙ ap (λ (ps : List Place). sorted_cost l ps) (c.deref-2.ensures.value ∙ c.in_ok-places.ensures.places) ∙ sym (cost_is s rows l);
    }

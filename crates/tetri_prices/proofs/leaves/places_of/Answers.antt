use Rattle.std.proofs.Common.{◌≡◌, ◌≤◌, ◌^◌, ◌∷◌, [], All, List, get_or, sym, ◌∙◌, subst}
use Rattle.std.proofs.lemmas.List.Elements.{All-append, All-cons, All-nil}
use Rattle.tetri_space.specs.Space.{space}
use Rattle.tetri_prices.specs.declared.filling.Place.{Place}
use Rattle.tetri_prices.specs.Prices.{rows_of}
use Rattle.tetri_prices.specs.steps.Places.{place_for}
use Rattle.tetri_prices.proofs.PlaceLemmas.{collect_next, part_below, place_is}
use Rattle.tetri_prices.proofs.leaves.places_of.Goals as goal

pub cost_of-cost-requires-clause-there : goal.cost_of-cost-requires-clause-there
cost_of-cost-requires-clause-there c =
    part_below (space c.args.inst.now) c.args.leaf.now.set c.parts_in-part-items.result.now c.loop-part.part-index (c.parts_in-part-items.ensures ∙ c.requires.ready.parts) c.loop-part-test.true

pub capacity_of-capacity-requires-clause-there : goal.capacity_of-capacity-requires-clause-there
capacity_of-capacity-requires-clause-there c =
    part_below (space c.args.inst.now) c.args.leaf.now.set c.parts_in-part-items.result.now c.loop-part.part-index (c.parts_in-part-items.ensures ∙ c.requires.ready.parts) c.loop-part-test.true

pub loop-part-preserved : goal.loop-part-preserved
loop-part-preserved c =
    let s = space c.args.inst.now in
    let rows = rows_of c.args.prices.now in
    let k = c.loop-part.part-index in
    let p = get_or c.parts_in-part-items.result.now k 0 in
    let f = place_for s rows c.args.leaf.now in
    let y : Place = record { cost = c.cost_of-cost.result; capacity = c.capacity_of-capacity.result } in
    let is : y ≡ f p = place_is s rows c.args.leaf.now p c.cost_of-cost.result c.capacity_of-capacity.result c.cost_of-cost.ensures.cost c.capacity_of-capacity.ensures in
    record {
      so_far = collect_next f c.parts_in-part-items.result.now k 0 c.loop-part.places.items c.push.new.self.items _ y c.loop-part-test.true is c.in_ok-push.ensures.items c.loop-part.invariant.so_far;
      small = subst (λ (ps : List Place). All (λ q. q.cost ≤ 2 ^ 70) ps) (sym c.in_ok-push.ensures.items)
          (All-append (λ (q : Place). q.cost ≤ 2 ^ 70) c.loop-part.places.items (y ∷ []) c.loop-part.invariant.small
          (All-cons (λ (q : Place). q.cost ≤ 2 ^ 70) y [] c.cost_of-cost.ensures.small (All-nil (λ (q : Place). q.cost ≤ 2 ^ 70))));
    }

use Rattle.std.proofs.Common.{◌≡◌, ℕ, List, ◌+◌, ◌<◌, ◌∷◌, [], length, ap, ◌∙◌, sym, subst}
use Rattle.std.proofs.lemmas.List.{length-append}
use Rattle.tetri_space.specs.Partitions.{available, partitions}
use Rattle.tetri_space.specs.Space.{space}
use Rattle.tetri_prices.proofs.LoopLemmas.{each_item}
use Rattle.tetri_prices.proofs.capacities.free_of.Goals as goal

pub available-requires-clause-there : goal.available-requires-clause-there
available-requires-clause-there c = subst (λ (gs : List (List ℕ)). c.args.part < length gs) (sym c.requires.partitions.groups) c.requires.there

pub loop-place-preserved : goal.loop-place-preserved
loop-place-preserved c =
    let s = space c.args.inst.now in
    let h = c.loop-place.invariant in
    let old = c.loop-place.free.items in
    let pushed = c.in_ok-push.ensures.items in
    record {
      long = ap length pushed ∙ length-append old (c.available.result ∷ []) ∙ ap (λ n. n + 1) h.long;
      free = each_item (λ i n. n ≡ available s (partitions s) c.args.part (c.args.inst.now.now + i)) old c.push.new.self.items c.available.result c.loop-place.place h.long pushed h.free c.available.ensures;
    }

use Rattle.std.proofs.Common.{◌+◌, ◌∷◌, [], length, ap, ◌∙◌}
use Rattle.std.proofs.lemmas.List.{length-append}
use Rattle.tetri_space.specs.Space.{space}
use Rattle.tetri_compile.proofs.ProgramLaws.{each_list}
use Rattle.tetri_prices.specs.Capacities.{AreFree}
use Rattle.tetri_prices.proofs.capacities.capacities_of.Goals as goal

pub loop-part-preserved : goal.loop-part-preserved
loop-part-preserved c =
    let h = c.loop-part.invariant in
    let old = c.loop-part.free.items in
    let pushed = c.in_ok-push.ensures.items in
    record {
      count = ap length pushed ∙ length-append old (c.in_ok-slots.slots ∷ []) ∙ ap (λ n. n + 1) h.count;
      each = each_list (λ p ns. AreFree (space c.args.inst.now) p ns) old c.push.new.self.items c.in_ok-slots.slots c.loop-part.part h.count pushed h.each c.in_ok-slots.ensures;
    }

use Rattle.std.proofs.Common.{◌≡◌, ◌++◌, ◌∷◌, [], map}
use Rattle.std.proofs.lemmas.List.{map_push}
use Rattle.std.proofs.lemmas.Result.{err_from_is_err_and}
use Rattle.tetri_strl.specs.Tree.{tree}
use Rattle.tetri_parse.proofs.SettledParts.{kept_on, written_on, part_stops, part_goes}
use Rattle.tetri_parse.proofs.settling.+settling.Goals as goal

pub settle_parts-returns-in_err-settle-clause-value : goal.settle_parts-returns-in_err-settle-clause-value
settle_parts-returns-in_err-settle-clause-value t c =
    let p = err_from_is_err_and c.from_residual.result c.from_residual.ensures.1 in
    let e = c.in_err-settle.field-0.0 in
    let u = c.args.terms.unit in
    let a = c.args.terms.arrival in
    rw (p.1, p.2) (part_stops c.args.cluster.now c.args.parts.now c.loop-part.part-index c.loop-part-test.true u a c.args.wanted (map tree c.loop-part.made.items) c.loop-part.sets _ c.loop-part.invariant.so_far c.part-item.result c.part-item.is e c.in_err-settle.ensures.value)

pub settle_parts-loop-part-preserved : goal.settle_parts-loop-part-preserved
settle_parts-loop-part-preserved t c =
    let u = c.args.terms.unit in
    let a = c.args.terms.arrival in
    let expr = c.in_ok-settle.field-0 in
    let pushed : map tree c.push.new.self.items ≡ map tree c.loop-part.made.items ++ tree expr ∷ [] = rw c.in_ok-push.ensures.items (map_push tree c.loop-part.made.items expr) in
    record {
      so_far = rw pushed (part_goes c.args.cluster.now c.args.parts.now c.loop-part.part-index c.loop-part-test.true u a c.args.wanted (map tree c.loop-part.made.items) c.loop-part.sets _ c.loop-part.invariant.so_far c.part-item.result c.part-item.is (tree expr) c.settle.new.sets c.in_ok-settle.ensures.value);
      written = written_on c.args.cluster.now c.args.parts.now c.loop-part.part-index c.loop-part-test.true c.loop-part.invariant.written;
      kept = kept_on c.args.sets.now c.loop-part.sets c.settle.new.sets c.loop-part.invariant.kept c.settle.ensures.kept;
      noted = c.settle.ensures.noted;
    }

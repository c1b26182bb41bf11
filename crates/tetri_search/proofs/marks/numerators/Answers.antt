use Rattle.std.proofs.Common.{◌≡◌, ◌++◌, ◌∷◌, [], ◌<◌, arith, length, refl}
use Rattle.std.proofs.lemmas.Grind.{common_steps}
use Rattle.tetri_search.proofs.Signed.{signed}
use Rattle.tetri_search.proofs.StepLemmas.{numerators_step}
use Rattle.tetri_search.proofs.marks.numerators.Goals as goal

pub loop-j-preserved : goal.loop-j-preserved
loop-j-preserved c =
    let l : c.loop-j.j < length c.args.point.now = omega arith in
    let m : c.push.new.self.items ≡ c.loop-j.numbers.items ++ c.index-point-j.result.num ∷ [] = (let h = c.in_ok-push.ensures.items in grind (arith, common_steps, signed)) in
    numerators_step c.args.point.now c.loop-j.j c.index-point-j.result c.index-point-j.result.num c.loop-j.numbers.items c.push.new.self.items _ l c.index-point-j.is refl m c.loop-j.invariant

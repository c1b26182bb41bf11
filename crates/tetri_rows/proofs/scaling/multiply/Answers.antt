use Rattle.std.proofs.Common.{◌≡◌, ◌<◌, length, get_or, ap, ◌∙◌, arith}
use Rattle.std.proofs.lemmas.Int.{to_z-of_z}
use lib.IntN.{pos, ◌*ℤ◌}
use mir.Val.{to_z, of_z}
use mir.Syntax.{w64}
use Rattle.tetri_rows.specs.Small.{IsShort}
use Rattle.tetri_rows.proofs.Words.{word, read_rest, set_next}
use Rattle.tetri_rows.proofs.scaling.multiply.Goals as goal

pub loop-k-preserved : goal.loop-k-preserved
loop-k-preserved c =
    let k = c.loop-k.k in
    let l : k < length c.args.row.now = c.loop-k-test.true in
    let sh : IsShort (get_or c.args.row.now k (pos 0)) = c.requires.row k (pos 0) l in
    let n = word _ c.times.ensures.fits ∙ c.times.ensures.value
    ∙ ap (λ z. z *ℤ to_z w64 (of_z w64 c.args.scale)) (read_rest c.args.row.now c.loop-k.row k (omega (arith, c.loop-k.auto.row, l)) c.loop-k.invariant.rest sh) in
    let s = set_next (λ q z. z ≡ get_or c.args.row.now q (pos 0) *ℤ to_z w64 (of_z w64 c.args.scale)) c.args.row.now c.loop-k.row k _ (omega (arith, c.loop-k.auto.row, l)) c.loop-k.invariant.front c.loop-k.invariant.rest n in
    record { front = s.0; rest = s.1 }

pub returns : goal.returns
returns c = λ q l. c.loop-k.invariant.front q (omega (arith, l, c.loop-k-test.false)) ∙ ap (λ z. get_or c.args.row.now q (pos 0) *ℤ z) (to_z-of_z _ _ c.ranges.scale)

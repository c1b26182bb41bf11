use Rattle.std.proofs.Common.{◌<◌, length, get_or, sym, ap, ◌∙◌, arith}
use Rattle.std.proofs.lemmas.Int.{to_z-of_z}
use lib.IntN.{pos, ◌*ℤ◌}
use mir.Val.{SFits}
use mir.Syntax.{w64}
use Rattle.std.proofs.Common.{rules}
use Rattle.tetri_rows.specs.Rows.{combined_at}
use Rattle.tetri_rows.proofs.Words.{word, short_word, combined_read, at_word, write_next, read_rest, divides_word}
use Rattle.tetri_rows.proofs.rows.write.Goals as goal

pub divided-requires-clause-divides : goal.divided-requires-clause-divides
divided-requires-clause-divides c =
    let k = c.loop-k.k in
    let l : k < length c.args.row.now = c.loop-k-test.true in
    let n = c.combined-new.ensures.value
    ∙ combined_read _ _ c.args.row.now c.args.pivot.now k _ _
    (read_rest c.args.row.now c.loop-k.row k (omega (arith, c.loop-k.auto.row, l)) c.loop-k.invariant.rest (c.requires.row k (pos 0) l))
    (short_word _ (c.requires.pivot k (pos 0) (omega (arith, c.requires.wide, l))))
    ∙ at_word c.args.d c.args.f c.args.row.now c.args.pivot.now k _ _ (to_z-of_z _ _ c.ranges.d) (to_z-of_z _ _ c.ranges.f) in
    divides_word c.args.g _ (combined_at c.args.d c.args.f c.args.row.now c.args.pivot.now k) _ (to_z-of_z _ _ c.ranges.g) (word c.combined-new.result c.combined-new.ensures.fits ∙ n) (c.requires.divides k l)

pub loop-k-preserved : goal.loop-k-preserved
loop-k-preserved c =
    let k = c.loop-k.k in
    let l : k < length c.args.row.now = c.loop-k-test.true in
    let fz : SFits w64 c.divided.result = search rules in
    let n = c.combined-new.ensures.value
    ∙ combined_read _ _ c.args.row.now c.args.pivot.now k _ _
    (read_rest c.args.row.now c.loop-k.row k (omega (arith, c.loop-k.auto.row, l)) c.loop-k.invariant.rest (c.requires.row k (pos 0) l))
    (short_word _ (c.requires.pivot k (pos 0) (omega (arith, c.requires.wide, l)))) in
    let s = write_next _ _ _ c.args.row.now c.loop-k.row c.args.pivot.now k c.divided.result _ c.combined-new.result (omega (arith, c.loop-k.auto.row, l)) c.loop-k.invariant.front c.loop-k.invariant.rest
    (to_z-of_z w64 c.divided.result fz) (c.divided.ensures.value ∙ word c.combined-new.result c.combined-new.ensures.fits) n in
    record { front = s.0; rest = s.1 }

pub returns : goal.returns
returns c =
    λ q l. ap (λ z. get_or c.loop-k.row q (pos 0) *ℤ z) (sym (to_z-of_z _ _ c.ranges.g))
    ∙ c.loop-k.invariant.front q (omega (arith, l, c.loop-k-test.false))
    ∙ at_word c.args.d c.args.f c.args.row.now c.args.pivot.now q _ _ (to_z-of_z _ _ c.ranges.d) (to_z-of_z _ _ c.ranges.f)

use Rattle.std.proofs.Common.{◌≡◌, ◌<◌, length, get_or, rules, sym, ap, ◌∙◌, arith}
use Rattle.std.proofs.lemmas.Int.{to_z-of_z}
use lib.IntN.{pos, ◌*ℤ◌}
use mir.Val.{to_z, of_z, SFits}
use mir.Syntax.{w64}
use Rattle.tetri_rows.proofs.Words.{read_rest, divides_word, set_next}
use Rattle.tetri_rows.proofs.rows.divide.Goals as goal

pub divided-requires-clause-divides : goal.divided-requires-clause-divides
divided-requires-clause-divides c =
    let k = c.loop-k.k in
    let l : k < length c.args.row.now = c.loop-k-test.true in
    divides_word c.args.g _ (get_or c.args.row.now k (pos 0)) _ (to_z-of_z _ _ c.ranges.g)
    (read_rest c.args.row.now c.loop-k.row k (omega (arith, c.loop-k.auto.row, l)) c.loop-k.invariant.rest (c.requires.row k (pos 0) l)) (c.requires.divides k l)

pub loop-k-preserved : goal.loop-k-preserved
loop-k-preserved c =
    let k = c.loop-k.k in
    let l : k < length c.args.row.now = c.loop-k-test.true in
    let fz : SFits w64 c.divided.result = search rules in
    let n = read_rest c.args.row.now c.loop-k.row k (omega (arith, c.loop-k.auto.row, l)) c.loop-k.invariant.rest (c.requires.row k (pos 0) l) in
    let s = set_next (λ q z. z *ℤ to_z w64 (of_z w64 c.args.g) ≡ get_or c.args.row.now q (pos 0)) c.args.row.now c.loop-k.row k _ (omega (arith, c.loop-k.auto.row, l)) c.loop-k.invariant.front c.loop-k.invariant.rest
    (ap (λ z. z *ℤ to_z w64 (of_z w64 c.args.g)) (to_z-of_z w64 c.divided.result fz) ∙ c.divided.ensures.value ∙ n) in
    record { front = s.0; rest = s.1 }

pub returns : goal.returns
returns c = λ q l. ap (λ z. get_or c.loop-k.row q (pos 0) *ℤ z) (sym (to_z-of_z _ _ c.ranges.g)) ∙ c.loop-k.invariant.front q (omega (arith, l, c.loop-k-test.false))

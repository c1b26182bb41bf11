use Rattle.std.proofs.Common.{refl}
use mir.Val.{to_z, of_z}
use mir.Syntax.{w64}
use Rattle.tetri_rows.proofs.Words.{short_word}
use Rattle.tetri_rows.proofs.WholeRows.{numbers_next, numbers_done, short_next}
use Rattle.tetri_rows.proofs.whole.numbers_over.Goals as goal

pub loop-k-preserved : goal.loop-k-preserved
loop-k-preserved c =
    let D = to_z w64 (of_z w64 c.args.den) in
    let N = to_z w64 (of_z w64 c.in-Some.number) in
    record {
      same = numbers_next D D c.in-Some.number N c.args.row.now c.loop-k.k c.loop-k.numbers.items c.push.new.self.items c.index-row-k.result refl (short_word c.in-Some.number c.in-Some.ensures.short) c.loop-k-test.true c.in_ok-push-in-Some.ensures.items c.index-row-k.is c.in-Some.ensures.value c.loop-k.invariant.same;
      short = short_next c.in-Some.number N c.loop-k.numbers.items c.push.new.self.items (short_word c.in-Some.number c.in-Some.ensures.short) c.in_ok-push-in-Some.ensures.items c.in-Some.ensures.short c.loop-k.invariant.short;
    }

pub returns-clause-same : goal.returns-clause-same
returns-clause-same c =
    let D = to_z w64 (of_z w64 c.args.den) in
    numbers_done D c.args.den c.args.row.now c.loop-k.k c.loop-k.numbers.items (short_word c.args.den c.requires.short) c.loop-k-test.false c.loop-k.invariant.same

use Rattle.std.proofs.Common.{refl}
use mir.Val.{to_z, of_z}
use mir.Syntax.{w64}
use Rattle.tetri_rows.proofs.Words.{short_word}
use Rattle.tetri_rows.proofs.FractionLists.{fractions_next, fractions_done}
use Rattle.tetri_rows.proofs.rows.fractions.Goals as goal

pub loop-k-preserved : goal.loop-k-preserved
loop-k-preserved c =
    let D = to_z w64 (of_z w64 c.args.den) in
    fractions_next D D c.args.row.now c.loop-k.k c.loop-k.numbers.items c.push.new.self.items c.at.result refl c.loop-k-test.true c.in_ok-push.ensures.items c.at.ensures c.loop-k.invariant

pub returns : goal.returns
returns c =
    let D = to_z w64 (of_z w64 c.args.den) in
    fractions_done D c.args.den c.args.row.now c.loop-k.k c.loop-k.numbers.items (short_word c.args.den c.requires.den.short) c.loop-k-test.false c.loop-k.invariant

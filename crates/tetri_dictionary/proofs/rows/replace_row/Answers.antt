use Rattle.std.proofs.Common.{◌+◌, sym, ◌∙◌, arith}
use Rattle.std.proofs.lemmas.List.{length-set}
use Rattle.tetri_num.specs.Frac.{value}
use Rattle.tetri_dictionary.proofs.Entries.{value_at_next, replaced_stays, replaced_start, replaced_next, replaced_stop, replaced_done}
use Rattle.tetri_dictionary.proofs.rows.replace_row.Goals as goal

pub returns-then-is_zero : goal.returns-then-is_zero
returns-then-is_zero c =
    replaced_stays _ c.args.i c.args.j c.args.row.now c.args.solved.now (value c.index-row-j.result) (omega (arith, c.requires.wide, c.requires.solved))
    (value_at_next c.args.row.now c.args.j c.index-row-j.result (omega (arith, c.requires.wide, c.requires.place)) c.index-row-j.is) (c.is_zero.ensures.0 c.if-is_zero.true)

pub loop-k-init : goal.loop-k-init
loop-k-init c =
    replaced_start _ c.args.i c.args.j c.args.row.now c.args.solved.now (value c.index-row-j.result) c.whole.result
    (value_at_next c.args.row.now c.args.j c.index-row-j.result (omega (arith, c.requires.wide, c.requires.place)) c.index-row-j.is) c.whole.ensures.rational

pub returns-in-Err : goal.returns-in-Err
returns-in-Err c =
    sym c.loop-k.invariant
    ∙ replaced_stop _ c.args.i c.loop-k.k (value c.index-row-j.result) c.loop-k.row c.args.solved.now c.index-row-k.result c.index-solved-k.result c.in-Err.place
    (omega (arith, length-set c.args.row.now (c.args.j + 1) c.whole.result)) (omega (arith, length-set c.args.row.now (c.args.j + 1) c.whole.result)) c.index-row-k.is c.index-solved-k.is c.in-Err.ensures

pub loop-k-preserved : goal.loop-k-preserved
loop-k-preserved c =
    replaced_next _ c.args.i c.loop-k.k (value c.index-row-j.result) c.loop-k.row c.args.solved.now c.index-row-k.result c.index-solved-k.result c.in-Ok.new
    (omega (arith, length-set c.args.row.now (c.args.j + 1) c.whole.result)) (omega (arith, length-set c.args.row.now (c.args.j + 1) c.whole.result)) c.index-row-k.is c.index-solved-k.is c.in-Ok.ensures
    ∙ c.loop-k.invariant

pub returns : goal.returns
returns c = sym c.loop-k.invariant ∙ replaced_done _ c.args.i c.loop-k.k (value c.index-row-j.result) c.loop-k.row c.args.solved.now (omega (arith, length-set c.args.row.now (c.args.j + 1) c.whole.result)) (omega (arith, length-set c.args.row.now (c.args.j + 1) c.whole.result))

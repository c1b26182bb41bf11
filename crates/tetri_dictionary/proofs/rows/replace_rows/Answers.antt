use Rattle.std.proofs.Common.{◌+◌, ◌<◌, List, length, sym, ap, ◌∙◌, arith}
use Rattle.std.specs.Global.{Vec}
use Rattle.tetri_num.specs.declared.fractions.Frac.{Frac}
use Rattle.tetri_dictionary.specs.Fractions.{values, rows_of}
use Rattle.tetri_dictionary.specs.Pivots.{next_row}
use Rattle.tetri_dictionary.proofs.TableRows.{rest_of, walk_write, walk_own, walk_stop, walk_done, walk_init, wide_write, wide_same}
use Rattle.tetri_dictionary.proofs.rows.replace_rows.Goals as goal
use Rattle.tetri_dictionary.proofs.rows.replace_rows.Goals.{then-k-i+in-Ok, else-k-i}

pub returns-in-Err-clause-formed : goal.returns-in-Err-clause-formed
returns-in-Err-clause-formed c =
    sym c.loop-k.invariant.formed
    ∙ walk_stop c.args.columns c.args.i c.args.j (values c.args.solved.now) c.loop-k.rows c.loop-k.k c.index-rows-k.result c.deref_mut.result.now c.in-Err.place (omega arith) c.if-k-i.true c.deref_mut.ensures.value c.in-Err.ensures

pub loop-k-preserved : goal.loop-k-preserved
loop-k-preserved c =
    let h : c.loop-k.k < length c.loop-k.rows = omega arith in
    elim c.if-k-i.branch [
      | then-k-i+in-Ok w ↦ record {
        formed =
            walk_write c.args.columns c.args.i c.args.j (values c.args.solved.now) c.loop-k.rows c.if-k-i.rows c.loop-k.k w.index-rows-k.result _ _ h w.if-k-i.true w.deref_mut.ensures.value (w.replace_row.auto.row) w.rows-is w.in-Ok.ensures
            ∙ c.loop-k.invariant.formed;
        wide = wide_write c.args.columns c.loop-k.rows c.if-k-i.rows c.loop-k.k w.index-rows-k.result _ _ c.loop-k.invariant.wide h w.deref_mut.ensures.value (w.replace_row.auto.row) w.rows-is;
      }
      | else-k-i w ↦ record {
        formed =
            ap (λ (rows : List (Vec Frac)). rest_of (next_row c.args.columns c.args.i c.args.j (values c.args.solved.now)) c.args.i (values c.args.solved.now) (rows_of rows) (c.loop-k.k + 1)) w.rows-is
            ∙ walk_own c.args.columns c.args.i c.args.j (values c.args.solved.now) c.loop-k.rows c.loop-k.k h w.if-k-i.false
            ∙ c.loop-k.invariant.formed;
        wide = wide_same c.args.columns c.loop-k.rows c.if-k-i.rows c.loop-k.invariant.wide w.rows-is;
      }
    ]

pub loop-k-init : goal.loop-k-init
loop-k-init c = record { formed = walk_init c.args.columns c.args.i c.args.j (values c.args.solved.now) c.args.rows.now; wide = c.requires.wide }

pub returns-clause-formed : goal.returns-clause-formed
returns-clause-formed c = sym c.loop-k.invariant.formed ∙ walk_done c.args.columns c.args.i c.args.j (values c.args.solved.now) c.loop-k.rows c.loop-k.k (omega arith)

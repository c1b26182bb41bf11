use Rattle.std.proofs.Common.{◌+◌, ◌<◌, List, length, sym, ap, subst, ◌∙◌, arith}
use Rattle.tetri_dictionary.specs.declared.lines.Line.{Line}
use Rattle.tetri_dictionary.specs.Pivots.{next_row}
use Rattle.tetri_dictionary.specs.Sparse.{AreLines, line_of, lines_of}
use Rattle.tetri_dictionary.proofs.SparsePivots.{fault_along, lines_done, lines_next, lines_own, lines_stop, sound_set}
use Rattle.tetri_dictionary.proofs.TableRows.{rest_of}
use Rattle.tetri_dictionary.proofs.lines.replace_lines.Goals as goal
use Rattle.tetri_dictionary.proofs.lines.replace_lines.Goals.{then-k-i+in-Ok, else-k-i}

pub replace_line-requires-clause-entries : goal.replace_line-requires-clause-entries
replace_line-requires-clause-entries c =
    let h : c.loop-k.k < length c.loop-k.lines = omega arith in
    c.loop-k.invariant.sound c.loop-k.k c.index-lines-k.result h

pub returns-in-Err-clause-formed : goal.returns-in-Err-clause-formed
returns-in-Err-clause-formed c =
    let h : c.loop-k.k < length c.loop-k.lines = omega arith in
    fault_along c.in-Err.fault _ _ c.loop-k.invariant.formed
    (lines_stop c.args.columns c.args.i c.args.j (line_of c.args.columns c.args.solved.now) c.loop-k.lines c.loop-k.k c.index-lines-k.result c.in-Err.fault h c.if-k-i.true c.in-Err.ensures.formed)

pub loop-k-preserved : goal.loop-k-preserved
loop-k-preserved c =
    let n = c.args.columns in
    let s = line_of n c.args.solved.now in
    let h : c.loop-k.k < length c.loop-k.lines = omega arith in
    elim c.if-k-i.branch [
      | then-k-i+in-Ok w ↦ record {
        formed =
            ap (λ (ls : List Line). rest_of (next_row n c.args.i c.args.j s) c.args.i s (lines_of n ls) (c.loop-k.k + 1)) w.lines-is
            ∙ lines_next n c.args.i c.args.j s c.loop-k.lines c.loop-k.k w.index-lines-k.result w.replace_line.new.line h w.if-k-i.true w.in-Ok.ensures.formed
            ∙ c.loop-k.invariant.formed;
        sound = subst (λ (ls : List Line). AreLines n ls) (sym w.lines-is) (sound_set n c.loop-k.lines c.loop-k.k w.replace_line.new.line c.loop-k.invariant.sound w.in-Ok.ensures.sound);
      }
      | else-k-i w ↦ record {
        formed =
            ap (λ (ls : List Line). rest_of (next_row n c.args.i c.args.j s) c.args.i s (lines_of n ls) (c.loop-k.k + 1)) w.lines-is
            ∙ lines_own n c.args.i c.args.j s c.loop-k.lines c.loop-k.k h w.if-k-i.false
            ∙ c.loop-k.invariant.formed;
        sound = subst (λ (ls : List Line). AreLines n ls) (sym w.lines-is) c.loop-k.invariant.sound;
      }
    ]

pub returns-clause-formed : goal.returns-clause-formed
returns-clause-formed c = sym c.loop-k.invariant.formed ∙ lines_done c.args.columns c.args.i c.args.j (line_of c.args.columns c.args.solved.now) c.loop-k.lines c.loop-k.k (omega arith)

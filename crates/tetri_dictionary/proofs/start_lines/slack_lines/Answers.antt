use Rattle.std.proofs.Common.{◌<◌, List, length, sym, subst, ◌∙◌, arith}
use Rattle.std.proofs.lemmas.List.Elements.{All-push}
use Rattle.tetri_dictionary.specs.declared.lines.Line.{Line}
use Rattle.tetri_dictionary.specs.Sparse.{AreEntries, AreLines}
use Rattle.tetri_dictionary.proofs.FirstTable.{fit_row, slacks_more}
use Rattle.tetri_dictionary.proofs.SparseStart.{line_pushed}
use Rattle.tetri_dictionary.proofs.start_lines.slack_lines.Goals as goal

pub slack_line-requires-clause-row : goal.slack_line-requires-clause-row
slack_line-requires-clause-row c =
    let h : c.loop-i.i < length c.args.p.now.rows.items = omega (arith, c.len-i-end.ensures, c.args.p.now.rows.ok.0) in
    fit_row c.args.p.now c.loop-i.i c.index.result.now c.requires.fit h c.index.ensures

pub loop-i-preserved : goal.loop-i-preserved
loop-i-preserved c =
    let n = length c.args.p.now.costs.items in
    let h : c.loop-i.i < length c.args.p.now.rows.items = omega (arith, c.len-i-end.ensures, c.args.p.now.rows.ok.0) in
    record {
      formed =
          line_pushed n c.loop-i.lines.items c.push.new.self.items _ _ _ _ c.in_ok-push.ensures.items c.in_ok-slack_line.ensures.numbers
          (slacks_more c.args.p.now.costs.items c.args.start.now c.args.p.now.rows.items c.loop-i.i c.index.result.now h c.index.ensures)
          ∙ c.loop-i.invariant.formed;
      sound = subst (λ (ls : List Line). AreLines n ls) (sym c.in_ok-push.ensures.items) (All-push (λ (l : Line). AreEntries n l.entries.items) c.loop-i.lines.items _ c.loop-i.invariant.sound c.in_ok-slack_line.ensures.sound);
    }

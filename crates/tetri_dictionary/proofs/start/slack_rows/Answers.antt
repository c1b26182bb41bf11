use Rattle.std.proofs.Common.{◌<◌, length, ◌∙◌, arith}
use Rattle.tetri_dictionary.proofs.FirstTable.{row_pushed, slacks_more, fit_row}
use Rattle.tetri_dictionary.proofs.start.slack_rows.Goals as goal

pub slack_row-requires-clause-row : goal.slack_row-requires-clause-row
slack_row-requires-clause-row c =
    let h : c.loop-i.i < length c.args.p.now.rows.items = omega (arith, c.len-i-end.ensures, c.args.p.now.rows.ok.0) in
    fit_row c.args.p.now c.loop-i.i c.index.result.now c.requires.fit h c.index.ensures

pub loop-i-preserved : goal.loop-i-preserved
loop-i-preserved c =
    let h : c.loop-i.i < length c.args.p.now.rows.items = omega (arith, c.len-i-end.ensures, c.args.p.now.rows.ok.0) in
    row_pushed c.loop-i.rows.items c.push.new.self.items _ _ _ _ c.in_ok-push.ensures.items c.in_ok-slack_row.ensures
    (slacks_more c.args.p.now.costs.items c.args.start.now c.args.p.now.rows.items c.loop-i.i c.index.result.now h c.index.ensures)
    ∙ c.loop-i.invariant

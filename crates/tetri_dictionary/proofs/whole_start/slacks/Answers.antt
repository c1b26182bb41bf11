use Rattle.std.proofs.Common.{◌<◌, length, ◌∙◌, arith}
use Rattle.tetri_dictionary.proofs.FirstTable.{fit_row, slacks_more}
use Rattle.tetri_dictionary.proofs.WholeStart.{row_pushed, sound_push}
use Rattle.tetri_dictionary.proofs.whole_start.slacks.Goals as goal

pub slack-requires-clause-row : goal.slack-requires-clause-row
slack-requires-clause-row c =
    let h : c.loop-i.i < length c.args.p.now.rows.items = omega (arith, c.len-i-end.ensures, c.args.p.now.rows.ok.0) in
    fit_row c.args.p.now c.loop-i.i c.index.result.now c.requires.fit h c.index.ensures

pub loop-i-preserved : goal.loop-i-preserved
loop-i-preserved c =
    let n = length c.args.p.now.costs.items in
    let h : c.loop-i.i < length c.args.p.now.rows.items = omega (arith, c.len-i-end.ensures, c.args.p.now.rows.ok.0) in
    record {
      formed =
          row_pushed c.loop-i.rows.items c.push.new.self.items _ _ _ _ c.in_ok-push.ensures.items c.in_ok-slack.ensures.numbers
          (slacks_more c.args.p.now.costs.items c.args.start.now c.args.p.now.rows.items c.loop-i.i c.index.result.now h c.index.ensures)
          ∙ c.loop-i.invariant.formed;
      sound = sound_push n c.loop-i.rows.items c.push.new.self.items _ c.in_ok-push.ensures.items c.loop-i.invariant.sound c.in_ok-slack.ensures.sound;
    }

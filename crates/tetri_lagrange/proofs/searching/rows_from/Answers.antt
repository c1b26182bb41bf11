use Rattle.std.proofs.Common.{◌∷◌, [], ◌+◌, length, ap, ◌∙◌}
use Rattle.std.proofs.lemmas.List.{length-append}
use Rattle.tetri_lagrange.proofs.RowLemmas.{rows_long}
use Rattle.tetri_lagrange.proofs.searching.rows_from.Goals as goal

pub loop-part-preserved : goal.loop-part-preserved
loop-part-preserved c =
    let h = c.loop-part.invariant in
    let old = c.loop-part.rows.items in
    let pushed = c.in_ok-push.ensures.items in
    record {
      count = ap length pushed ∙ length-append old (c.in_ok-row_of.field-0 ∷ []) ∙ ap (λ n. n + 1) h.count;
      long = rows_long c.args.inst.now.window old c.in_ok-row_of.field-0 c.push.new.self.items pushed h.long c.in_ok-row_of.ensures;
    }

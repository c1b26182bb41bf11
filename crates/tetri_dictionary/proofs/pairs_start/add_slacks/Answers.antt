use Rattle.std.proofs.Common.{◌≡◌, ◌<◌, ◌++◌, [], ◌∷◌, length, sym, subst, ◌∙◌, arith}
use Rattle.tetri_dictionary.specs.Drafts.{draft_rows, IsDraft}
use Rattle.tetri_dictionary.specs.Mixed.{mixed_row, IsMixedRow}
use Rattle.tetri_dictionary.proofs.FirstTable.{fit_row, slacks_more}
use Rattle.tetri_dictionary.proofs.WholeStart.{row_pushed, rows_step}
use Rattle.tetri_dictionary.proofs.pairs_start.add_slacks.Goals as goal

pub slack-requires-clause-row : goal.slack-requires-clause-row
slack-requires-clause-row c =
    let h : c.loop-i.i < length c.args.p.now.rows.items = omega (arith, c.len-i-end.ensures, c.args.p.now.rows.ok.0) in
    fit_row c.args.p.now c.loop-i.i c.index.result.now c.requires.fit h c.index.ensures

pub keep-requires-clause-draft : goal.keep-requires-clause-draft
keep-requires-clause-draft c =
    let ne : c.len-columns.result ≡ length c.args.p.now.costs.items = c.len-columns.ensures ∙ c.args.p.now.costs.ok.0 in
    subst (λ k. IsDraft k c.loop-i.draft) (sym ne) c.loop-i.invariant.draft

pub keep-requires-clause-row : goal.keep-requires-clause-row
keep-requires-clause-row c =
    let ne : c.len-columns.result ≡ length c.args.p.now.costs.items = c.len-columns.ensures ∙ c.args.p.now.costs.ok.0 in
    subst (λ k. IsMixedRow k c.in_ok-slack.field-0) (sym ne) c.in_ok-slack.ensures.sound

pub loop-i-preserved : goal.loop-i-preserved
loop-i-preserved c =
    let cs = c.args.p.now.costs.items in
    let n = length cs in
    let ne : c.len-columns.result ≡ n = c.len-columns.ensures ∙ c.args.p.now.costs.ok.0 in
    let h : c.loop-i.i < length c.args.p.now.rows.items = omega (arith, c.len-i-end.ensures, c.args.p.now.rows.ok.0) in
    record {
      draft = subst (λ k. IsDraft k c.keep.new.draft) ne c.in_ok-keep.ensures.draft;
      rows =
          rows_step (draft_rows n c.loop-i.draft) (draft_rows n c.keep.new.draft) (mixed_row c.in_ok-slack.field-0) _ _ _
          (subst (λ k. draft_rows k c.keep.new.draft ≡ draft_rows k c.loop-i.draft ++ (mixed_row c.in_ok-slack.field-0 ∷ [])) ne c.in_ok-keep.ensures.rows)
          c.in_ok-slack.ensures.numbers (slacks_more cs c.args.start.now c.args.p.now.rows.items c.loop-i.i c.index.result.now h c.index.ensures)
          ∙ c.loop-i.invariant.rows;
      kept =
          row_pushed c.loop-i.draft.rows.items c.keep.new.draft.rows.items c.in_ok-slack.field-0 _ _ _ c.in_ok-keep.ensures.kept c.in_ok-slack.ensures.numbers
          (slacks_more cs c.args.start.now c.args.p.now.rows.items c.loop-i.i c.index.result.now h c.index.ensures)
          ∙ c.loop-i.invariant.kept;
      columns = c.in_ok-keep.ensures.columns ∙ c.loop-i.invariant.columns;
    }

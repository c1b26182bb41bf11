use Rattle.std.proofs.Common.{◌≡◌, ◌+◌, ◌++◌, List, length, map, sym, ap, subst, ◌∙◌, arith}
use Rattle.std.specs.Prelude.{IfOk, IfSome}
use Rattle.std.proofs.lemmas.List.FromFn.{length-range_with_len}
use lib.IntN.{ℤ}
use Rattle.tetri_algebra.specs.Rational.{whole_ℚ}
use Rattle.tetri_ip.specs.Points.{bounds_of}
use Rattle.tetri_dictionary.specs.declared.mixed.MixedRow.{MixedRow}
use Rattle.tetri_dictionary.specs.Drafts.{draft_rows, IsDraft}
use Rattle.tetri_dictionary.specs.Holders.{AreHolders}
use Rattle.tetri_dictionary.specs.Mixed.{mixed_rows, AreMixedRows, IsMixedRow}
use Rattle.tetri_dictionary.specs.Pairs.{origin_at, table_of}
use Rattle.tetri_dictionary.specs.Start.{first_rows, objective_row, slack_row}
use Rattle.tetri_dictionary.specs.Tables.{Table}
use Rattle.tetri_dictionary.proofs.FirstHolders.{kept_front, slacks_among, slacks_held}
use Rattle.tetri_dictionary.proofs.FirstPairs.{all_rows, last_place, row_for_each}
use Rattle.tetri_dictionary.proofs.FirstTable.{wholes}
use Rattle.tetri_dictionary.proofs.WholeStart.{first_is, sized}
use Rattle.tetri_dictionary.proofs.pairs_start.first_pairs.Goals as goal

pub add_slacks-requires-clause-draft : goal.add_slacks-requires-clause-draft
add_slacks-requires-clause-draft c = subst (λ k. IsDraft k c.in_ok-draft.draft) (c.len-columns.ensures ∙ c.args.p.now.costs.ok.0) c.in_ok-draft.ensures.draft

pub keep-requires-clause-draft : goal.keep-requires-clause-draft
keep-requires-clause-draft c = subst (λ k. IsDraft k c.add_bounds.new.draft) (sym (c.len-columns.ensures ∙ c.args.p.now.costs.ok.0)) c.in_ok-add_bounds.ensures.draft

pub keep-requires-clause-row : goal.keep-requires-clause-row
keep-requires-clause-row c = subst (λ k. IsMixedRow k c.in_ok-objective.field-0) (sym (c.len-columns.ensures ∙ c.args.p.now.costs.ok.0)) c.in_ok-objective.ensures.sound

pub first_holders-requires-clause-rows : goal.first_holders-requires-clause-rows
first_holders-requires-clause-rows c = subst (λ (us : List MixedRow). AreMixedRows c.len-columns.result us) (sym c.deref-3.ensures.value) c.in_ok-keep.ensures.draft.rows

pub first_holders-requires-clause-count : goal.first_holders-requires-clause-count
first_holders-requires-clause-count c =
    let p = c.args.p.now in
    let d = c.add_slacks.new.draft.rows.items in
    slacks_among p.costs.items c.deref.result.now p.rows.items d c.deref-3.result.now
    (c.in_ok-add_slacks.ensures.kept ∙ ap (λ (us : List MixedRow). mixed_rows us ++ wholes (map (slack_row p.costs.items c.deref.result.now) p.rows.items)) c.in_ok-draft.ensures.kept)
    (kept_front d c.add_bounds.new.draft.rows.items c.keep.new.draft.rows.items c.deref-3.result.now c.in_ok-objective.field-0 c.in_ok-add_bounds.ensures.kept c.in_ok-keep.ensures.kept c.deref-3.ensures.value)

pub first_holders-requires-clause-numbers : goal.first_holders-requires-clause-numbers
first_holders-requires-clause-numbers c =
    let p = c.args.p.now in
    let d = c.add_slacks.new.draft.rows.items in
    slacks_held p.costs.items c.deref.result.now p.rows.items d c.deref-3.result.now
    (c.in_ok-add_slacks.ensures.kept ∙ ap (λ (us : List MixedRow). mixed_rows us ++ wholes (map (slack_row p.costs.items c.deref.result.now) p.rows.items)) c.in_ok-draft.ensures.kept)
    (kept_front d c.add_bounds.new.draft.rows.items c.keep.new.draft.rows.items c.deref-3.result.now c.in_ok-objective.field-0 c.in_ok-add_bounds.ensures.kept c.in_ok-keep.ensures.kept c.deref-3.ensures.value)

pub pairs_of-requires-clause-holders : goal.pairs_of-requires-clause-holders
pairs_of-requires-clause-holders c =
    subst (λ n. AreHolders n c.in_ok-holders.holders.items (mixed_rows c.keep.new.draft.rows.items)) (sym (ap length c.in_ok-nonbasic.ensures ∙ length-range_with_len 0 c.len-columns.result))
    (subst (λ (us : List MixedRow). AreHolders c.len-columns.result c.in_ok-holders.holders.items (mixed_rows us)) c.deref-3.ensures.value c.in_ok-holders.ensures)

pub pairs_of-requires-clause-draft : goal.pairs_of-requires-clause-draft
pairs_of-requires-clause-draft c =
    let p = c.args.p.now in
    let b = bounds_of c.args.r.now in
    let n = c.len-columns.result in
    let ne : n ≡ length p.costs.items = c.len-columns.ensures ∙ p.costs.ok.0 in
    let ke : c.len.result + n ≡ length p.rows.items + length p.costs.items = omega (arith, ne, c.len.ensures, p.rows.ok.0) in
    let g : draft_rows (length p.costs.items) c.keep.new.draft ≡ wholes (first_rows p b) =
    all_rows p b c.deref.result.now n c.in_ok-draft.draft c.add_slacks.new.draft c.add_bounds.new.draft c.keep.new.draft c.in_ok-objective.field-0 ne (c.deref.ensures.value ∙ c.in_ok-start.ensures.corner) c.in_ok-draft.ensures.rows c.in_ok-add_slacks.ensures.rows c.in_ok-add_bounds.ensures.rows
    (c.in_ok-objective.ensures.numbers ∙ ap (λ (s : List ℤ). map whole_ℚ (objective_row p.costs.items s)) (c.deref-2.ensures.value ∙ sym c.deref.ensures.value)) c.in_ok-keep.ensures.rows in
    let z = sized p b n (c.len.result + n) (length c.keep.new.draft.origins.items) c.in_ok-nonbasic.nonbasic.items c.in_ok-basic.basic.items (draft_rows (length p.costs.items) c.keep.new.draft) c.requires.fit c.requires.in_box ne ke c.in_ok-nonbasic.ensures c.in_ok-basic.ensures g (row_for_each (length p.costs.items) c.keep.new.draft) in
    subst (λ k. IsDraft k c.keep.new.draft) (ne ∙ sym z.nonbasic) c.in_ok-keep.ensures.draft

pub pairs_of-requires-clause-objective : goal.pairs_of-requires-clause-objective
pairs_of-requires-clause-objective c =
    let p = c.args.p.now in
    let b = bounds_of c.args.r.now in
    let n = c.len-columns.result in
    let ne : n ≡ length p.costs.items = c.len-columns.ensures ∙ p.costs.ok.0 in
    let ke : c.len.result + n ≡ length p.rows.items + length p.costs.items = omega (arith, ne, c.len.ensures, p.rows.ok.0) in
    let g : draft_rows (length p.costs.items) c.keep.new.draft ≡ wholes (first_rows p b) =
    all_rows p b c.deref.result.now n c.in_ok-draft.draft c.add_slacks.new.draft c.add_bounds.new.draft c.keep.new.draft c.in_ok-objective.field-0 ne (c.deref.ensures.value ∙ c.in_ok-start.ensures.corner) c.in_ok-draft.ensures.rows c.in_ok-add_slacks.ensures.rows c.in_ok-add_bounds.ensures.rows
    (c.in_ok-objective.ensures.numbers ∙ ap (λ (s : List ℤ). map whole_ℚ (objective_row p.costs.items s)) (c.deref-2.ensures.value ∙ sym c.deref.ensures.value)) c.in_ok-keep.ensures.rows in
    let z = sized p b n (c.len.result + n) (length c.keep.new.draft.origins.items) c.in_ok-nonbasic.nonbasic.items c.in_ok-basic.basic.items (draft_rows (length p.costs.items) c.keep.new.draft) c.requires.fit c.requires.in_box ne ke c.in_ok-nonbasic.ensures c.in_ok-basic.ensures g (row_for_each (length p.costs.items) c.keep.new.draft) in
    ap (λ k. origin_at c.keep.new.draft.origins.items k) (last_place n (length c.in_ok-basic.basic.items) c.add_bounds.new.draft c.keep.new.draft _ c.in_ok-keep.ensures.rows z.rows) ∙ c.in_ok-keep.ensures.last

pub pairs_of-requires-clause-count : goal.pairs_of-requires-clause-count
pairs_of-requires-clause-count c =
    let p = c.args.p.now in
    let b = bounds_of c.args.r.now in
    let n = c.len-columns.result in
    let ne : n ≡ length p.costs.items = c.len-columns.ensures ∙ p.costs.ok.0 in
    let ke : c.len.result + n ≡ length p.rows.items + length p.costs.items = omega (arith, ne, c.len.ensures, p.rows.ok.0) in
    let g : draft_rows (length p.costs.items) c.keep.new.draft ≡ wholes (first_rows p b) =
    all_rows p b c.deref.result.now n c.in_ok-draft.draft c.add_slacks.new.draft c.add_bounds.new.draft c.keep.new.draft c.in_ok-objective.field-0 ne (c.deref.ensures.value ∙ c.in_ok-start.ensures.corner) c.in_ok-draft.ensures.rows c.in_ok-add_slacks.ensures.rows c.in_ok-add_bounds.ensures.rows
    (c.in_ok-objective.ensures.numbers ∙ ap (λ (s : List ℤ). map whole_ℚ (objective_row p.costs.items s)) (c.deref-2.ensures.value ∙ sym c.deref.ensures.value)) c.in_ok-keep.ensures.rows in
    let z = sized p b n (c.len.result + n) (length c.keep.new.draft.origins.items) c.in_ok-nonbasic.nonbasic.items c.in_ok-basic.basic.items (draft_rows (length p.costs.items) c.keep.new.draft) c.requires.fit c.requires.in_box ne ke c.in_ok-nonbasic.ensures c.in_ok-basic.ensures g (row_for_each (length p.costs.items) c.keep.new.draft) in
    z.rows

pub pairs_of-requires-clause-few_rows : goal.pairs_of-requires-clause-few_rows
pairs_of-requires-clause-few_rows c =
    let p = c.args.p.now in
    let b = bounds_of c.args.r.now in
    let n = c.len-columns.result in
    let ne : n ≡ length p.costs.items = c.len-columns.ensures ∙ p.costs.ok.0 in
    let ke : c.len.result + n ≡ length p.rows.items + length p.costs.items = omega (arith, ne, c.len.ensures, p.rows.ok.0) in
    let g : draft_rows (length p.costs.items) c.keep.new.draft ≡ wholes (first_rows p b) =
    all_rows p b c.deref.result.now n c.in_ok-draft.draft c.add_slacks.new.draft c.add_bounds.new.draft c.keep.new.draft c.in_ok-objective.field-0 ne (c.deref.ensures.value ∙ c.in_ok-start.ensures.corner) c.in_ok-draft.ensures.rows c.in_ok-add_slacks.ensures.rows c.in_ok-add_bounds.ensures.rows
    (c.in_ok-objective.ensures.numbers ∙ ap (λ (s : List ℤ). map whole_ℚ (objective_row p.costs.items s)) (c.deref-2.ensures.value ∙ sym c.deref.ensures.value)) c.in_ok-keep.ensures.rows in
    let z = sized p b n (c.len.result + n) (length c.keep.new.draft.origins.items) c.in_ok-nonbasic.nonbasic.items c.in_ok-basic.basic.items (draft_rows (length p.costs.items) c.keep.new.draft) c.requires.fit c.requires.in_box ne ke c.in_ok-nonbasic.ensures c.in_ok-basic.ensures g (row_for_each (length p.costs.items) c.keep.new.draft) in
    z.few_rows

pub pairs_of-requires-clause-few_columns : goal.pairs_of-requires-clause-few_columns
pairs_of-requires-clause-few_columns c =
    let p = c.args.p.now in
    let b = bounds_of c.args.r.now in
    let n = c.len-columns.result in
    let ne : n ≡ length p.costs.items = c.len-columns.ensures ∙ p.costs.ok.0 in
    let ke : c.len.result + n ≡ length p.rows.items + length p.costs.items = omega (arith, ne, c.len.ensures, p.rows.ok.0) in
    let g : draft_rows (length p.costs.items) c.keep.new.draft ≡ wholes (first_rows p b) =
    all_rows p b c.deref.result.now n c.in_ok-draft.draft c.add_slacks.new.draft c.add_bounds.new.draft c.keep.new.draft c.in_ok-objective.field-0 ne (c.deref.ensures.value ∙ c.in_ok-start.ensures.corner) c.in_ok-draft.ensures.rows c.in_ok-add_slacks.ensures.rows c.in_ok-add_bounds.ensures.rows
    (c.in_ok-objective.ensures.numbers ∙ ap (λ (s : List ℤ). map whole_ℚ (objective_row p.costs.items s)) (c.deref-2.ensures.value ∙ sym c.deref.ensures.value)) c.in_ok-keep.ensures.rows in
    let z = sized p b n (c.len.result + n) (length c.keep.new.draft.origins.items) c.in_ok-nonbasic.nonbasic.items c.in_ok-basic.basic.items (draft_rows (length p.costs.items) c.keep.new.draft) c.requires.fit c.requires.in_box ne ke c.in_ok-nonbasic.ensures c.in_ok-basic.ensures g (row_for_each (length p.costs.items) c.keep.new.draft) in
    z.few_columns

pub returns-clause-table : goal.returns-clause-table
returns-clause-table c =
    let p = c.args.p.now in
    let b = bounds_of c.args.r.now in
    let n = c.len-columns.result in
    let ne : n ≡ length p.costs.items = c.len-columns.ensures ∙ p.costs.ok.0 in
    let ke : c.len.result + n ≡ length p.rows.items + length p.costs.items = omega (arith, ne, c.len.ensures, p.rows.ok.0) in
    let g : draft_rows (length p.costs.items) c.keep.new.draft ≡ wholes (first_rows p b) =
    all_rows p b c.deref.result.now n c.in_ok-draft.draft c.add_slacks.new.draft c.add_bounds.new.draft c.keep.new.draft c.in_ok-objective.field-0 ne (c.deref.ensures.value ∙ c.in_ok-start.ensures.corner) c.in_ok-draft.ensures.rows c.in_ok-add_slacks.ensures.rows c.in_ok-add_bounds.ensures.rows
    (c.in_ok-objective.ensures.numbers ∙ ap (λ (s : List ℤ). map whole_ℚ (objective_row p.costs.items s)) (c.deref-2.ensures.value ∙ sym c.deref.ensures.value)) c.in_ok-keep.ensures.rows in
    let z = sized p b n (c.len.result + n) (length c.keep.new.draft.origins.items) c.in_ok-nonbasic.nonbasic.items c.in_ok-basic.basic.items (draft_rows (length p.costs.items) c.keep.new.draft) c.requires.fit c.requires.in_box ne ke c.in_ok-nonbasic.ensures c.in_ok-basic.ensures g (row_for_each (length p.costs.items) c.keep.new.draft) in
    subst (λ (t : Table). IfOk c.pairs_of.result (λ o. IfSome o (λ d. table_of d ≡ t)))
    (first_is p b n (c.len.result + n) c.in_ok-nonbasic.nonbasic.items c.in_ok-basic.basic.items (draft_rows (length c.in_ok-nonbasic.nonbasic.items) c.keep.new.draft) ne ke c.in_ok-nonbasic.ensures c.in_ok-basic.ensures (ap (λ k. draft_rows k c.keep.new.draft) z.nonbasic ∙ g))
    c.pairs_of.ensures.table

use Rattle.std.proofs.Common.{◌≡◌, true, ◌<◌, ◌++◌, [], ◌∷◌, List, None, get_or, length, map, take, arith, sym, ap, subst, ◌∙◌}
use Rattle.std.specs.Prelude.{IfOk, ◌≤ℤ◌, pos}
use Rattle.std.proofs.lemmas.Int.{to_z-of_z}
use Rattle.std.proofs.lemmas.List.{take_all}
use Rattle.std.proofs.Math.Seq.{take-append_seam}
use lib.IntN.{ℤ}
use lib.Signed.{lt_z}
use mir.Val.{to_z, of_z}
use mir.Syntax.{w64, w128}
use Rattle.tetri_algebra.specs.Rational.{ℚ, whole_ℚ}
use Rattle.tetri_rows.proofs.RowLaws.{from_test}
use Rattle.tetri_dictionary.specs.declared.mixed.MixedRow.{MixedRow}
use Rattle.tetri_dictionary.specs.Drafts.{draft_rows, IsDraft}
use Rattle.tetri_dictionary.specs.Mirrors.{mirror, variable_row, IsWidth}
use Rattle.tetri_dictionary.specs.Mixed.{mixed_row, IsMixedRow}
use Rattle.tetri_dictionary.specs.Start.{minus_one_at}
use Rattle.tetri_dictionary.proofs.Drafts.{column_mirrored, if_ok}
use Rattle.tetri_dictionary.proofs.MirrorPlaces.{width_short}
use Rattle.tetri_dictionary.proofs.pairs_start.add_bound.Goals as goal

pub mirror_column-requires-clause-draft : goal.mirror_column-requires-clause-draft
mirror_column-requires-clause-draft c = subst (λ k. IsDraft k c.args.draft.now) (sym (c.len-columns.ensures ∙ c.args.p.now.costs.ok.0)) c.requires.draft

small : (w v : ℤ) → v ≡ w → pos 0 ≤ℤ w → lt_z v (pos 1024) ≡ true → IsWidth w
small w v e l t = record { least = l; most = from_test w (pos 1024) (ap (λ z. lt_z z (pos 1024)) (sym e) ∙ t) }

cast : (w v : ℤ) → v ≡ w → IsWidth w → to_z w64 (of_z w64 v) ≡ w
cast w v e h = ap (λ z. to_z w64 (of_z w64 z)) e ∙ width_short w h

pub mirror_column-requires-clause-within : goal.mirror_column-requires-clause-within
mirror_column-requires-clause-within c =
    let e = to_z-of_z _ _ c.ranges.width in
    let h = small c.args.width _ e c.requires.sign c.if-width-lt-WIDE.true in
    record {
      row = subst (λ k. c.args.j < k) (sym (c.len-columns.ensures ∙ c.args.p.now.costs.ok.0)) c.requires.column;
      width = subst IsWidth (sym (cast c.args.width _ e h)) h;
    }

pub keep-requires-clause-draft : goal.keep-requires-clause-draft
keep-requires-clause-draft c = subst (λ k. IsDraft k c.args.draft.now) (sym (c.len-columns.ensures ∙ c.args.p.now.costs.ok.0)) c.requires.draft

pub keep-requires-clause-row : goal.keep-requires-clause-row
keep-requires-clause-row c = subst (λ k. IsMixedRow k c.in_ok-bound.field-0) (sym (c.len-columns.ensures ∙ c.args.p.now.costs.ok.0)) c.in_ok-bound.ensures.sound

pub returns-then-width-lt-WIDE-clause-draft : goal.returns-then-width-lt-WIDE-clause-draft
returns-then-width-lt-WIDE-clause-draft c = subst (λ k. IfOk c.mirror_column.result (λ _. IsDraft k c.mirror_column.new.draft)) (c.len-columns.ensures ∙ c.args.p.now.costs.ok.0) c.mirror_column.ensures.draft

pub returns-then-width-lt-WIDE-clause-rows : goal.returns-then-width-lt-WIDE-clause-rows
returns-then-width-lt-WIDE-clause-rows c =
    let cs = c.args.p.now.costs.items in
    let n = length cs in
    let old = c.args.draft.now in
    let new = c.mirror_column.new.draft in
    let w = to_z w64 (of_z w64 (to_z w128 (of_z w128 c.args.width))) in
    let e = to_z-of_z _ _ c.ranges.width in
    let we : w ≡ c.args.width = cast c.args.width _ e (small c.args.width _ e c.requires.sign c.if-width-lt-WIDE.true) in
    subst (λ (x : List ℚ). IfOk c.mirror_column.result (λ _. draft_rows n new ≡ draft_rows n old ++ (x ∷ [])))
    (column_mirrored cs c.args.j w ∙ ap (λ (z : ℤ). map whole_ℚ (z ∷ minus_one_at c.args.j 0 cs)) we)
    (subst (λ k. IfOk c.mirror_column.result (λ _. draft_rows k new ≡ draft_rows k old ++ (mirror w (variable_row k c.args.j) ∷ []))) (c.len-columns.ensures ∙ c.args.p.now.costs.ok.0) c.mirror_column.ensures.rows)

pub returns-in_ok-bound-clause-draft : goal.returns-in_ok-bound-clause-draft
returns-in_ok-bound-clause-draft c = subst (λ k. IfOk c.keep.result (λ _. IsDraft k c.keep.new.draft)) (c.len-columns.ensures ∙ c.args.p.now.costs.ok.0) c.keep.ensures.draft

pub returns-in_ok-bound-clause-rows : goal.returns-in_ok-bound-clause-rows
returns-in_ok-bound-clause-rows c =
    let cs = c.args.p.now.costs.items in
    let n = length cs in
    let old = c.args.draft.now in
    let new = c.keep.new.draft in
    subst (λ (x : List ℚ). IfOk c.keep.result (λ _. draft_rows n new ≡ draft_rows n old ++ (x ∷ [])))
    (c.in_ok-bound.ensures.numbers ∙ ap (λ (z : ℤ). map whole_ℚ (z ∷ minus_one_at c.args.j 0 cs)) (to_z-of_z _ _ c.ranges.width))
    (subst (λ k. IfOk c.keep.result (λ _. draft_rows k new ≡ draft_rows k old ++ (mixed_row c.in_ok-bound.field-0 ∷ []))) (c.len-columns.ensures ∙ c.args.p.now.costs.ok.0) c.keep.ensures.rows)

pub returns-in_ok-bound-clause-others : goal.returns-in_ok-bound-clause-others
returns-in_ok-bound-clause-others c =
    if_ok c.keep.result _ _ (λ e. λ q d. ap (λ us. get_or us q None) e) c.keep.ensures.columns

pub returns-then-width-lt-WIDE-clause-kept : goal.returns-then-width-lt-WIDE-clause-kept
returns-then-width-lt-WIDE-clause-kept c =
    let rows = c.args.draft.now.rows.items in
    if_ok c.mirror_column.result _ _ (λ e. ap (λ (us : List MixedRow). take (length rows) us) e ∙ take_all (length rows) rows (omega arith)) c.mirror_column.ensures.kept

pub returns-in_ok-bound-clause-kept : goal.returns-in_ok-bound-clause-kept
returns-in_ok-bound-clause-kept c =
    let rows = c.args.draft.now.rows.items in
    if_ok c.keep.result _ _ (λ e. ap (λ (us : List MixedRow). take (length rows) us) e ∙ take-append_seam rows (c.in_ok-bound.field-0 ∷ [])) c.keep.ensures.kept

use Rattle.std.proofs.Common.{◌≡◌, List, length, sym, subst, ap, ◌∙◌, rules}
use Rattle.std.specs.Prelude.{All}
use Rattle.tetri_dictionary.specs.declared.mixed.MixedRow.{MixedRow}
use Rattle.tetri_dictionary.specs.declared.pairs.Pairs.{Pairs}
use Rattle.tetri_dictionary.specs.Below.{below_of}
use Rattle.tetri_dictionary.specs.Mixed.{mixed_rows, AreMixedRows}
use Rattle.tetri_dictionary.specs.Pairs.{IsWholeRow}
use Rattle.tetri_dictionary.proofs.PairsOf.{pairs_sound}
use Rattle.tetri_dictionary.proofs.pairs_start.pairs_of.Goals as goal

pub are_whole-requires : goal.are_whole-requires
are_whole-requires c =
    subst (λ (us : List MixedRow). AreMixedRows c.len-columns.result us) (sym c.deref.ensures.value) (subst (λ n. AreMixedRows n c.args.draft.rows.items) (sym (c.len-columns.ensures ∙ c.args.nonbasic.ok.0)) c.requires.draft.rows)

pub below_of-requires : goal.below_of-requires
below_of-requires c =
    subst (λ (us : List MixedRow). AreMixedRows c.len-columns.result us) (sym c.deref-2.ensures.value) (subst (λ n. AreMixedRows n c.args.draft.rows.items) (sym (c.len-columns.ensures ∙ c.args.nonbasic.ok.0)) c.requires.draft.rows)

pub returns-clause-sound : goal.returns-clause-sound
returns-clause-sound c =
    let s = c.args.draft in
    let n = c.len-columns.result in
    let ne : n ≡ length c.args.nonbasic.items = c.len-columns.ensures ∙ c.args.nonbasic.ok.0 in
    let t : Pairs = record { nonbasic = c.args.nonbasic; basic = c.args.basic; origins = s.origins; below = s.below; rows = s.rows; row_below = c.in_ok-row_below.row_below; homes = s.homes; mirrors = c.in_ok-mirrors.mirrors; columns = s.columns; holders = c.args.holders; terms = c.new.result } in
    pairs_sound t c.requires.draft c.requires.some c.requires.objective c.requires.count c.requires.few_rows c.requires.few_columns
    (c.in_ok-row_below.ensures ∙ ap (λ (us : List MixedRow). below_of (mixed_rows us)) c.deref-2.ensures.value)
    (search rules)
    c.requires.holders
    (subst (λ k. All (IsWholeRow k) s.rows.items) ne (subst (λ (us : List MixedRow). All (IsWholeRow n) us) c.deref.ensures.value (c.are_whole.ensures c.if-not-are_whole.false)))

use Rattle.std.proofs.Common.{List, length, get_or, sym, ap, ◌∙◌}
use Rattle.tetri_algebra.specs.Rational.{ℚ}
use Rattle.tetri_algebra.specs.RationalRing.{zero_ℚ}
use Rattle.tetri_dictionary.specs.declared.origins.Origin.TheVariants.{Kept, Mirror, Column}
use Rattle.tetri_dictionary.specs.Mirrors.{mirror, variable_row}
use Rattle.tetri_dictionary.specs.Mixed.{mixed_row, mixed_rows}
use Rattle.tetri_dictionary.proofs.MirrorPlaces.{bounded_row, origin_of_place, row_of_place, width_short}
use Rattle.tetri_dictionary.proofs.MixedPivots.{mixed_read}
use Rattle.tetri_dictionary.proofs.pairs_numbers.number.Goals as goal

pub mirror_at-requires-clause-bounded : goal.mirror_at-requires-clause-bounded
mirror_at-requires-clause-bounded c =
    let t = c.args.t.now in
    let n = length t.nonbasic.items in
    let m = length t.rows.items in
    let o = origin_of_place n m t.origins.items c.args.i c.index.result.now (Mirror c.in-Mirror.row c.in-Mirror.width) c.requires.paired.origins.within c.requires.place c.index.ensures c.in-Mirror.is in
    bounded_row t.rows.items c.in-Mirror.row c.index-in-Mirror.result.now c.requires.bounded o.row c.index-in-Mirror.ensures

pub returns-in-Kept : goal.returns-in-Kept
returns-in-Kept c =
    let t = c.args.t.now in
    let n = length t.nonbasic.items in
    let m = length t.rows.items in
    let x = Kept c.in-Kept.row in
    let o = origin_of_place n m t.origins.items c.args.i c.index.result.now x c.requires.paired.origins.within c.requires.place c.index.ensures c.in-Kept.is in
    c.number_at.ensures
    ∙ ap (λ (xs : List ℚ). get_or xs c.args.k zero_ℚ) (sym (row_of_place n (mixed_rows t.rows.items) t.origins.items c.args.i c.index.result.now x c.requires.place c.index.ensures c.in-Kept.is
    ∙ mixed_read t.rows.items c.in-Kept.row c.index-in-Kept.result.now o c.index-in-Kept.ensures))

pub returns-in-Mirror : goal.returns-in-Mirror
returns-in-Mirror c =
    let t = c.args.t.now in
    let n = length t.nonbasic.items in
    let m = length t.rows.items in
    let x = Mirror c.in-Mirror.row c.in-Mirror.width in
    let o = origin_of_place n m t.origins.items c.args.i c.index.result.now x c.requires.paired.origins.within c.requires.place c.index.ensures c.in-Mirror.is in
    c.mirror_at.ensures
    ∙ ap (λ w. get_or (mirror w (mixed_row c.index-in-Mirror.result.now)) c.args.k zero_ℚ) (width_short c.in-Mirror.width o.width)
    ∙ ap (λ (xs : List ℚ). get_or xs c.args.k zero_ℚ) (sym (row_of_place n (mixed_rows t.rows.items) t.origins.items c.args.i c.index.result.now x c.requires.place c.index.ensures c.in-Mirror.is
    ∙ ap (mirror c.in-Mirror.width) (mixed_read t.rows.items c.in-Mirror.row c.index-in-Mirror.result.now o.row c.index-in-Mirror.ensures)))

pub returns-in-Column : goal.returns-in-Column
returns-in-Column c =
    let t = c.args.t.now in
    let n = length t.nonbasic.items in
    let x = Column c.in-Column.place c.in-Column.width in
    let o = origin_of_place n (length t.rows.items) t.origins.items c.args.i c.index.result.now x c.requires.paired.origins.within c.requires.place c.index.ensures c.in-Column.is in
    c.column_at.ensures
    ∙ ap (λ w. get_or (mirror w (variable_row c.len-columns.result c.in-Column.place)) c.args.k zero_ℚ) (width_short c.in-Column.width o.width)
    ∙ ap (λ m. get_or (mirror c.in-Column.width (variable_row m c.in-Column.place)) c.args.k zero_ℚ) (c.len-columns.ensures ∙ t.nonbasic.ok.0)
    ∙ ap (λ (xs : List ℚ). get_or xs c.args.k zero_ℚ) (sym (row_of_place n (mixed_rows t.rows.items) t.origins.items c.args.i c.index.result.now x c.requires.place c.index.ensures c.in-Column.is))

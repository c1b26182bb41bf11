use Rattle.std.proofs.Common.{List, length, sym, ap, ◌∙◌}
use Rattle.tetri_algebra.specs.Rational.{ℚ}
use Rattle.tetri_dictionary.specs.declared.origins.Origin.TheVariants.{Kept, Mirror, Column}
use Rattle.tetri_dictionary.specs.Choices.{has_positive}
use Rattle.tetri_dictionary.specs.Mirrors.{mirror}
use Rattle.tetri_dictionary.specs.Mixed.{mixed_rows}
use Rattle.tetri_dictionary.specs.Tables.{coefficients_of}
use Rattle.tetri_dictionary.proofs.MirrorPlaces.{column_falls, origin_of_place, row_of_place}
use Rattle.tetri_dictionary.proofs.MixedPivots.{mixed_read}
use Rattle.tetri_dictionary.proofs.pairs_numbers.place_rises.Goals as goal

pub returns-in-Kept : goal.returns-in-Kept
returns-in-Kept c =
    let t = c.args.t.now in
    let n = length t.nonbasic.items in
    let x = Kept c.in-Kept.row in
    let o = origin_of_place n (length t.rows.items) t.origins.items c.args.i c.index.result.now x c.requires.paired.origins.within c.requires.place c.index.ensures c.in-Kept.is in
    c.rises.ensures
    ∙ ap (λ (xs : List ℚ). has_positive (coefficients_of xs)) (sym (row_of_place n (mixed_rows t.rows.items) t.origins.items c.args.i c.index.result.now x c.requires.place c.index.ensures c.in-Kept.is
    ∙ mixed_read t.rows.items c.in-Kept.row c.index-in-Kept.result.now o c.index-in-Kept.ensures))

pub returns-in-Mirror : goal.returns-in-Mirror
returns-in-Mirror c =
    let t = c.args.t.now in
    let n = length t.nonbasic.items in
    let w = c.in-Mirror.width in
    let x = Mirror c.in-Mirror.row w in
    let o = origin_of_place n (length t.rows.items) t.origins.items c.args.i c.index.result.now x c.requires.paired.origins.within c.requires.place c.index.ensures c.in-Mirror.is in
    c.falls.ensures w
    ∙ ap (λ (xs : List ℚ). has_positive (coefficients_of xs)) (sym (row_of_place n (mixed_rows t.rows.items) t.origins.items c.args.i c.index.result.now x c.requires.place c.index.ensures c.in-Mirror.is
    ∙ ap (mirror w) (mixed_read t.rows.items c.in-Mirror.row c.index-in-Mirror.result.now o.row c.index-in-Mirror.ensures)))

pub returns-in-Column : goal.returns-in-Column
returns-in-Column c =
    let t = c.args.t.now in
    let n = length t.nonbasic.items in
    let x = Column c.in-Column.place c.in-Column.width in
    sym (ap (λ (xs : List ℚ). has_positive (coefficients_of xs)) (row_of_place n (mixed_rows t.rows.items) t.origins.items c.args.i c.index.result.now x c.requires.place c.index.ensures c.in-Column.is)
    ∙ column_falls c.in-Column.width n c.in-Column.place)

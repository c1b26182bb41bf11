use Rattle.std.proofs.Common.{◌≡◌, ◌-◌, ◌<◌, ℕ, List, Option, Result, Ok, Err, MatchResult, IfOk, IfSome, length, refl, sym, ap, subst, ◌∙◌, arith}
use Rattle.tetri_algebra.specs.Rational.{ℚ}
use Rattle.tetri_num.specs.declared.places.Place.{Place}
use Rattle.tetri_dictionary.specs.declared.origins.Origin.TheVariants.{Kept, Mirror, Column}
use Rattle.tetri_dictionary.specs.Candidates.{candidate_of, IsCandidate}
use Rattle.tetri_dictionary.specs.Mirrors.{mirror, variable_row}
use Rattle.tetri_dictionary.specs.Mixed.{mixed_row, mixed_rows}
use Rattle.tetri_dictionary.specs.Pairs.{table_of}
use Rattle.tetri_dictionary.specs.Tables.{objective_of}
use Rattle.tetri_dictionary.proofs.MirrorPlaces.{origin_of_place, row_of_place}
use Rattle.tetri_dictionary.proofs.MixedPivots.{mixed_read}
use Rattle.tetri_dictionary.proofs.PairsEntering.{column_enters, entering_by, objective_is}
use Rattle.tetri_dictionary.proofs.pairs_entering.place_enters.Goals as goal

pub returns-in-Kept-clause-formed : goal.returns-in-Kept-clause-formed
returns-in-Kept-clause-formed c =
    let t = c.args.t.now in
    let n = length t.nonbasic.items in
    let h = c.requires.sound.paired in
    let l : c.args.i < length t.origins.items = omega (arith, h.origins.count, c.requires.place) in
    let x = Kept c.in-Kept.row in
    let o = origin_of_place n (length t.rows.items) t.origins.items c.args.i c.index.result.now x h.origins.within l c.index.ensures c.in-Kept.is in
    let row = row_of_place n (mixed_rows t.rows.items) t.origins.items c.args.i c.index.result.now x l c.index.ensures c.in-Kept.is ∙ mixed_read t.rows.items c.in-Kept.row c.index-in-Kept.result.now o c.index-in-Kept.ensures in
    let objective = objective_is t _ c.index-objective.result.now h (ap (λ z. z - 1) (c.len.ensures ∙ t.rows.ok.0)) c.index-objective.ensures in
    subst (λ (z : Result (Option (ℕ × ℚ)) Place). MatchResult c.entering_row.result (λ o. z ≡ Ok (candidate_of o)) (λ e. z ≡ Err e))
    (entering_by (table_of t) c.args.i c.deref.result.now (mixed_row c.index-in-Kept.result.now) (mixed_row c.index-objective.result.now) c.deref.ensures.value row objective)
    c.entering_row.ensures.formed

pub returns-in-Kept-clause-positive : goal.returns-in-Kept-clause-positive
returns-in-Kept-clause-positive c =
    let t = c.args.t.now in
    let n = length t.nonbasic.items in
    let h = c.requires.sound.paired in
    let l : c.args.i < length t.origins.items = omega (arith, h.origins.count, c.requires.place) in
    let x = Kept c.in-Kept.row in
    let o = origin_of_place n (length t.rows.items) t.origins.items c.args.i c.index.result.now x h.origins.within l c.index.ensures c.in-Kept.is in
    let row = row_of_place n (mixed_rows t.rows.items) t.origins.items c.args.i c.index.result.now x l c.index.ensures c.in-Kept.is ∙ mixed_read t.rows.items c.in-Kept.row c.index-in-Kept.result.now o c.index-in-Kept.ensures in
    subst (λ (xs : List ℚ). IfOk c.entering_row.result (λ o. IfSome o (λ b. IsCandidate t.nonbasic.items xs b))) (sym row)
    (subst (λ (vs : List ℕ). IfOk c.entering_row.result (λ o. IfSome o (λ b. IsCandidate vs (mixed_row c.index-in-Kept.result.now) b))) c.deref.ensures.value c.entering_row.ensures.positive)

pub returns-in-Mirror-clause-formed : goal.returns-in-Mirror-clause-formed
returns-in-Mirror-clause-formed c =
    let t = c.args.t.now in
    let n = length t.nonbasic.items in
    let h = c.requires.sound.paired in
    let l : c.args.i < length t.origins.items = omega (arith, h.origins.count, c.requires.place) in
    let w = c.in-Mirror.width in
    let x = Mirror c.in-Mirror.row w in
    let o = origin_of_place n (length t.rows.items) t.origins.items c.args.i c.index.result.now x h.origins.within l c.index.ensures c.in-Mirror.is in
    let row = row_of_place n (mixed_rows t.rows.items) t.origins.items c.args.i c.index.result.now x l c.index.ensures c.in-Mirror.is ∙ ap (mirror w) (mixed_read t.rows.items c.in-Mirror.row c.index-in-Mirror.result.now o.row c.index-in-Mirror.ensures) in
    let objective = objective_is t _ c.index-objective.result.now h (ap (λ z. z - 1) (c.len.ensures ∙ t.rows.ok.0)) c.index-objective.ensures in
    sym (entering_by (table_of t) c.args.i c.deref-in-Mirror.result.now (mirror w (mixed_row c.index-in-Mirror.result.now)) (mixed_row c.index-objective.result.now) c.deref-in-Mirror.ensures.value row objective)
    ∙ c.entering_less.ensures.formed w c.args.i

pub returns-in-Mirror-clause-positive : goal.returns-in-Mirror-clause-positive
returns-in-Mirror-clause-positive c =
    let t = c.args.t.now in
    let n = length t.nonbasic.items in
    let h = c.requires.sound.paired in
    let l : c.args.i < length t.origins.items = omega (arith, h.origins.count, c.requires.place) in
    let w = c.in-Mirror.width in
    let x = Mirror c.in-Mirror.row w in
    let o = origin_of_place n (length t.rows.items) t.origins.items c.args.i c.index.result.now x h.origins.within l c.index.ensures c.in-Mirror.is in
    let row = row_of_place n (mixed_rows t.rows.items) t.origins.items c.args.i c.index.result.now x l c.index.ensures c.in-Mirror.is ∙ ap (mirror w) (mixed_read t.rows.items c.in-Mirror.row c.index-in-Mirror.result.now o.row c.index-in-Mirror.ensures) in
    subst (λ (xs : List ℚ). IfSome c.entering_less.result (λ b. IsCandidate t.nonbasic.items xs b)) (sym row)
    (subst (λ (vs : List ℕ). IfSome c.entering_less.result (λ b. IsCandidate vs (mirror w (mixed_row c.index-in-Mirror.result.now)) b)) c.deref-in-Mirror.ensures.value (c.entering_less.ensures.positive w))

pub returns-in-Column-clause-formed : goal.returns-in-Column-clause-formed
returns-in-Column-clause-formed c =
    let t = c.args.t.now in
    let n = length t.nonbasic.items in
    let h = c.requires.sound.paired in
    let l : c.args.i < length t.origins.items = omega (arith, h.origins.count, c.requires.place) in
    let w = c.in-Column.width in
    let x = Column c.in-Column.place w in
    let row = row_of_place n (mixed_rows t.rows.items) t.origins.items c.args.i c.index.result.now x l c.index.ensures c.in-Column.is in
    let xs = mirror w (variable_row n c.in-Column.place) in
    sym (entering_by (table_of t) c.args.i t.nonbasic.items xs (objective_of (table_of t)) refl row refl)
    ∙ column_enters t.nonbasic.items c.args.i n c.in-Column.place w (objective_of (table_of t))

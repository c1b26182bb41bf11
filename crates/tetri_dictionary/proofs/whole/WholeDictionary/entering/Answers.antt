use Rattle.std.proofs.Common.{◌≡◌, ◌<◌, ℕ, List, Option, Result, Ok, Err, MatchResult, IfOk, IfSome, length, sym, subst, ◌∙◌, arith}
use Rattle.tetri_algebra.specs.Rational.{ℚ}
use Rattle.tetri_num.specs.declared.places.Place.{Place}
use Rattle.tetri_dictionary.specs.Candidates.{candidate_of, IsCandidate}
use Rattle.tetri_dictionary.specs.Mixed.{mixed_row, IsMixedRow}
use Rattle.tetri_dictionary.proofs.WholeTables.{entering_is, row_read, row_sound}
use Rattle.tetri_dictionary.proofs.whole.WholeDictionary.entering.Goals as goal

pub entering_row-requires-clause-row : goal.entering_row-requires-clause-row
entering_row-requires-clause-row c =
    let t = c.args.self.now in
    let h : c.args.row < length t.rows.items = omega (arith, c.requires.sound.rows, c.requires.row) in
    subst (λ (vs : List ℕ). IsMixedRow (length vs) c.index.result.now) (sym c.deref.ensures.value) (row_sound t c.args.row c.index.result.now c.requires.sound h c.index.ensures)

pub entering_row-requires-clause-objective : goal.entering_row-requires-clause-objective
entering_row-requires-clause-objective c =
    let t = c.args.self.now in
    let ke : c.len.result ≡ length t.basic.items = c.len.ensures ∙ t.basic.ok.0 in
    let h : c.len.result < length t.rows.items = omega (arith, c.requires.sound.rows, ke) in
    subst (λ (vs : List ℕ). IsMixedRow (length vs) c.index-objective.result.now) (sym c.deref.ensures.value) (row_sound t c.len.result c.index-objective.result.now c.requires.sound h c.index-objective.ensures)

pub returns-clause-formed : goal.returns-clause-formed
returns-clause-formed c =
    let t = c.args.self.now in
    let h : c.args.row < length t.rows.items = omega (arith, c.requires.sound.rows, c.requires.row) in
    let g : length t.basic.items < length t.rows.items = omega (arith, c.requires.sound.rows) in
    subst (λ (z : Result (Option (ℕ × ℚ)) Place). MatchResult c.entering_row.result (λ o. z ≡ Ok (candidate_of o)) (λ e. z ≡ Err e))
    (entering_is t c.args.row c.len.result c.deref.result.now c.index.result.now c.index-objective.result.now c.deref.ensures.value h g (c.len.ensures ∙ t.basic.ok.0) c.index.ensures c.index-objective.ensures)
    c.entering_row.ensures.formed

pub returns-clause-positive : goal.returns-clause-positive
returns-clause-positive c =
    let t = c.args.self.now in
    let h : c.args.row < length t.rows.items = omega (arith, c.requires.sound.rows, c.requires.row) in
    subst (λ (xs : List ℚ). IfOk c.entering_row.result (λ o. IfSome o (λ b. IsCandidate t.nonbasic.items xs b))) (sym (row_read t c.args.row c.index.result.now h c.index.ensures))
    (subst (λ (vs : List ℕ). IfOk c.entering_row.result (λ o. IfSome o (λ b. IsCandidate vs (mixed_row c.index.result.now) b))) c.deref.ensures.value c.entering_row.ensures.positive)

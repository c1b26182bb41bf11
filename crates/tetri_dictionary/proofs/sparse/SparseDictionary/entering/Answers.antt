use Rattle.std.proofs.Common.{◌≡◌, ◌<◌, ℕ, List, Option, Result, Ok, Err, MatchResult, length, sym, subst, ◌∙◌, arith}
use Rattle.tetri_algebra.specs.Rational.{ℚ}
use Rattle.tetri_num.specs.declared.places.Place.{Place}
use Rattle.tetri_dictionary.specs.declared.lines.Entry.{Entry}
use Rattle.tetri_dictionary.specs.Candidates.{candidate_of}
use Rattle.tetri_dictionary.specs.Sparse.{AreEntries}
use Rattle.tetri_dictionary.proofs.SparseTables.{candidates_are, entering_is, line_sound}
use Rattle.tetri_dictionary.proofs.sparse.SparseDictionary.entering.Goals as goal

pub entering_entry-requires-clause-entries : goal.entering_entry-requires-clause-entries
entering_entry-requires-clause-entries c =
    let t = c.args.self.now in
    let h : c.args.row < length t.lines.items = omega (arith, c.requires.sound.rows, c.requires.row) in
    subst (λ (es : List Entry). AreEntries (length c.deref.result.now) es) (sym c.deref-2.ensures.value)
    (subst (λ (vs : List ℕ). AreEntries (length vs) c.index-line.result.now.entries.items) (sym c.deref.ensures.value) (line_sound t c.args.row c.index-line.result.now c.requires.sound h c.index-line.ensures))

pub entering_entry-requires-clause-objective : goal.entering_entry-requires-clause-objective
entering_entry-requires-clause-objective c =
    let t = c.args.self.now in
    let ke : c.len.result ≡ length t.basic.items = c.len.ensures ∙ t.basic.ok.0 in
    let h : c.len.result < length t.lines.items = omega (arith, c.requires.sound.rows, ke) in
    subst (λ (es : List Entry). AreEntries (length c.deref.result.now) es) (sym c.deref-3.ensures.value)
    (subst (λ (vs : List ℕ). AreEntries (length vs) c.index-objective.result.now.entries.items) (sym c.deref.ensures.value) (line_sound t c.len.result c.index-objective.result.now c.requires.sound h c.index-objective.ensures))

pub returns-clause-formed : goal.returns-clause-formed
returns-clause-formed c =
    let t = c.args.self.now in
    let h : c.args.row < length t.lines.items = omega (arith, c.requires.sound.rows, c.requires.row) in
    let g : length t.basic.items < length t.lines.items = omega (arith, c.requires.sound.rows) in
    subst (λ (z : Result (Option (ℕ × ℚ)) Place). MatchResult c.entering_entry.result (λ o. z ≡ Ok (candidate_of o)) (λ e. z ≡ Err e))
    (entering_is t c.args.row c.len.result c.deref.result.now c.index-line.result.now c.index-objective.result.now c.deref-2.result.now c.deref-3.result.now c.deref.ensures.value h g (c.len.ensures ∙ t.basic.ok.0)
    c.index-line.ensures c.deref-2.ensures.value c.index-objective.ensures c.deref-3.ensures.value)
    c.entering_entry.ensures.formed

pub returns-clause-positive : goal.returns-clause-positive
returns-clause-positive c =
    let t = c.args.self.now in
    let h : c.args.row < length t.lines.items = omega (arith, c.requires.sound.rows, c.requires.row) in
    candidates_are t c.args.row c.index-line.result.now c.deref.result.now c.deref-2.result.now c.entering_entry.result h c.index-line.ensures c.deref.ensures.value c.deref-2.ensures.value c.entering_entry.ensures.positive

use Rattle.std.proofs.Common.{◌<◌, length, List, sym, ap, subst, ◌∙◌, arith}
use Rattle.tetri_algebra.specs.Rational.{ℚ}
use Rattle.tetri_dictionary.specs.Choices.{has_positive}
use Rattle.tetri_dictionary.specs.Mixed.{IsMixedRow}
use Rattle.tetri_dictionary.specs.Tables.{coefficients_of}
use Rattle.tetri_dictionary.proofs.WholeTables.{row_read, row_sound}
use Rattle.tetri_dictionary.proofs.whole.WholeDictionary.rises.Goals as goal

pub rises-requires : goal.rises-requires
rises-requires c =
    let t = c.args.self.now in
    let h : c.args.row < length t.rows.items = omega (arith, c.requires.sound.rows, c.requires.row) in
    subst (λ n. IsMixedRow n c.index.result.now) (sym (c.len.ensures ∙ t.nonbasic.ok.0)) (row_sound t c.args.row c.index.result.now c.requires.sound h c.index.ensures)

pub returns : goal.returns
returns c =
    let t = c.args.self.now in
    let h : c.args.row < length t.rows.items = omega (arith, c.requires.sound.rows, c.requires.row) in
    c.rises.ensures ∙ ap (λ (xs : List ℚ). has_positive (coefficients_of xs)) (sym (row_read t c.args.row c.index.result.now h c.index.ensures))

use Rattle.std.proofs.Common.{◌<◌, List, length, sym, ap, subst, ◌∙◌, arith}
use Rattle.tetri_dictionary.specs.declared.lines.Entry.{Entry}
use Rattle.tetri_dictionary.specs.Sparse.{AreAscending, number_of}
use Rattle.tetri_dictionary.proofs.SparseTables.{coefficient_read, line_sound}
use Rattle.tetri_dictionary.proofs.sparse.SparseDictionary.at.Goals as goal

pub number_of-requires : goal.number_of-requires
number_of-requires c =
    let t = c.args.self.now in
    let h : c.args.row < length t.lines.items = omega (arith, c.requires.sound.rows, c.requires.row) in
    subst (λ (es : List Entry). AreAscending es) (sym c.deref.ensures.value) (line_sound t c.args.row c.index-line.result.now c.requires.sound h c.index-line.ensures).ascending

pub returns-else-column-len-clause-coefficient : goal.returns-else-column-len-clause-coefficient
returns-else-column-len-clause-coefficient c =
    let t = c.args.self.now in
    let h : c.args.row < length t.lines.items = omega (arith, c.requires.sound.rows, c.requires.row) in
    λ k. c.number_of.ensures ∙ ap (λ (es : List Entry). number_of es c.args.column) c.deref.ensures.value ∙ coefficient_read t c.args.row c.args.column c.index-line.result.now h c.index-line.ensures k

use Rattle.std.proofs.Common.{◌<◌, List, length, sym, subst, ◌∙◌, arith}
use Rattle.tetri_dictionary.specs.declared.lines.Entry.{Entry}
use Rattle.tetri_dictionary.specs.Sparse.{AreEntries}
use Rattle.tetri_dictionary.proofs.SparseTables.{line_sound, rises_is}
use Rattle.tetri_dictionary.proofs.sparse.SparseDictionary.rises.Goals as goal

pub rises-requires : goal.rises-requires
rises-requires c =
    let t = c.args.self.now in
    let h : c.args.row < length t.lines.items = omega (arith, c.requires.sound.rows, c.requires.row) in
    subst (λ (es : List Entry). AreEntries c.len.result es) (sym c.deref.ensures.value)
    (subst (λ n. AreEntries n c.index.result.now.entries.items) (sym (c.len.ensures ∙ t.nonbasic.ok.0)) (line_sound t c.args.row c.index.result.now c.requires.sound h c.index.ensures))

pub returns : goal.returns
returns c =
    let t = c.args.self.now in
    let h : c.args.row < length t.lines.items = omega (arith, c.requires.sound.rows, c.requires.row) in
    c.rises.ensures ∙ rises_is t c.args.row c.len.result c.index.result.now c.deref.result.now h c.index.ensures c.deref.ensures.value (c.len.ensures ∙ t.nonbasic.ok.0)

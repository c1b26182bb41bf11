use Rattle.std.proofs.Common.{◌≡◌, ◌+◌, ◌<◌, length, ap, ◌∙◌, arith}
use Rattle.std.specs.Global.{Vec}
use Rattle.tetri_num.specs.declared.fractions.Frac.{Frac}
use Rattle.tetri_dictionary.proofs.FullTables.{coefficient_read}
use Rattle.tetri_dictionary.proofs.full.FullDictionary.at.Goals as goal

pub returns-else-column-len-clause-coefficient : goal.returns-else-column-len-clause-coefficient
returns-else-column-len-clause-coefficient c =
    let t = c.args.self.now in
    let r = c.index-numbers.result.now in
    let h : c.args.row < length t.rows.items = omega (arith, c.requires.sound.rows, c.requires.row) in
    let l : length r.items ≡ length t.nonbasic.items + 1 = ap (λ (v : Vec Frac). length v.items) c.index-numbers.ensures ∙ c.requires.sound.wide c.args.row r h in
    λ k. coefficient_read t c.args.row c.args.column r c.index-else-column-len.result.now h (omega (arith, l, k)) c.index-numbers.ensures c.index-else-column-len.ensures

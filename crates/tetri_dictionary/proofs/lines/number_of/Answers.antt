use Rattle.std.proofs.Common.{◌∙◌, sym, ap}
use Rattle.tetri_num.specs.Frac.{value}
use Rattle.tetri_dictionary.specs.declared.lines.Entry.{Entry}
use Rattle.tetri_dictionary.proofs.SparseRows.{entry_read, number_absent, number_found}
use Rattle.tetri_dictionary.proofs.lines.number_of.Goals as goal

pub returns-in-Some : goal.returns-in-Some
returns-in-Some c =
    let es = c.args.entries.now in
    let k = c.in-Some.k in
    let g = entry_read es k c.index-entries-k.result c.in-Some.ensures.found.0 c.index-entries-k.is in
    ap (λ (e : Entry). value e.number) (sym c.index-entries-k.is) ∙ sym (number_found es k c.args.place c.requires c.in-Some.ensures.found.0 c.in-Some.ensures.found.1 ∙ g.1)

pub returns-in-None : goal.returns-in-None
returns-in-None c = c.whole.ensures.rational ∙ sym (number_absent c.args.entries.now c.args.place c.in-None.ensures.absent)

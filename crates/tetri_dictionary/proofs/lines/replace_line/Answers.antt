use Rattle.std.proofs.Common.{◌≡◌, ◌<◌, ℕ, List, length, refl, sym, ap, subst, ◌∙◌}
use Rattle.std.specs.Global.{Vec}
use Rattle.tetri_dictionary.specs.declared.lines.Entry.{Entry}
use Rattle.tetri_dictionary.specs.Sparse.{AreEntries, place_at}
use Rattle.tetri_dictionary.proofs.SparsePivots.{found_entry, line_constant, line_done, line_fault, line_stays}
use Rattle.tetri_dictionary.proofs.SparseRows.{entries_set, number_absent}
use Rattle.tetri_dictionary.proofs.lines.replace_line.Goals as goal

pub returns-in_default-clause-formed : goal.returns-in_default-clause-formed
returns-in_default-clause-formed c =
    let es = c.args.line.now.entries.items in
    let ab = subst (λ (us : List Entry). (k : ℕ) → k < length us → place_at us k ≡ c.args.j → ⊥) c.deref.ensures.value c.in_default.ensures.absent in
    line_stays c.args.columns c.args.i c.args.j c.args.line.now c.args.solved.now c.requires.place (number_absent es c.args.j ab)

pub returns-then-is_zero-clause-formed : goal.returns-then-is_zero-clause-formed
returns-then-is_zero-clause-formed c =
    let es = c.args.line.now.entries.items in
    let f = found_entry es c.deref.result.now c.in-Some.k c.args.j c.index.result.now c.requires.entries.ascending c.deref.ensures.value c.in-Some.ensures.found c.index.ensures in
    line_stays c.args.columns c.args.i c.args.j c.args.line.now c.args.solved.now c.requires.place (f.number ∙ c.is_zero.ensures.0 c.if-is_zero.true)

pub returns-in-Err-clause-formed : goal.returns-in-Err-clause-formed
returns-in-Err-clause-formed c =
    let es = c.args.line.now.entries.items in
    let f = found_entry es c.deref.result.now c.in-Some.k c.args.j c.index.result.now c.requires.entries.ascending c.deref.ensures.value c.in-Some.ensures.found c.index.ensures in
    line_constant c.args.columns c.args.i c.args.j c.args.line.now c.args.solved.now c.index.result.now.number _ c.in-Err.place c.requires.place f.number refl c.in-Err.ensures

pub merge-requires-clause-left : goal.merge-requires-clause-left
merge-requires-clause-left c =
    let es = c.args.line.now.entries.items in
    let f = found_entry es c.deref.result.now c.in-Some.k c.args.j c.index.result.now c.requires.entries.ascending c.deref.ensures.value c.in-Some.ensures.found c.index.ensures in
    subst (λ (us : List Entry). AreEntries c.args.columns us) (sym c.deref-2.ensures.value) (entries_set c.args.columns es c.in-Some.k _ c.requires.entries f.place)

pub returns-in-Ok-merge-clause-formed : goal.returns-in-Ok-merge-clause-formed
returns-in-Ok-merge-clause-formed c =
    let l = c.args.line.now in
    let es = l.entries.items in
    let f = found_entry es c.deref.result.now c.in-Some.k c.args.j c.index.result.now c.requires.entries.ascending c.deref.ensures.value c.in-Some.ensures.found c.index.ensures in
    line_done c.args.columns c.args.i c.args.j l c.args.solved.now (record { constant = c.in-Ok.constant; entries = c.swap.new.x }) es c.deref-2.result.now c.deref-3.result.now c.merge.new.merged.items c.in-Some.k c.index.result.now _ c.in-Ok.constant c.requires.place c.requires.entries f refl c.whole.ensures.rational
    c.in-Ok.ensures refl c.deref-2.ensures.value c.deref-3.ensures.value c.in-Ok-merge.ensures.formed (ap (λ (v : Vec Entry). v.items) c.swap.ensures.x_after) refl

pub returns-in-Err-merge-clause-formed : goal.returns-in-Err-merge-clause-formed
returns-in-Err-merge-clause-formed c =
    let l = c.args.line.now in
    let es = l.entries.items in
    let f = found_entry es c.deref.result.now c.in-Some.k c.args.j c.index.result.now c.requires.entries.ascending c.deref.ensures.value c.in-Some.ensures.found c.index.ensures in
    line_fault c.args.columns c.args.i c.args.j l c.args.solved.now es c.deref-2.result.now c.deref-3.result.now c.in-Some.k c.index.result.now _ c.in-Ok.constant c.in-Err-merge.fault c.requires.place c.requires.entries f refl c.whole.ensures.rational
    c.in-Ok.ensures refl c.deref-2.ensures.value c.deref-3.ensures.value c.in-Err-merge.ensures.formed

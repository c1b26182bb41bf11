use Rattle.std.proofs.Common.{List, sym, ap, ◌∙◌}
use Rattle.tetri_algebra.specs.Rational.{ℚ}
use Rattle.tetri_num.specs.Frac.{value}
use Rattle.tetri_num.proofs.FractionLaws.{num-value}
use Rattle.tetri_dictionary.specs.declared.lines.Entry.{Entry}
use Rattle.tetri_dictionary.specs.Sparse.{number_of}
use Rattle.tetri_dictionary.proofs.SparsePivots.{solved_line_constant, solved_line_fault, solved_line_ok, solved_through, solved_fault_through}
use Rattle.tetri_dictionary.proofs.lines.solved_line.Goals as goal

pub div-requires : goal.div-requires
div-requires c =
    λ e. c.requires.pivot (ap (λ (us : List Entry). (number_of us c.args.j).num) (sym c.deref.ensures.value) ∙ ap (λ (p : ℚ). p.num) (sym c.number_of-pivot.ensures) ∙ num-value c.number_of-pivot.result ∙ e)

pub returns-in_default-clause-formed : goal.returns-in_default-clause-formed
returns-in_default-clause-formed c =
    solved_line_constant c.args.columns c.args.i c.args.j c.args.line.now (value c.number_of-pivot.result) (value c.negated.result) c.requires.place
    (c.number_of-pivot.ensures ∙ ap (λ (us : List Entry). number_of us c.args.j) c.deref.ensures.value) c.negated.ensures c.in_default.ensures.checked

pub returns-in-Ok-solved_entries-clause-formed : goal.returns-in-Ok-solved_entries-clause-formed
returns-in-Ok-solved_entries-clause-formed c =
    solved_line_ok c.args.columns c.args.i c.args.j c.args.line.now (value c.number_of-pivot.result) (value c.negated.result) c.in-Ok.constant _ c.requires.place
    (c.number_of-pivot.ensures ∙ ap (λ (us : List Entry). number_of us c.args.j) c.deref.ensures.value) c.negated.ensures c.in-Ok.ensures.checked
    (solved_through c.args.columns c.args.i c.args.j (value c.number_of-pivot.result) c.args.line.now.entries.items c.deref-2.result.now _ c.deref-2.ensures.value c.in-Ok-solved_entries.ensures.formed)

pub returns-in-Err-clause-formed : goal.returns-in-Err-clause-formed
returns-in-Err-clause-formed c =
    solved_line_fault c.args.columns c.args.i c.args.j c.args.line.now (value c.number_of-pivot.result) (value c.negated.result) c.in-Ok.constant c.in-Err.fault c.requires.place
    (c.number_of-pivot.ensures ∙ ap (λ (us : List Entry). number_of us c.args.j) c.deref.ensures.value) c.negated.ensures c.in-Ok.ensures.checked
    (solved_fault_through c.args.columns c.args.i c.args.j (value c.number_of-pivot.result) c.args.line.now.entries.items c.deref-2.result.now c.in-Err.fault c.deref-2.ensures.value c.in-Err.ensures.formed)

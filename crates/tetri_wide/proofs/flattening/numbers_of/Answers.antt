use Rattle.std.proofs.Common.{ℕ, List, slice_index_or, ap, ◌∙◌, arith}
use Rattle.tetri_compile.proofs.ProgramLemmas.{none_at}
use Rattle.tetri_wide.specs.Sketch.{form_of}
use Rattle.tetri_wide.proofs.FlatLemmas.{coefficient_small}
use Rattle.tetri_wide.proofs.flattening.numbers_of.Goals as goal

pub add_form-requires-clause-fits : goal.add_form-requires-clause-fits
add_form-requires-clause-fits c = λ j.
    let small = coefficient_small c.args.count (form_of c.args.form.now) j c.requires.few c.requires.small in
    let none = ap (λ (xs : List ℕ). slice_index_or xs j 0) (c.in_ok-numbers.ensures.items_if_clones_equal (λ y e. e)) ∙ none_at c.args.count j 0 in
    omega (arith, small, none)

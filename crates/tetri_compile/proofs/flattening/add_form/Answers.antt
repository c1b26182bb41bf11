use Rattle.std.proofs.Common.{◌<◌, length, slice_index_or, ◌∙◌, arith}
use Rattle.std.proofs.lemmas.List.{get_or_default}
use Rattle.tetri_compile.specs.declared.outline.Share.{Share}
use Rattle.tetri_base.proofs.ListLaws.{Each-get}
use Rattle.tetri_compile.proofs.ProgramLemmas.{coefficient_here}
use Rattle.tetri_compile.proofs.flattening.add_form.Goals as goal

pub overflow_add-index_mut : goal.overflow_add-index_mut
overflow_add-index_mut c =
    let d : Share = record { column = 0; by = 0 } in
    let here = coefficient_here c.args.form.now c.loop-share.share-index d c.loop-share-test.true in
    let column = (slice_index_or c.args.form.now c.loop-share.share-index d).column in
    let sums = c.loop-share.invariant.sums column in
    let fits = c.requires.fits column in
    let lt : column < length c.loop-share.numbers.items =
    omega (arith, Each-get (λ (s : Share). s.column < length c.args.numbers.now.items) c.args.form.now c.loop-share.share-index d c.requires.columns c.loop-share-test.true, c.loop-share.invariant.count) in
    omega (arith, here, sums, fits, c.index_mut.ensures.value ∙ get_or_default c.loop-share.numbers.items column c.index_mut.result.now 0 lt)

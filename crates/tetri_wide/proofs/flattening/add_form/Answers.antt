use Rattle.std.proofs.Common.{◌≡◌, ◌+◌, ◌<◌, length, slice_index_or, ◌∙◌, arith}
use Rattle.std.proofs.lemmas.List.{get_or_default, length-set}
use Rattle.tetri_compile.specs.declared.outline.Share.{Share}
use Rattle.tetri_wide.specs.declared.outline.Multiple.{Multiple}
use Rattle.tetri_wide.specs.Sketch.{share_of}
use Rattle.tetri_wide.proofs.FlatLemmas.{coefficient_here, form_next}
use Rattle.tetri_wide.proofs.ListSteps.{each_from_map}
use Rattle.tetri_wide.proofs.flattening.add_form.Goals as goal

pub overflow_add-index_mut : goal.overflow_add-index_mut
overflow_add-index_mut c =
    let d : Multiple = record { column = 0; by = 0 } in
    let i = c.loop-one.one-index in
    let here = coefficient_here c.args.form.now i d c.loop-one-test.true in
    let column = (slice_index_or c.args.form.now i d).column in
    let sums = c.loop-one.invariant.sums column in
    let fits = c.requires.fits column in
    let lt : column < length c.loop-one.numbers.items =
    omega (arith, each_from_map share_of (λ (s : Share). s.column < length c.args.numbers.now.items) c.args.form.now c.requires.columns i d c.loop-one-test.true, c.loop-one.invariant.count) in
    omega (arith, here, sums, fits, c.index_mut.ensures.value ∙ get_or_default c.loop-one.numbers.items column c.index_mut.result.now 0 lt)

pub index_mut-requires : goal.index_mut-requires
index_mut-requires c =
    let d : Multiple = record { column = 0; by = 0 } in
    omega (
      arith,
      each_from_map share_of (λ (s : Share). s.column < length c.args.numbers.now.items) c.args.form.now c.requires.columns c.loop-one.one-index d c.loop-one-test.true,
      c.loop-one.invariant.count,
      c.loop-one.numbers.ok.0,
    )

pub loop-one-preserved : goal.loop-one-preserved
loop-one-preserved c =
    let d : Multiple = record { column = 0; by = 0 } in
    let i = c.loop-one.one-index in
    let xs = c.loop-one.numbers.items in
    let one = slice_index_or c.args.form.now i d in
    let h = c.loop-one.invariant in
    let lt : one.column < length xs =
    omega (arith, each_from_map share_of (λ (s : Share). s.column < length c.args.numbers.now.items) c.args.form.now c.requires.columns i d c.loop-one-test.true, h.count) in
    let was : c.index_mut.result.now ≡ slice_index_or xs one.column 0 = c.index_mut.ensures.value ∙ get_or_default xs one.column c.index_mut.result.now 0 lt in
    record {
      count = length-set xs one.column (c.index_mut.result.now + c.from.result) ∙ h.count;
      sums = λ j. form_next xs c.args.form.now i d (c.index_mut.result.now + c.from.result) j _ c.loop-one-test.true lt (omega (arith, was, c.from.ensures)) (h.sums j);
    }

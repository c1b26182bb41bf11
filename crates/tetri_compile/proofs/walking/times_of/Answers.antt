use Rattle.std.proofs.Common.{◌≡◌, ◌<◌, ◌*◌, length, sym, ap, ◌∙◌, arith}
use Rattle.std.proofs.lemmas.List.{get_or_default}
use Rattle.tetri_compile.specs.declared.outline.Share.{Share}
use Rattle.tetri_compile.specs.Forms.{share}
use Rattle.tetri_compile.proofs.OutlineLemmas.{times_long, times_front, times_back}
use Rattle.tetri_compile.proofs.walking.times_of.Goals as goal

pub loop-place-preserved : goal.loop-place-preserved
loop-place-preserved c =
    let i = c.loop-place.place in
    let xs = c.loop-place.form.items in
    let ys = c.args.form.items in
    let h = c.loop-place.invariant in
    let lt : i < length xs = omega (arith, c.loop-place-test.true, h.long, c.len-place-end.ensures, c.args.form.ok.0) in
    let x : Share = c.index_mut.result.now in
    let read : c.index.result.now ≡ x = c.index.ensures ∙ get_or_default xs i c.index.result.now x lt ∙ sym c.index_mut.ensures.value in
    let v : Share = share x.column (c.args.by * c.index.result.now.by) in
    let new : v ≡ share x.column (c.args.by * x.by) = ap (λ (y : Share). share x.column (c.args.by * y.by)) read in
    record {
      long = times_long c.args.by i xs ys x v lt c.index_mut.ensures.value h.long h.so_far h.rest new;
      so_far = times_front c.args.by i xs ys x v lt c.index_mut.ensures.value h.long h.so_far h.rest new;
      rest = times_back c.args.by i xs ys x v lt c.index_mut.ensures.value h.long h.so_far h.rest new;
    }

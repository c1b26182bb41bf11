use Rattle.std.proofs.Common.{◌<◌, ◌≡◌, ◌+◌, ◌/◌, arith, length, ⊎_elim, ap}
use Rattle.std.proofs.lemmas.Bool.{cases_lt, cases_eq}
use Rattle.tetri_dictionary.specs.declared.lines.Entry.{Entry}
use Rattle.tetri_dictionary.specs.Sparse.{place_at}
use Rattle.tetri_dictionary.proofs.SparseRows.{above_from, entry_read}
use Rattle.tetri_dictionary.proofs.lines.find.Goals as goal

pub loop-count-preserved : goal.loop-count-preserved
loop-count-preserved c =
    let es = c.args.entries.now in
    let i = c.loop-count.low + c.loop-count.count / 2 in
    let l : i < length es = omega (arith, c.loop-count.invariant.inside, c.loop-count-test.true) in
    let g = (entry_read es i c.index-entries-low.result l c.index-entries-low.is).0 in
    let r = ap (λ (e : Entry). e.place) c.index-entries-low.is in
    ⊎_elim
    (λ h.
    let s = c.steps-low.ensures.none (omega (arith, g, r, h)) in
    record {
      some = omega (arith, c.loop-count-test.true);
      inside = omega (arith, s, c.loop-count.invariant.inside, c.loop-count-test.true);
      before = λ k b. c.loop-count.invariant.before k (omega (arith, s, b));
      after = λ k b m. above_from es i c.args.place c.requires h k (omega (arith, s, b, c.loop-count-test.true)) m;
    })
    (λ h.
    let s = c.steps-low.ensures.on (omega (arith, g, r, h)) in
    record {
      some = omega (arith, c.loop-count-test.true);
      inside = omega (arith, s, c.loop-count.invariant.inside, c.loop-count-test.true);
      before = λ k b. let a : place_at es k < place_at es i = c.requires k i (omega (arith, s, b)) l in omega (arith, a, h);
      after = λ k b m. c.loop-count.invariant.after k (omega (arith, s, b, c.loop-count-test.true)) m;
    })
    (cases_lt c.args.place (place_at es i))

pub returns-else-entries-low-clause-absent : goal.returns-else-entries-low-clause-absent
returns-else-entries-low-clause-absent c = λ k m e.
    let es = c.args.entries.now in
    let i = c.loop-count.low in
    let l : i < length es = omega (arith, c.loop-count.invariant.inside, c.loop-count.invariant.some) in
    let g = (entry_read es i c.index-entries-low-2.result l c.index-entries-low-2.is).0 in
    let r = ap (λ (y : Entry). y.place) c.index-entries-low-2.is in
    ⊎_elim
    (λ b. let a = c.loop-count.invariant.before k b in omega (arith, a, e))
    (λ b.
    ⊎_elim
    (λ s. let p : place_at es k ≡ place_at es i = ap (λ z. place_at es z) s in omega (arith, p, e, g, r, c.if-entries-low.false))
    (λ d. let a = c.loop-count.invariant.after k (omega (arith, b, d, c.loop-count.invariant.some, c.loop-count-test.false)) m in omega (arith, a, e))
    (cases_eq k i))
    (cases_lt k i)

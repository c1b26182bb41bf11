use Rattle.std.proofs.Common.{◌<◌, ℕ, cond, get_or, length, ap, arith}
use Rattle.std.proofs.lemmas.List.{get_or_default}
use Rattle.tetri_figures.proofs.SumLemmas.{picked_sum_all, picked_sum_next}
use Rattle.tetri_figures.proofs.sums.offered.Goals as goal

pub loop-place-preserved : goal.loop-place-preserved
loop-place-preserved c =
    let l = c.loop-place in
    let tops = c.args.tops.now in
    let lt : l.place < length tops = omega (arith, c.loop-place-test.true, l.auto.place-end) in
    record {
      told = omega (arith, c.if_picked.ensures, ap (λ b. cond b (get_or tops l.place 0) 0) c.is_picked.ensures, picked_sum_next (λ (n : ℕ). n) c.args.jobs.now tops l.place l.sum _ l.invariant.told (get_or tops l.place 0) lt (get_or_default tops l.place 0 (get_or tops l.place 0) lt));
      small = omega arith;
    }

pub returns : goal.returns
returns c =
    let l = c.loop-place in
    picked_sum_all (λ (n : ℕ). n) c.args.jobs.now c.args.tops.now l.place l.sum _ l.invariant.told (omega (arith, c.loop-place-test.false))

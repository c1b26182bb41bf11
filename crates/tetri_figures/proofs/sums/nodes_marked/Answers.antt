use Rattle.std.proofs.Common.{◌<◌, ℕ, false, get_or, length, ap, arith}
use Rattle.std.proofs.lemmas.List.{get_or_default}
use Rattle.tetri_base.specs.Lists.{bit}
use Rattle.tetri_base.proofs.ListLaws.{bit-le}
use Rattle.tetri_figures.proofs.SumLemmas.{sum_all, sum_next}
use Rattle.tetri_figures.proofs.sums.nodes_marked.Goals as goal

pub overflow_add-marked : goal.overflow_add-marked
overflow_add-marked c = omega (arith, c.bit-marked.ensures, bit-le c.is_picked.result)

pub loop-place-preserved : goal.loop-place-preserved
loop-place-preserved c =
    let l = c.loop-place in
    let nodes = c.args.nodes.now in
    let node : ℕ = get_or nodes l.place 0 in
    let lt : l.place < length nodes = omega (arith, c.loop-place-test.true, l.auto.place-end) in
    record {
      told =
          omega (
            arith,
            c.bit-marked.ensures,
            ap bit c.is_picked.ensures,
            sum_next (λ n. bit (get_or c.args.marks.now n false)) nodes l.place l.marked _ l.invariant.told node lt (get_or_default nodes l.place 0 node lt),
          );
      few = omega (arith, c.bit-marked.ensures, bit-le c.is_picked.result);
    }

pub returns : goal.returns
returns c =
    let l = c.loop-place in
    sum_all (λ n. bit (get_or c.args.marks.now n false)) c.args.nodes.now l.place l.marked _ l.invariant.told (omega (arith, c.loop-place-test.false))

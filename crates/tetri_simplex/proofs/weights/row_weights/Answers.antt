use Rattle.std.proofs.Common.{ap, length, sym, ◌∙◌, arith}
use Rattle.tetri_dictionary.specs.Tables.{Table, coefficients_of, row_at}
use Rattle.tetri_simplex.proofs.Weighting.{weights_next, weights_done, weights_init}
use Rattle.tetri_simplex.proofs.weights.row_weights.Goals as goal

pub loop-i-init : goal.loop-i-init
loop-i-init g c =
    let t : Table = g.D.Dictionary.table c.args.d.now in
    record {
      formed = weights_init t.nonbasic (coefficients_of (row_at t c.args.row)) c.args.own c.args.first c.args.rows.now _ c.new-weights.ensures.items;
      count = ap length c.new-weights.ensures.items;
    }

pub loop-i-preserved : goal.loop-i-preserved
loop-i-preserved g c =
    let t : Table = g.D.Dictionary.table c.args.d.now in
    record {
      formed =
          weights_next t.nonbasic (coefficients_of (row_at t c.args.row)) c.args.own c.args.first c.loop-i.i c.args.rows.now _ c.loop-i.weights.items c.weight_of-weight.result c.loop-i-test.true c.in_ok-push.ensures.items c.weight_of-weight.ensures
          ∙ c.loop-i.invariant.formed;
      count = ap length c.in_ok-push.ensures.items ∙ grind (arith, c.loop-i.invariant.count);
    }

pub returns-clause-weights : goal.returns-clause-weights
returns-clause-weights g c =
    let t : Table = g.D.Dictionary.table c.args.d.now in
    sym (weights_done t.nonbasic (coefficients_of (row_at t c.args.row)) c.args.own _ c.loop-i.i c.args.rows.now c.loop-i.weights.items c.loop-i-test.false) ∙ c.loop-i.invariant.formed

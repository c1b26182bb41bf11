use Rattle.std.proofs.Common.{length, sym, ap, ◌∙◌, arith}
use Rattle.tetri_algebra.specs.Rational.{ℚ}
use Rattle.tetri_num.proofs.FractionLaws.{num-value}
use Rattle.tetri_dictionary.proofs.Entries.{value_at_next, solved_next, solved_stop}
use Rattle.tetri_dictionary.proofs.rows.solved_row.Goals as goal

pub div-requires : goal.div-requires
div-requires c = λ e. c.requires.pivot (ap (λ (p : ℚ). p.num) (value_at_next c.args.row.now c.args.j c.index-row-j.result (omega (arith, c.requires.wide, c.requires.place)) c.index-row-j.is) ∙ num-value c.index-row-j.result ∙ e)

pub loop-k-preserved : goal.loop-k-preserved
loop-k-preserved c = record {
  formed =
      solved_next _ _ c.args.j c.loop-k.k c.args.row.now c.loop-k.solved.items _ _ _ _ _ c.in-Ok.new c.loop-k-test.true c.whole-minus_one.ensures.rational c.entry_with-old.ensures c.negated.ensures
      (value_at_next c.args.row.now c.args.j c.index-row-j.result (omega (arith, c.requires.wide, c.requires.place)) c.index-row-j.is) c.in-Ok.ensures.checked c.in_ok-push.ensures.items
      ∙ c.loop-k.invariant.formed;
  count = ap length c.in_ok-push.ensures.items ∙ grind (arith, c.loop-k.invariant.count);
}

pub returns-in_default-clause-formed : goal.returns-in_default-clause-formed
returns-in_default-clause-formed c =
    sym c.loop-k.invariant.formed
    ∙ solved_stop _ _ c.args.j c.loop-k.k _ c.args.row.now c.loop-k.solved.items _ _ _ _ c.loop-k-test.true c.whole-minus_one.ensures.rational c.entry_with-old.ensures c.negated.ensures
    (value_at_next c.args.row.now c.args.j c.index-row-j.result (omega (arith, c.requires.wide, c.requires.place)) c.index-row-j.is) c.in_default.ensures.checked c.column_of.ensures

use Rattle.std.proofs.Common.{◌∙◌, length, refl, sym, ap, arith}
use Rattle.tetri_report.specs.Block.{headed}
use Rattle.tetri_report.specs.BlockLines.{plan_of}
use Rattle.tetri_state.specs.Begin.{occurrences}
use Rattle.tetri_report.proofs.DifferLemmas.{differ_at, differ_same, other_event, other_launch, other_start}
use Rattle.tetri_report.proofs.differences.first_other_line_by_head.Goals as goal

pub returns-in-Some-clause-first : goal.returns-in-Some-clause-first
returns-in-Some-clause-first c = λ k few.
    let b = headed c.args.head.now k in
    differ_at (omega arith)
    (other_event b c.args.expected.number (occurrences c.args.expected.happened.now) c.args.expected.starts.now c.args.expected.launched.now c.if-head-expected.false
    c.in-Some.place (c.in-Some.ensures.first (plan_of b) (plan_of b) _ _))

pub returns-in-Some-first_difference-clause-first : goal.returns-in-Some-first_difference-clause-first
returns-in-Some-first_difference-clause-first c = λ k few.
    differ_at (omega (arith, c.plan_place_behind-grants.ensures))
    (other_start (headed c.args.head.now k) c.args.expected.number (occurrences c.args.expected.happened.now) c.args.expected.starts.now c.args.expected.launched.now
    c.if-head-expected.false c.in_default.ensures.first c.requires.starts c.requires.as_many c.in-Some-first_difference.place
    (differ_same c.deref.ensures.value refl c.in-Some-first_difference.ensures.0))

pub returns-in-Some-first_difference-2-clause-first : goal.returns-in-Some-first_difference-2-clause-first
returns-in-Some-first_difference-2-clause-first c = λ k few.
    differ_at (omega (arith, few, c.plan_place_behind-grants.ensures, ap length c.as_slice.ensures))
    (other_launch (headed c.args.head.now k) c.args.expected.number (occurrences c.args.expected.happened.now) c.args.expected.starts.now c.args.expected.launched.now
    c.if-head-expected.false c.in_default.ensures.first c.requires.starts (sym c.deref.ensures.value ∙ c.in_default-first_difference.ensures)
    c.in-Some-first_difference-2.place (differ_same c.deref-2.ensures.value refl c.in-Some-first_difference-2.ensures.0))

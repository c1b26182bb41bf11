use Rattle.std.proofs.Common.{◌∙◌, sym, arith}
use Rattle.tetri_state.specs.Begin.{occurrences}
use Rattle.tetri_report.proofs.DifferLemmas.{differ_at, differ_same, other_cancel, other_end, other_expire, other_fail, other_over}
use Rattle.tetri_report.proofs.differences.first_other_event.Goals as goal

pub returns-in-Some-clause-first : goal.returns-in-Some-clause-first
returns-in-Some-clause-first c = λ a b us vs.
    other_end (occurrences c.args.told.now) (occurrences c.args.expected.now) a b us vs c.in-Some.place
    (differ_same c.deref.ensures.value c.deref-2.ensures.value c.in-Some.ensures.0)

pub returns-in-Some-first_difference-clause-first : goal.returns-in-Some-first_difference-clause-first
returns-in-Some-first_difference-clause-first c = λ a b us vs.
    differ_at (omega (arith, c.len-before.ensures))
    (other_cancel (occurrences c.args.told.now) (occurrences c.args.expected.now) a b us vs (sym c.deref.ensures.value ∙ c.in_default.ensures ∙ c.deref-2.ensures.value)
    c.in-Some-first_difference.place (differ_same c.deref-3.ensures.value c.deref-4.ensures.value c.in-Some-first_difference.ensures.0))

pub returns-in-Some-first_difference-2-clause-first : goal.returns-in-Some-first_difference-2-clause-first
returns-in-Some-first_difference-2-clause-first c = λ a b us vs.
    differ_at (omega (arith, c.len-before.ensures, c.len.ensures))
    (other_fail (occurrences c.args.told.now) (occurrences c.args.expected.now) a b us vs (sym c.deref.ensures.value ∙ c.in_default.ensures ∙ c.deref-2.ensures.value)
    (sym c.deref-3.ensures.value ∙ c.in_default-first_difference.ensures ∙ c.deref-4.ensures.value)
    c.in-Some-first_difference-2.place (differ_same c.deref-5.ensures.value c.deref-6.ensures.value c.in-Some-first_difference-2.ensures.0))

pub returns-in-Some-first_other_piece-clause-first : goal.returns-in-Some-first_other_piece-clause-first
returns-in-Some-first_other_piece-clause-first c = λ a b us vs.
    differ_at (omega (arith, c.len-before.ensures, c.len.ensures, c.len-2.ensures))
    (other_over (occurrences c.args.told.now) (occurrences c.args.expected.now) a b us vs (sym c.deref.ensures.value ∙ c.in_default.ensures ∙ c.deref-2.ensures.value)
    (sym c.deref-3.ensures.value ∙ c.in_default-first_difference.ensures ∙ c.deref-4.ensures.value)
    (sym c.deref-5.ensures.value ∙ c.in_default-first_difference-2.ensures ∙ c.deref-6.ensures.value)
    c.in-Some-first_other_piece.place (differ_same c.deref-7.ensures.value c.deref-8.ensures.value c.in-Some-first_other_piece.ensures.0))

pub returns-in-Some-first_difference-3-clause-first : goal.returns-in-Some-first_difference-3-clause-first
returns-in-Some-first_difference-3-clause-first c = λ a b us vs.
    differ_at (omega (arith, c.len-before.ensures, c.len.ensures, c.len-2.ensures, c.len-3.ensures))
    (other_expire (occurrences c.args.told.now) (occurrences c.args.expected.now) a b us vs (sym c.deref.ensures.value ∙ c.in_default.ensures ∙ c.deref-2.ensures.value)
    (sym c.deref-3.ensures.value ∙ c.in_default-first_difference.ensures ∙ c.deref-4.ensures.value)
    (sym c.deref-5.ensures.value ∙ c.in_default-first_difference-2.ensures ∙ c.deref-6.ensures.value)
    (sym c.deref-7.ensures.value ∙ c.in_default-first_other_piece.ensures ∙ c.deref-8.ensures.value)
    c.in-Some-first_difference-3.place (differ_same c.deref-9.ensures.value c.deref-10.ensures.value c.in-Some-first_difference-3.ensures.0))

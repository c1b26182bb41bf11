use Rattle.std.proofs.Common.{length, sym, ap, ◌∙◌, arith, Some}
use Rattle.std.proofs.lemmas.Bool.{eqb-true}
use Rattle.tetri_io.proofs.Digits.{some_bytes}
use Rattle.tetri_io.proofs.NumberLemmas.{empty_number, zero_before_number, not_digits_number, digits_past_limit, digits_are_number, leading_zero, no_leading_zero}
use Rattle.tetri_io.proofs.numbers.number_below.Goals.{then-is_empty-via-then-is_empty, then-is_empty-via-else-is_empty+then-has_leading_zero}
use Rattle.tetri_io.proofs.numbers.number_below.Goals as goal

pub returns-then-is_empty-clause-value : goal.returns-then-is_empty-clause-value
returns-then-is_empty-clause-value c =
    elim c.then-is_empty.branch [
      | then-is_empty-via-then-is_empty w ↦ empty_number c.args.limit c.args.bytes.now c.requires (eqb-true (length c.args.bytes.now) 0 (sym c.is_empty.ensures ∙ w.if-is_empty.true))
      | then-is_empty-via-else-is_empty+then-has_leading_zero w ↦
          let z = leading_zero c.args.bytes.now (sym w.has_leading_zero.ensures ∙ w.if-has_leading_zero.true) in
          zero_before_number c.args.limit c.args.bytes.now c.requires z.0 z.1
    ]

pub returns-in_err-number-clause-value : goal.returns-in_err-number-clause-value
returns-in_err-number-clause-value c = c.from_residual.ensures ∙ not_digits_number c.args.limit c.args.bytes.now c.requires c.in_err-number.ensures

pub returns-then-number-limit-clause-value : goal.returns-then-number-limit-clause-value
returns-then-number-limit-clause-value c =
    ap (λ n. Some n) c.in_ok-number.ensures.1
    ∙ digits_are_number c.args.limit c.args.bytes.now c.requires c.in_ok-number.ensures.0 (some_bytes c.args.bytes.now (sym c.is_empty.ensures ∙ c.if-is_empty.false))
    (no_leading_zero c.args.bytes.now (sym c.has_leading_zero.ensures ∙ c.if-has_leading_zero.false)) (omega (arith, c.in_ok-number.ensures.1, c.if-number-limit.true))

pub returns-else-number-limit-clause-value : goal.returns-else-number-limit-clause-value
returns-else-number-limit-clause-value c =
    digits_past_limit c.args.limit c.args.bytes.now c.requires (omega (arith, c.in_ok-number.ensures.1, c.if-number-limit.false))

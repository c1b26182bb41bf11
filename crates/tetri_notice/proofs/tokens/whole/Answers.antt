use Rattle.std.proofs.Common.{◌≢◌, ◌<◌, get_or, sym, ◌∙◌, arith}
use Rattle.std.proofs.lemmas.Bool.{eqb-false}
use Rattle.tetri_notice.proofs.FrontLemmas.{cut_behind_digits, whole_is}
use Rattle.tetri_notice.proofs.tokens.whole.Goals.{then-count-gt1, else-count-gt1}
use Rattle.tetri_notice.proofs.tokens.whole.Goals as goal

pub split_at-requires : goal.split_at-requires
split_at-requires c = cut_behind_digits c.args.text.now c.front_number-number.result.1 c.utf8.text (rw c.as_bytes-bytes.ensures.value at c.front_number-number.ensures.count) (omega (arith, c.if-count-eq0.false))

pub returns : goal.returns
returns c =
    let text = c.args.text.now in
    let number = c.front_number-number.result.0 in
    let n = c.front_number-number.result.1 in
    let bytes = c.as_bytes-bytes.ensures.value in
    let first : 1 < n → get_or text 0 0 ≢ 48 =
    elim c.if-count-gt1.branch [
      | then-count-gt1 w ↦ λ more. eqb-false _ 48 (rw bytes at (sym w.value-is ∙ c.if-bytes-eq48.false))
      | else-count-gt1 w ↦ λ more. absurd (omega (arith, w.if-count-gt1.false))
    ] in
    whole_is text c.split_at.result.1.now n number (rw bytes at c.front_number-number.ensures.count) (rw bytes at c.front_number-number.ensures.digits) (rw bytes at c.front_number-number.ensures.value)
    (omega (arith, c.if-count-eq0.false)) first c.split_at.ensures.back

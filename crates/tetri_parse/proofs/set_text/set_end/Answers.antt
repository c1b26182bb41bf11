use Rattle.std.proofs.Common.{◌≡◌, true, false, Ok, length, sym, ap, ◌∙◌, subst}
use Rattle.std.proofs.lemmas.Result.{err_from_is_err_and}
use Rattle.tetri_base.specs.ResultSteps.{◌>>=◌}
use Rattle.tetri_parse.specs.Answers.{Stops}
use Rattle.tetri_parse.specs.SetText.{part_of, part_at, and_at, parts_at}
use Rattle.tetri_parse.proofs.Rows.{gathered, pass_over, passed_over, goes_further, is_last, stops_in, stops_first, runs_out}
use Rattle.tetri_parse.proofs.set_text.set_end.Goals as goal

pub returns-in_err-part : goal.returns-in_err-part
returns-in_err-part c =
    let p = err_from_is_err_and c.from_residual.result c.from_residual.ensures.1 in
    let total = gathered pass_over tt (parts_at c.args.text.now) in
    let stopped = stops_in part_at (λ t. Ok (and_at t)) pass_over tt (length c.args.text.now) c.loop.counter c.loop.rest.now total c.in_err-part.field-0.0 c.loop-test.true c.in_err-part.ensures c.loop.invariant in
    rw (p.1, p.2) (subst (Stops c.in_err-part.field-0.0) (passed_over (parts_at c.args.text.now)) (stops_first c.in_err-part.field-0.0 total (λ x. Ok x.1) stopped))

pub returns-then-not-more : goal.returns-then-not-more
returns-then-not-more c =
    let total = gathered pass_over tt (parts_at c.args.text.now) in
    let last : and_at c.in_ok-part.part.1.now ≡ (false, c.and_more-more.result.1.now) = sym c.and_more-more.ensures.value ∙ ap (λ b. (b, c.and_more-more.result.1.now)) c.if-not-more.true in
    sym (passed_over (parts_at c.args.text.now))
    ∙ ap (λ r. r >>= λ x. Ok x.1) (is_last part_at (λ t. Ok (and_at t)) pass_over tt (length c.args.text.now) c.loop.counter c.loop.rest.now total (part_of c.in_ok-part.part.0) c.in_ok-part.part.1.now c.and_more-more.result.1.now c.loop-test.true c.in_ok-part.ensures (ap Ok last) c.loop.invariant)

pub loop-preserved : goal.loop-preserved
loop-preserved c =
    let total = gathered pass_over tt (parts_at c.args.text.now) in
    let on : and_at c.in_ok-part.part.1.now ≡ (true, c.and_more-more.result.1.now) = sym c.and_more-more.ensures.value ∙ ap (λ b. (b, c.and_more-more.result.1.now)) c.if-not-more.false in
    goes_further part_at (λ t. Ok (and_at t)) pass_over tt (length c.args.text.now) c.loop.counter c.loop.rest.now total (part_of c.in_ok-part.part.0) c.in_ok-part.part.1.now c.and_more-more.result.1.now c.loop-test.true c.in_ok-part.ensures (ap Ok on) c.loop.invariant

pub returns : goal.returns
returns c =
    let total = gathered pass_over tt (parts_at c.args.text.now) in
    sym (passed_over (parts_at c.args.text.now))
    ∙ ap (λ r. r >>= λ x. Ok x.1) (runs_out part_at (λ t. Ok (and_at t)) pass_over tt (length c.args.text.now) c.loop.counter c.loop.rest.now total c.loop-test.false c.loop.invariant)

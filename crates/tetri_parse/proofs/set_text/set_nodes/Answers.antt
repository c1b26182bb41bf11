use Rattle.std.proofs.Common.{◌≡◌, true, false, Ok, length, sym, ap, ◌∙◌}
use Rattle.std.proofs.lemmas.Result.{err_from_is_err_and}
use Rattle.tetri_parse.specs.SetText.{part_of, part_at, and_at, narrowed, set_at}
use Rattle.tetri_parse.proofs.Rows.{goes_further, is_last, stops_in, runs_out}
use Rattle.tetri_parse.proofs.set_text.set_nodes.Goals as goal

pub returns-in_err-part-clause-value : goal.returns-in_err-part-clause-value
returns-in_err-part-clause-value c =
    let p = err_from_is_err_and c.from_residual-in_err-part.result c.from_residual-in_err-part.ensures.1 in
    rw (p.1, p.2) (stops_in part_at (λ t. Ok (and_at t)) (narrowed c.args.cluster.now) c.loop.held (length c.args.text.now) c.loop.counter c.loop.rest.now (set_at c.args.cluster.now c.args.text.now) c.in_err-part.field-0.0 c.loop-test.true c.in_err-part.ensures c.loop.invariant.so_far)

pub returns-then-not-more-clause-value : goal.returns-then-not-more-clause-value
returns-then-not-more-clause-value c =
    let last : and_at c.in_ok-part.after.now ≡ (false, c.and_more-more.result.1.now) = sym c.and_more-more.ensures.value ∙ ap (λ b. (b, c.and_more-more.result.1.now)) c.if-not-more.true in
    is_last part_at (λ t. Ok (and_at t)) (narrowed c.args.cluster.now) c.loop.held (length c.args.text.now) c.loop.counter c.loop.rest.now (set_at c.args.cluster.now c.args.text.now) (part_of c.in_ok-part.part) c.in_ok-part.after.now c.and_more-more.result.1.now c.loop-test.true c.in_ok-part.ensures (ap Ok last) c.loop.invariant.so_far
    ∙ ap (λ h. Ok (h, c.and_more-more.result.1.now)) (sym c.in_ok-held.ensures.value)

pub loop-preserved : goal.loop-preserved
loop-preserved c = record {
  so_far =
      let on : and_at c.in_ok-part.after.now ≡ (true, c.and_more-more.result.1.now) = sym c.and_more-more.ensures.value ∙ ap (λ b. (b, c.and_more-more.result.1.now)) c.if-not-more.false in
      rw c.in_ok-held.ensures.value (goes_further part_at (λ t. Ok (and_at t)) (narrowed c.args.cluster.now) c.loop.held (length c.args.text.now) c.loop.counter c.loop.rest.now (set_at c.args.cluster.now c.args.text.now) (part_of c.in_ok-part.part) c.in_ok-part.after.now c.and_more-more.result.1.now c.loop-test.true c.in_ok-part.ensures (ap Ok on) c.loop.invariant.so_far);
  good = c.in_ok-held.ensures.good;
  seen = c.in_ok-held.ensures.seen;
}

pub returns-clause-value : goal.returns-clause-value
returns-clause-value c = runs_out part_at (λ t. Ok (and_at t)) (narrowed c.args.cluster.now) c.loop.held (length c.args.text.now) c.loop.counter c.loop.rest.now (set_at c.args.cluster.now c.args.text.now) c.loop-test.false c.loop.invariant.so_far

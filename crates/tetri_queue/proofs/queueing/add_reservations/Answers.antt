use Rattle.std.proofs.Common.{◌≡◌, ◌∙◌, ap, sym, arith, length, map}
use Rattle.std.proofs.lemmas.List.{length-map}
use Rattle.tetri_io.specs.Words.{parts_at}
use Rattle.tetri_queue.proofs.queueing.add_reservations.Goals as goal

pub returns-clause-lines : goal.returns-clause-lines
returns-clause-lines c =
    let items = c.deref-line-items.result.now in
    let size : length items ≡ length (parts_at 10 c.args.text.now) = sym (length-map items (λ x. x.now)) ∙ ap length (ap (map (λ x. x.now)) c.deref-line-items.ensures.value ∙ c.in_ok-lines.ensures) in
    omega (arith, size, c.loop-line.invariant.lines)

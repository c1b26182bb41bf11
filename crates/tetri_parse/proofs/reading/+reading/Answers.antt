use Rattle.std.proofs.Common.{◌≡◌, ◌++◌, ◌∷◌, [], true, false, Ok, length, refl, sym, ap, ◌∙◌}
use Rattle.std.proofs.lemmas.Result.{err_from_is_err_and}
use Rattle.std.proofs.lemmas.List.{map_push}
use Rattle.tetri_base.specs.ResultSteps.{◌>>=◌}
use Rattle.tetri_parse.specs.Rows.{row_at}
use Rattle.tetri_parse.specs.Tokens.{goes_on_at}
use Rattle.tetri_parse.specs.Grammar.{expr_at, goes_on_to_child}
use Rattle.tetri_parse.specs.Phrase.{phrase, phrases}
use Rattle.tetri_parse.proofs.Rows.{put_last, begins, goes_further, is_last, stops_in, stops_after, runs_out, stops_first}
use Rattle.tetri_parse.proofs.Spelled.{spelled_push, has_part_push}
use Rattle.tetri_parse.proofs.LeafSteps.{number_steps}
use Rattle.tetri_parse.proofs.reading.+reading.Goals as goal

pub child_row-loop-init : goal.child_row-loop-init
child_row-loop-init t c = record {
  so_far = rw c.new-parts.ensures.items (begins (expr_at c.args.cluster.now c.args.levels) (goes_on_to_child c.args.cluster.now) (length c.args.text.now) (c.args.taken, c.args.text.now));
  good = rw c.new-parts.ensures.items refl;
}

pub child_row-returns-in_err-part-clause-value : goal.child_row-returns-in_err-part-clause-value
child_row-returns-in_err-part-clause-value t c =
    let p = err_from_is_err_and c.from_residual.result c.from_residual.ensures.1 in
    rw (p.1, p.2) (stops_in (expr_at c.args.cluster.now c.args.levels) (goes_on_to_child c.args.cluster.now) put_last (phrases c.args.cluster.now c.loop.parts.items) (length c.args.text.now) c.loop.counter (c.loop.leaves, c.loop.rest.now) (row_at (expr_at c.args.cluster.now c.args.levels) (goes_on_to_child c.args.cluster.now) (length c.args.text.now) (c.args.taken, c.args.text.now)) c.in_err-part.field-0.0 c.loop-test.true c.in_err-part.ensures.value c.loop.invariant.so_far)

pub child_row-returns-in_err-more-clause-value : goal.child_row-returns-in_err-more-clause-value
child_row-returns-in_err-more-clause-value t c =
    let p = err_from_is_err_and c.from_residual-in_err-more.result c.from_residual-in_err-more.ensures.1 in
    let after = stops_first c.in_err-more.field-0.0 (goes_on_at 41 c.in_ok-part.after.now) (λ x. Ok (x.0, (c.in_ok-part.held, x.1))) c.in_err-more.ensures in
    rw (p.1, p.2) (stops_after (expr_at c.args.cluster.now c.args.levels) (goes_on_to_child c.args.cluster.now) put_last (phrases c.args.cluster.now c.loop.parts.items) (length c.args.text.now) c.loop.counter (c.loop.leaves, c.loop.rest.now) (row_at (expr_at c.args.cluster.now c.args.levels) (goes_on_to_child c.args.cluster.now) (length c.args.text.now) (c.args.taken, c.args.text.now)) c.in_err-more.field-0.0 (phrase c.args.cluster.now c.in_ok-part.part) (c.in_ok-part.held, c.in_ok-part.after.now) c.loop-test.true c.in_ok-part.ensures.value after c.loop.invariant.so_far)

pub child_row-returns-then-not-more-clause-value : goal.child_row-returns-then-not-more-clause-value
child_row-returns-then-not-more-clause-value t c =
    let e : phrases c.args.cluster.now c.push.new.self.items ≡ phrases c.args.cluster.now c.loop.parts.items ++ phrase c.args.cluster.now c.in_ok-part.part ∷ [] = rw c.in_ok-push.ensures.items (map_push (phrase c.args.cluster.now) c.loop.parts.items c.in_ok-part.part) in
    let next : goes_on_to_child c.args.cluster.now (c.in_ok-part.held, c.in_ok-part.after.now) ≡ Ok (false, (c.in_ok-part.held, c.in_ok-more.after.now)) =
    ap (λ r. r >>= λ x. Ok (x.0, (c.in_ok-part.held, x.1))) (c.in_ok-more.ensures ∙ ap (λ b. Ok (b, c.in_ok-more.after.now)) c.if-not-more.true) in
    is_last (expr_at c.args.cluster.now c.args.levels) (goes_on_to_child c.args.cluster.now) put_last (phrases c.args.cluster.now c.loop.parts.items) (length c.args.text.now) c.loop.counter (c.loop.leaves, c.loop.rest.now) (row_at (expr_at c.args.cluster.now c.args.levels) (goes_on_to_child c.args.cluster.now) (length c.args.text.now) (c.args.taken, c.args.text.now)) (phrase c.args.cluster.now c.in_ok-part.part) (c.in_ok-part.held, c.in_ok-part.after.now) (c.in_ok-part.held, c.in_ok-more.after.now) c.loop-test.true c.in_ok-part.ensures.value next c.loop.invariant.so_far
    ∙ ap (λ xs. Ok (xs, (c.in_ok-part.held, c.in_ok-more.after.now))) (sym e)

pub child_row-loop-preserved : goal.child_row-loop-preserved
child_row-loop-preserved t c =
    let e : phrases c.args.cluster.now c.push.new.self.items ≡ phrases c.args.cluster.now c.loop.parts.items ++ phrase c.args.cluster.now c.in_ok-part.part ∷ [] = rw c.in_ok-push.ensures.items (map_push (phrase c.args.cluster.now) c.loop.parts.items c.in_ok-part.part) in
    let next : goes_on_to_child c.args.cluster.now (c.in_ok-part.held, c.in_ok-part.after.now) ≡ Ok (true, (c.in_ok-part.held, c.in_ok-more.after.now)) =
    ap (λ r. r >>= λ x. Ok (x.0, (c.in_ok-part.held, x.1))) (c.in_ok-more.ensures ∙ ap (λ b. Ok (b, c.in_ok-more.after.now)) c.if-not-more.false) in
    record {
      so_far = rw e (goes_further (expr_at c.args.cluster.now c.args.levels) (goes_on_to_child c.args.cluster.now) put_last (phrases c.args.cluster.now c.loop.parts.items) (length c.args.text.now) c.loop.counter (c.loop.leaves, c.loop.rest.now) (row_at (expr_at c.args.cluster.now c.args.levels) (goes_on_to_child c.args.cluster.now) (length c.args.text.now) (c.args.taken, c.args.text.now)) (phrase c.args.cluster.now c.in_ok-part.part) (c.in_ok-part.held, c.in_ok-part.after.now) (c.in_ok-part.held, c.in_ok-more.after.now) c.loop-test.true c.in_ok-part.ensures.value next c.loop.invariant.so_far);
      good = rw e (spelled_push _ _ _ _ _ _ _ c.loop.invariant.good c.in_ok-part.ensures.good);
    }

pub child_row-returns-clause-value : goal.child_row-returns-clause-value
child_row-returns-clause-value t c = runs_out (expr_at c.args.cluster.now c.args.levels) (goes_on_to_child c.args.cluster.now) put_last (phrases c.args.cluster.now c.loop.parts.items) (length c.args.text.now) c.loop.counter (c.loop.leaves, c.loop.rest.now) (row_at (expr_at c.args.cluster.now c.args.levels) (goes_on_to_child c.args.cluster.now) (length c.args.text.now) (c.args.taken, c.args.text.now)) c.loop-test.false c.loop.invariant.so_far

pub child_row-returns-then-not-more-clause-good : goal.child_row-returns-then-not-more-clause-good
child_row-returns-then-not-more-clause-good t c =
    let e : phrases c.args.cluster.now c.push.new.self.items ≡ phrases c.args.cluster.now c.loop.parts.items ++ phrase c.args.cluster.now c.in_ok-part.part ∷ [] = rw c.in_ok-push.ensures.items (map_push (phrase c.args.cluster.now) c.loop.parts.items c.in_ok-part.part) in
    rw e (has_part_push _ _, spelled_push _ _ _ _ _ _ _ c.loop.invariant.good c.in_ok-part.ensures.good)

pub with_number-returns-in_err-text-clause-value : goal.with_number-returns-in_err-text-clause-value
with_number-returns-in_err-text-clause-value t c =
    let p = err_from_is_err_and c.from_residual.result c.from_residual.ensures.1 in
    rw (p.1, p.2, number_steps c.args.cluster.now (expr_at c.args.cluster.now c.args.levels) c.args.taken c.args.text.now) (stops_first c.in_err-text.field-0.0 _ _ c.in_err-text.ensures)

pub with_number-returns-in_err-part-clause-value : goal.with_number-returns-in_err-part-clause-value
with_number-returns-in_err-part-clause-value t c =
    let p = err_from_is_err_and c.from_residual-in_err-part.result c.from_residual-in_err-part.ensures.1 in
    rw (p.1, p.2, number_steps c.args.cluster.now (expr_at c.args.cluster.now c.args.levels) c.args.taken c.args.text.now, c.in_ok-text.ensures) (stops_first c.in_err-part.field-0.0 _ _ c.in_err-part.ensures.value)

pub with_number-returns-in_err-number-clause-value : goal.with_number-returns-in_err-number-clause-value
with_number-returns-in_err-number-clause-value t c =
    let p = err_from_is_err_and c.from_residual-in_err-number.result c.from_residual-in_err-number.ensures.1 in
    rw (p.1, p.2, number_steps c.args.cluster.now (expr_at c.args.cluster.now c.args.levels) c.args.taken c.args.text.now, c.in_ok-text.ensures, c.in_ok-part.ensures.value) (stops_first c.in_err-number.field-0.0 _ _ c.in_err-number.ensures.value)

pub with_number-returns-clause-value : goal.with_number-returns-clause-value
with_number-returns-clause-value t c =
    rw (number_steps c.args.cluster.now (expr_at c.args.cluster.now c.args.levels) c.args.taken c.args.text.now, c.in_ok-text.ensures, c.in_ok-part.ensures.value, c.in_ok-number.ensures.value, c.in_ok-new.ensures.ok) refl

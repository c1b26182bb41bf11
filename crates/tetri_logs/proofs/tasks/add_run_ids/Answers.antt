use Rattle.std.proofs.Common.{◌≡◌, ◌+◌, ◌*◌, ◌++◌, ◌∷◌, [], ◌∙◌, ℕ, map, ap, sym, append_assoc, arith}
use Rattle.std.specs.Prelude.{decimal}
use Rattle.std.specs.List.{range_with_len}
use Rattle.std.proofs.lemmas.List.FromFn.{map-range_with_len_more}
use Rattle.tetri_logs.proofs.tasks.add_run_ids.Goals as goal

pub loop-k-preserved : goal.loop-k-preserved
loop-k-preserved c =
    let k = c.loop-k.k in
    let old = c.args.ids.now in
    let id = λ (j : ℕ). c.args.front.now ++ decimal (c.args.run.first + j * c.args.run.step) in
    let so_far = map id (range_with_len 0 k) in
    let task : c.from.result + k * c.from-in-loop-k.result ≡ c.args.run.first + k * c.args.run.step =
    ap (λ a. a + k * c.from-in-loop-k.result) c.from.ensures ∙ ap (λ b. c.args.run.first + k * b) c.from-in-loop-k.ensures in
    let is : c.in_ok-task_id.field-0 ≡ id k = c.in_ok-task_id.ensures ∙ ap (λ a. c.args.front.now ++ decimal a) task in
    c.in_ok-push.ensures.ok
    ∙ ap (λ ids. ids ++ c.in_ok-task_id.field-0 ∷ []) c.loop-k.invariant
    ∙ append_assoc old so_far (c.in_ok-task_id.field-0 ∷ [])
    ∙ ap (λ w. old ++ (so_far ++ w ∷ [])) is
    ∙ ap (λ ids. old ++ ids) (sym (map-range_with_len_more id 0 k k (omega arith)))

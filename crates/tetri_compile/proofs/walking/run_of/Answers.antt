use Rattle.std.proofs.Common.{◌+◌, ◌++◌, ◌<◌, length, drop, sym, ap, ◌∙◌, arith}
use Rattle.std.proofs.lemmas.List.{append_assoc}
use Rattle.tetri_compile.specs.Forms.{run}
use Rattle.tetri_compile.proofs.OutlineLemmas.{run_next}
use Rattle.tetri_compile.proofs.walking.run_of.Goals as goal

pub loop-place-preserved : goal.loop-place-preserved
loop-place-preserved c = λ xs e.
    let k = c.loop-place.place in
    let rest = run c.args.by (c.args.first + (k + 1)) (drop (k + 1) xs) in
    let lt : k < length xs = omega (arith, e, c.loop-place-test.true) in
    ap (λ zs. zs ++ rest) c.in_ok-push.ensures.items ∙ append_assoc c.loop-place.shares.items _ rest
    ∙ ap (λ h. c.loop-place.shares.items ++ h) (sym (run_next c.args.by c.args.first xs k lt)) ∙ c.loop-place.invariant xs e

use Rattle.std.proofs.Common.{◌≡◌, ◌+◌, ◌++◌, ◌∷◌, [], ◌∙◌, ap, sym, arith}
use Rattle.std.proofs.lemmas.List.FromFn.{map-range_with_len_more}
use Rattle.tetri_hosts.specs.Expanding.{padded, texts_between}
use Rattle.tetri_hosts.proofs.expansion.texts_between.Goals as goal

pub loop-k-preserved : goal.loop-k-preserved
loop-k-preserved c =
    c.in_ok-push.ensures.ok
    ∙ ap (λ ws. ws ++ c.in_ok-padded.field-0 ∷ []) c.loop-k.invariant
    ∙ ap (λ w. texts_between c.args.width c.args.first c.loop-k.k ++ w ∷ []) c.in_ok-padded.ensures
    ∙ sym (map-range_with_len_more (λ k. padded c.args.width (c.args.first + k)) 0 c.loop-k.k c.loop-k.k (omega arith))

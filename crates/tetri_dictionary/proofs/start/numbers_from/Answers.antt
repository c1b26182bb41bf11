use Rattle.std.proofs.Common.{◌++◌, [], ◌∷◌, ◌+◌, ap, sym, ◌∙◌}
use Rattle.tetri_dictionary.proofs.Starting.{range_more}
use Rattle.tetri_dictionary.proofs.start.numbers_from.Goals as goal

pub loop-k-preserved : goal.loop-k-preserved
loop-k-preserved c = c.in_ok-push.ensures.items ∙ ap (λ zs. zs ++ ((c.args.first + c.loop-k.k) ∷ [])) c.loop-k.invariant ∙ sym (range_more c.args.first c.loop-k.k)

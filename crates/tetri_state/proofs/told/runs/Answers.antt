use Rattle.std.proofs.Common.{rules, ◌∙◌}
use Rattle.std.proofs.lemmas.List.Sorted.{answers_always}
use Rattle.tetri_state.specs.declared.happened.PieceId.{PieceId}
use Rattle.tetri_state.proofs.SearchLemmas.{search_by_key}
use Rattle.tetri_state.proofs.told.runs.Goals as goal

pub returns : goal.returns
returns c =
    c.is_ok.ensures.value
    ∙ search_by_key (λ (a : PieceId). a.job) c.args.ids.now c.args.job c.binary_search_by_key.result c.requires c.binary_search_by_key.ensures.bound
    (c.binary_search_by_key.ensures.position (λ (a : PieceId). a.job) (answers_always _ _ _ (λ f a r g called. search rules)))

use Rattle.std.proofs.Common.{ℕ, ◌∙◌}
use Rattle.tetri_state.proofs.SearchLemmas.{search_by_key}
use Rattle.tetri_state.proofs.prepared.is_among.Goals as goal

pub returns : goal.returns
returns c =
    c.is_ok.ensures.value
    ∙ search_by_key (λ (n : ℕ). n) c.args.jobs.now c.args.job c.binary_search.result c.requires c.binary_search.ensures.bound c.binary_search.ensures.position

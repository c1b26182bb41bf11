use Rattle.std.proofs.Common.{◌∙◌}
use Rattle.tetri_accounts.proofs.SearchLemmas.{search_has}
use Rattle.tetri_accounts.proofs.slot.has_job.Goals as goal

pub returns : goal.returns
returns c =
    c.is_ok.ensures.value
    ∙ search_has c.args.jobs.now c.args.job c.binary_search.result c.requires c.binary_search.ensures.bound c.binary_search.ensures.position

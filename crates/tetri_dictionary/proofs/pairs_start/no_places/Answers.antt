use Rattle.std.proofs.Common.{List, ap, rules}
use Rattle.tetri_dictionary.specs.declared.origins.Origin.{Origin}
use Rattle.tetri_dictionary.specs.Mirrors.{rows_from}
use Rattle.tetri_dictionary.specs.Mixed.{mixed_rows}
use Rattle.tetri_dictionary.proofs.Drafts.{no_columns, no_draft}
use Rattle.tetri_dictionary.proofs.pairs_start.no_places.Goals as goal

pub returns-clause-draft : goal.returns-clause-draft
returns-clause-draft c =
    no_draft c.args.columns (record { rows = c.new.result; homes = c.new-2.result; origins = c.new-3.result; below = c.new-4.result; columns = c.in_ok-vec.field-0 }) c.new-4.ensures.items c.new.ensures.items c.new-3.ensures.items c.new-2.ensures.items
    (search rules)

pub returns-clause-rows : goal.returns-clause-rows
returns-clause-rows c = ap (λ (os : List Origin). rows_from c.args.columns (mixed_rows c.new.result.items) os) c.new-3.ensures.items

pub returns-clause-free : goal.returns-clause-free
returns-clause-free c = λ p. no_columns c.args.columns p c.in_ok-vec.field-0.items (search rules)

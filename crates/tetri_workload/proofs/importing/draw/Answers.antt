use Rattle.std.proofs.Common.{◌≡◌, ◌∙◌, ◌++◌, ap, subst}
use Rattle.tetri_logs.specs.Entry.{entries_in}
use Rattle.tetri_logs.specs.Reading.{entries}
use Rattle.tetri_logs.proofs.LineLaws.{timed_by_line}
use Rattle.tetri_workload.specs.Head.{IsHead, entries_with}
use Rattle.tetri_workload.specs.Kinds.{are_mixed}
use Rattle.tetri_workload.proofs.importing.draw.Goals as goal

pub returns-in-Ok-clause-drawn : goal.returns-in-Ok-clause-drawn
returns-in-Ok-clause-drawn c =
    let a = c.args in
    let mixed = are_mixed a.nodes.now in
    let es = entries mixed a.format a.log.now in
    let rest = c.head_of.new.walk.entries in
    let whole : c.new-walk.result.entries ≡ es = ap (λ u. u.entries) c.new-walk.ensures ∙ ap (λ m. entries m a.format a.log.now) c.are_mixed.ensures in
    let line : entries_with c.in_ok-head.field-0.first rest ≡ entries_in c.in-Some.first ++ rest = ap (λ f. entries_with f rest) c.in-Some.is in
    let headed : IsHead es (entries_in c.in-Some.first ++ rest) c.in_ok-head.field-0.log =
    subst (λ xs. IsHead xs (entries_in c.in-Some.first ++ rest) c.in_ok-head.field-0.log) whole (subst (λ ys. IsHead c.new-walk.result.entries ys c.in_ok-head.field-0.log) line c.in_ok-head.ensures.head) in
    c.in-Ok.ensures.drawn es (timed_by_line mixed a.format a.log.now) headed

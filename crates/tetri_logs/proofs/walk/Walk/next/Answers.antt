use Rattle.std.proofs.Common.{◌+◌, ◌≤◌, sym, subst}
use Rattle.tetri_base.specs.Lists.{count}
use Rattle.tetri_logs.specs.Reading.{is_comment}
use Rattle.tetri_logs.proofs.CommentLemmas.{line-one}
use Rattle.tetri_logs.proofs.walk.Walk.next.Goals as goal

pub returns-clause-few : goal.returns-clause-few
returns-clause-few c =
    subst (λ es. count is_comment es ≤ 1) (sym c.in_ok-entries.ensures.entries)
    (line-one c.self.inside.seats c.self.inside.layout (c.self.inside.number + 1) c.in-Some.line.now)

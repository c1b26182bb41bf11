use Rattle.std.proofs.Common.{sym, ◌∙◌}
use Rattle.tetri_notice.proofs.TokenLemmas.{closed}
use Rattle.tetri_notice.proofs.tokens.Tokens.closes.Goals as goal

pub returns : goal.returns
returns c = sym c.self.view_is ∙ closed c.self.inside.is_behind_value c.self.inside.rest.now c.in_ok-self-inside.field-0.now c.in_ok-self-inside.ensures

use Rattle.std.proofs.Common.{sym, ◌∙◌}
use Rattle.tetri_notice.proofs.TokenLemmas.{nothing_left}
use Rattle.tetri_notice.proofs.tokens.Tokens.is_empty.Goals as goal

pub returns : goal.returns
returns c = λ none. sym c.self.view_is ∙ nothing_left c.self.inside.is_behind_value c.self.inside.rest.now (sym c.is_empty.ensures ∙ none)

use Rattle.std.proofs.Common.{◌∷◌, inl, inr, sym, ap, ◌∙◌}
use Rattle.tetri_notice.proofs.TokenLemmas.{IsAtKey, key_next}
use Rattle.tetri_notice.proofs.tokens.Tokens.behind_key.Goals.{then-self+in_ok-rest, else-self}
use Rattle.tetri_notice.proofs.tokens.Tokens.behind_key.Goals as goal

pub returns : goal.returns
returns c =
    let b = c.self.inside.is_behind_value in
    let old = c.self.inside.rest.now in
    let start : IsAtKey b old c.if-self.rest.now =
    elim c.if-self.branch [
      | then-self+in_ok-rest w ↦ inl (w.if-self.true, w.in_ok-rest.ensures ∙ ap (λ r. 44 ∷ r.now) (sym w.rest-is))
      | else-self w ↦ inr (w.if-self.false, ap (λ r. r.now) (sym w.rest-is))
    ] in
    key_next c.args.self.now b old c.if-self.rest.now c.args.key.now c.behind_named.result (sym c.self.view_is) start c.requires c.behind_named.ensures

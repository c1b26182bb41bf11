use Rattle.std.proofs.Common.{◌≡◌, rules, w64, refl, sym, ◌∙◌}
use mir.Val.{to_z, of_z}
use Rattle.tetri_notice.proofs.TokenLemmas.{number_next}
use Rattle.tetri_notice.proofs.tokens.Tokens.number.Goals as goal

pub returns-clause-next : goal.returns-clause-next
returns-clause-next c =
    let z = c.in_ok-number.number in
    let back : to_z w64 (of_z w64 z) ≡ z = search rules in
    rw back (sym c.self.view_is ∙ number_next c.self.inside.is_behind_value c.self.inside.rest.now c.in_ok-number.rest.now z c.if-self.false c.in_ok-number.ensures.1 c.in_ok-number.ensures.0 (rw c.as_bytes.ensures.value at (c.if-not-is_behind_value.ensures.0 refl)))

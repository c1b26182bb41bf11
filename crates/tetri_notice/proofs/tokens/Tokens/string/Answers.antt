use Rattle.std.proofs.Common.{◌≡◌, refl, sym, ◌∙◌}
use Rattle.std.specs.List.{prefix_len}
use Rattle.json.specs.Run.{is_plain}
use Rattle.tetri_notice.proofs.FrontLemmas.{cut_behind_plain, plain_front}
use Rattle.tetri_notice.proofs.TokenLemmas.{string_next}
use Rattle.tetri_notice.proofs.tokens.Tokens.string.Goals as goal

pub split_at-requires : goal.split_at-requires
split_at-requires c =
    let n : c.count_plain.result ≡ prefix_len is_plain c.in_ok-begun.begun.now = rw c.as_bytes.ensures.value at c.count_plain.ensures in
    rw n (cut_behind_plain c.in_ok-begun.begun.now)

pub returns : goal.returns
returns c =
    let begun = c.in_ok-begun.begun.now in
    let n : c.count_plain.result ≡ prefix_len is_plain begun = rw c.as_bytes.ensures.value at c.count_plain.ensures in
    let next = string_next c.self.inside.is_behind_value c.self.inside.rest.now begun c.split_at.result.1.now c.in_ok-rest.rest.now c.count_plain.result c.if-self.false c.in_ok-begun.ensures c.split_at.ensures.back c.in_ok-rest.ensures
    (rw n (plain_front begun)) (rw c.as_bytes-2.ensures.value at (c.if-not-is_behind_value.ensures.0 refl)) in
    sym c.self.view_is ∙ next ∙ rw c.split_at.ensures.front

use Rattle.std.proofs.Common.{refl}
use Rattle.tetri_notice.proofs.FrontLemmas.{cut_behind}
use Rattle.tetri_notice.proofs.tokens.behind.Goals as goal

pub split_at-requires : goal.split_at-requires
split_at-requires c = cut_behind c.args.text.now c.args.front.now c.utf8.text c.utf8.front (rw (c.as_bytes.ensures.value, c.as_bytes-2.ensures.value) at (c.if-not-begins_with.ensures.0 refl))

use Rattle.std.proofs.Common.{length}
use Rattle.tetri_notice.proofs.FrontLemmas.{cut_behind_colon, named_is}
use Rattle.tetri_notice.proofs.tokens.behind_named.Goals as goal

pub split_at-requires : goal.split_at-requires
split_at-requires c =
    let tests = rw c.as_bytes-bytes.ensures.value at c.if-not-opens-named.false in
    let long = rw c.as_bytes-bytes.ensures.value at c.if-bytes-end.false in
    cut_behind_colon c.args.text.now _ (length c.args.name.now) c.utf8.text long tests

pub returns : goal.returns
returns c =
    let tests = rw c.as_bytes-bytes.ensures.value at c.if-not-opens-named.false in
    let long = rw c.as_bytes-bytes.ensures.value at c.if-bytes-end.false in
    let named = rw (c.as_bytes-bytes.ensures.value, c.as_bytes.ensures.value) at c.begins_with-named.ensures in
    named_is c.args.text.now c.args.name.now c.split_at.result.1.now c.begins_with-named.result long tests named.0 c.split_at.ensures.back

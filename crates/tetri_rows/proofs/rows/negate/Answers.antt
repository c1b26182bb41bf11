use Rattle.std.proofs.Common.{◌≡◌, ◌<◌, length, get_or, sym, arith, subst}
use Rattle.std.proofs.lemmas.List.Elements.{All-set}
use lib.IntN.{pos, neg_ℤ}
use Rattle.tetri_rows.specs.Small.{IsShort}
use Rattle.tetri_rows.proofs.Words.{read_rest, set_next, neg_word, neg_short}
use Rattle.tetri_rows.proofs.rows.negate.Goals as goal

pub loop-k-preserved : goal.loop-k-preserved
loop-k-preserved c =
    let k = c.loop-k.k in
    let l : k < length c.args.row.now = c.loop-k-test.true in
    let sh : IsShort (get_or c.args.row.now k (pos 0)) = c.requires k (pos 0) l in
    let n = neg_word (get_or c.args.row.now k (pos 0)) _ (read_rest c.args.row.now c.loop-k.row k (omega (arith, c.loop-k.auto.row, l)) c.loop-k.invariant.rest sh) sh in
    let s = set_next (λ q z. z ≡ neg_ℤ (get_or c.args.row.now q (pos 0))) c.args.row.now c.loop-k.row k _ (omega (arith, c.loop-k.auto.row, l)) c.loop-k.invariant.front c.loop-k.invariant.rest n in
    record { front = s.0; rest = s.1; short = All-set IsShort c.loop-k.row k _ (subst IsShort (sym n) (neg_short _ sh)) c.loop-k.invariant.short }

use Rattle.std.proofs.Common.{◌≡◌, ◌+◌, List, IfOk, length, sym, ap, subst, ◌∙◌, arith}
use Rattle.tetri_algebra.specs.Rational.{ℚ}
use Rattle.tetri_algebra.specs.RationalRing.{zero_ℚ}
use Rattle.tetri_num.specs.Frac.{value}
use Rattle.tetri_dictionary.specs.Mixed.{mixed_row}
use Rattle.tetri_dictionary.specs.Pairs.{table_of}
use Rattle.tetri_dictionary.specs.Tables.{row_at}
use Rattle.tetri_dictionary.proofs.WrittenOut.{place_length, pushed_next, pushed_done, pushed_length}
use Rattle.tetri_dictionary.proofs.pairs_out.row_out.Goals as goal

pub loop-k-preserved : goal.loop-k-preserved
loop-k-preserved c =
    let t = c.args.t.now in
    let wide : length (row_at (table_of t) c.args.i) ≡ length t.nonbasic.items + 1 = place_length t c.args.i c.requires.paired c.requires.place in
    let e : c.len-k-end.result ≡ length t.nonbasic.items = c.len-k-end.ensures ∙ t.nonbasic.ok.0 in
    pushed_next value (row_at (table_of t) c.args.i) c.loop-k.k c.loop-k.numbers.items c.push.new.self.items c.number.result zero_ℚ (omega (arith, wide, e, c.loop-k-test.true, c.loop-k.auto.k-end)) c.in_ok-push.ensures.items c.number.ensures c.loop-k.invariant

pub brought_back-requires : goal.brought_back-requires
brought_back-requires c =
    let t = c.args.t.now in
    let wide : length (row_at (table_of t) c.args.i) ≡ length t.nonbasic.items + 1 = place_length t c.args.i c.requires.paired c.requires.place in
    let e : c.len-k-end.result ≡ length t.nonbasic.items = c.len-k-end.ensures ∙ t.nonbasic.ok.0 in
    let f : c.len-columns.result ≡ length t.nonbasic.items = c.len-columns.ensures ∙ t.nonbasic.ok.0 in
    let d = pushed_done value (row_at (table_of t) c.args.i) c.loop-k.k c.loop-k.numbers.items (omega (arith, wide, e, c.loop-k-test.false, c.loop-k.auto.k-end)) c.loop-k.invariant in
    pushed_length value (row_at (table_of t) c.args.i) c.loop-k.numbers.items d ∙ wide ∙ ap (λ m. m + 1) (sym f)

pub returns-clause-same : goal.returns-clause-same
returns-clause-same c =
    let t = c.args.t.now in
    let wide : length (row_at (table_of t) c.args.i) ≡ length t.nonbasic.items + 1 = place_length t c.args.i c.requires.paired c.requires.place in
    let e : c.len-k-end.result ≡ length t.nonbasic.items = c.len-k-end.ensures ∙ t.nonbasic.ok.0 in
    let d = pushed_done value (row_at (table_of t) c.args.i) c.loop-k.k c.loop-k.numbers.items (omega (arith, wide, e, c.loop-k-test.false, c.loop-k.auto.k-end)) c.loop-k.invariant in
    subst (λ (xs : List ℚ). IfOk c.brought_back.result (λ r. mixed_row r ≡ xs)) d c.brought_back.ensures.same

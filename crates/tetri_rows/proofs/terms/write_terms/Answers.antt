use Rattle.std.proofs.Common.{◌<◌, length, get_or, ap, ◌∙◌, arith}
use lib.IntN.{pos}
use mir.Val.{to_z, of_z}
use mir.Syntax.{w64}
use Rattle.tetri_rows.specs.Rows.{combined}
use Rattle.tetri_rows.specs.Terms.{term_at}
use Rattle.tetri_rows.proofs.Words.{word, short_word}
use Rattle.tetri_rows.proofs.TermRows.{terms_next, not_yet}
use Rattle.tetri_rows.proofs.terms.write_terms.Goals as goal

pub loop-k-preserved : goal.loop-k-preserved
loop-k-preserved c =
    let k = c.loop-k.k in
    let l : k < length c.args.places.now = c.loop-k-test.true in
    let p = get_or c.args.places.now k 0 in
    let F = to_z w64 (of_z w64 c.args.f) in
    let b : p < length c.args.row.now = c.requires.places k l in
    let s = terms_next c.args.row.now c.loop-k.row c.args.places.now (λ q. term_at F c.args.row.now c.args.places.now c.args.numbers.now q) k _ l c.requires.ascending (omega (arith, c.loop-k.auto.row, b)) c.loop-k.invariant.done c.loop-k.invariant.other
    (word c.combined.result c.combined.ensures.fits ∙ c.combined.ensures.value
    ∙ ap (λ x. combined (pos 1) F x (to_z w64 (of_z w64 (get_or c.args.numbers.now k (pos 0))))) (ap (λ z. to_z w64 (of_z w64 z)) (not_yet c.args.row.now c.loop-k.row c.args.places.now k l c.requires.ascending c.loop-k.invariant.other) ∙ short_word (get_or c.args.row.now p (pos 0)) (c.requires.row p (pos 0) b))
    ∙ ap (λ y. combined (pos 1) F (get_or c.args.row.now p (pos 0)) y) (short_word (get_or c.args.numbers.now k (pos 0)) (c.requires.numbers k (pos 0) (omega (arith, c.requires.wide, l))))) in
    record { done = s.0; other = s.1 }

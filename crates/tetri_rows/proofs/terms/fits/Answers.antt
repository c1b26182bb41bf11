use Rattle.std.proofs.Common.{◌<◌, length, get_or, ap, ◌∙◌, arith, subst}
use Rattle.std.proofs.lemmas.Int.{to_z-of_z}
use lib.IntN.{pos}
use mir.Val.{to_z, of_z}
use mir.Syntax.{w64}
use Rattle.tetri_rows.specs.Small.{IsShort}
use Rattle.tetri_rows.specs.Rows.{combined}
use Rattle.tetri_rows.specs.Terms.{term_at}
use Rattle.tetri_rows.proofs.Words.{word, short_word, up_to_next, test_short}
use Rattle.tetri_rows.proofs.terms.fits.Goals as goal

pub loop-k-preserved : goal.loop-k-preserved
loop-k-preserved c =
    let k = c.loop-k.k in
    let l : k < length c.args.places.now = c.loop-k-test.true in
    let p = get_or c.args.places.now k 0 in
    let F = to_z w64 (of_z w64 c.args.f) in
    up_to_next IsShort (λ q. term_at F c.args.row.now c.args.places.now c.args.numbers.now q) k c.combined-new.result c.loop-k.invariant
    (c.combined-new.ensures.value
    ∙ ap (λ x. combined (pos 1) F x (to_z w64 (of_z w64 (get_or c.args.numbers.now k (pos 0))))) (short_word (get_or c.args.row.now p (pos 0)) (c.requires.row p (pos 0) (c.requires.places k l)))
    ∙ ap (λ y. combined (pos 1) F (get_or c.args.row.now p (pos 0)) y) (short_word (get_or c.args.numbers.now k (pos 0)) (c.requires.numbers k (pos 0) (omega (arith, c.requires.wide, l)))))
    (test_short c.combined-new.result _ (word _ c.combined-new.ensures.fits) c.if-new.false c.if-new-ge-SHORT.false)

pub returns : goal.returns
returns c = λ t q l. subst IsShort (ap (λ z. term_at z c.args.row.now c.args.places.now c.args.numbers.now q) (to_z-of_z _ _ c.ranges.f)) (c.loop-k.invariant q (omega (arith, l, c.loop-k-test.false)))

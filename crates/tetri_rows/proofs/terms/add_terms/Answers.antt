use Rattle.std.proofs.Common.{get_or, set, refl, sym, ap, ◌∙◌, arith, subst, rules}
use Rattle.std.proofs.lemmas.Int.{to_z-of_z}
use Rattle.std.proofs.lemmas.List.{length-set}
use Rattle.std.proofs.lemmas.List.Elements.{All-set}
use Rattle.std.specs.Prelude.{All}
use lib.IntN.{pos, ◌*ℤ◌}
use mir.Val.{SFits}
use mir.Syntax.{w64}
use Rattle.tetri_rows.specs.Small.{IsShort}
use Rattle.tetri_rows.proofs.Words.{short_word, put_back, divides_word}
use Rattle.tetri_rows.proofs.TermRows.{terms_short}
use Rattle.tetri_rows.proofs.Scaled.{terms_meaning, quotient_is_short}
use Rattle.tetri_rows.proofs.terms.add_terms.Goals as goal

pub divided-by-requires-clause-divides : goal.divided-by-requires-clause-divides
divided-by-requires-clause-divides c =
    divides_word c.args.pivot_den _ (get_or c.args.row.now c.args.j (pos 0)) _ (short_word _ c.requires.pivot_den.short) (short_word _ (c.requires.row c.args.j (pos 0) c.requires.place)) c.requires.whole

pub fits-requires-clause-f : goal.fits-requires-clause-f
fits-requires-clause-f c =
    let fr : SFits w64 c.divided-by.result = search rules in
    quotient_is_short c.divided-by.result _ c.args.pivot_den _ (get_or c.args.row.now c.args.j (pos 0)) _ (to_z-of_z w64 _ fr) (short_word _ c.requires.pivot_den.short) (short_word _ (c.requires.row c.args.j (pos 0) c.requires.place))
    c.divided-by.ensures.size c.requires.pivot_den.positive (c.requires.row c.args.j (pos 0) c.requires.place)

pub fits-requires-clause-row : goal.fits-requires-clause-row
fits-requires-clause-row c = All-set IsShort c.args.row.now c.args.j (pos 0) (omega arith) c.requires.row

pub fits-requires-clause-places : goal.fits-requires-clause-places
fits-requires-clause-places c = λ q l. omega (arith, c.requires.places q l, length-set c.args.row.now c.args.j (pos 0))

pub write_terms-requires-clause-f : goal.write_terms-requires-clause-f
write_terms-requires-clause-f c =
    let fr : SFits w64 c.divided-by.result = search rules in
    quotient_is_short c.divided-by.result _ c.args.pivot_den _ (get_or c.args.row.now c.args.j (pos 0)) _ (to_z-of_z w64 _ fr) (short_word _ c.requires.pivot_den.short) (short_word _ (c.requires.row c.args.j (pos 0) c.requires.place))
    c.divided-by.ensures.size c.requires.pivot_den.positive (c.requires.row c.args.j (pos 0) c.requires.place)

pub write_terms-requires-clause-row : goal.write_terms-requires-clause-row
write_terms-requires-clause-row c = All-set IsShort c.args.row.now c.args.j (pos 0) (omega arith) c.requires.row

pub write_terms-requires-clause-places : goal.write_terms-requires-clause-places
write_terms-requires-clause-places c = λ q l. omega (arith, c.requires.places q l, length-set c.args.row.now c.args.j (pos 0))

pub returns-then-not-fits-clause-unchanged : goal.returns-then-not-fits-clause-unchanged
returns-then-not-fits-clause-unchanged c = λ _. put_back c.args.row.now c.args.j (pos 0) _ (short_word _ (c.requires.row c.args.j (pos 0) c.requires.place))

pub returns-then-not-fits-clause-row : goal.returns-then-not-fits-clause-row
returns-then-not-fits-clause-row c = subst (λ xs. All IsShort xs) (sym (put_back c.args.row.now c.args.j (pos 0) _ (short_word _ (c.requires.row c.args.j (pos 0) c.requires.place)))) c.requires.row

pub returns-clause-formed : goal.returns-clause-formed
returns-clause-formed c =
    let fr : SFits w64 c.divided-by.result = search rules in
    let l = length-set c.args.row.now c.args.j (pos 0) in
    λ _ ys t w den hd.
    terms_meaning c.args.j den c.args.pivot_den (get_or c.args.row.now c.args.j (pos 0)) _ c.args.row.now ys c.write_terms.new.row c.args.places.now c.args.numbers.now hd c.requires.pivot_den
    (ap (λ z. z *ℤ c.args.pivot_den) (to_z-of_z w64 _ fr) ∙ ap (λ z. c.divided-by.result *ℤ z) (sym (short_word _ c.requires.pivot_den.short)) ∙ c.divided-by.ensures.value ∙ short_word _ (c.requires.row c.args.j (pos 0) c.requires.place))
    refl c.requires.place w (omega (arith, c.write_terms.auto.row, l)) c.write_terms.ensures.at c.write_terms.ensures.other t

pub returns-clause-row : goal.returns-clause-row
returns-clause-row c =
    terms_short _ (set c.args.row.now c.args.j (pos 0)) c.write_terms.new.row c.args.places.now c.args.numbers.now c.write_terms.ensures.at c.write_terms.ensures.other (omega (arith, c.write_terms.auto.row))
    (All-set IsShort c.args.row.now c.args.j (pos 0) (omega arith) c.requires.row) (c.fits.ensures c.if-not-fits.false)

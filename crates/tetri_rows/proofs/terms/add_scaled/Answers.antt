use Rattle.std.proofs.Common.{◌≡◌, ℕ, ◌<◌, List, length, get_or, refl, sym, ap, ◌∙◌, arith, subst}
use Rattle.std.specs.Prelude.{All, pos, unsigned_abs}
use Prim.Native.Nat.{◌∣◌}
use lib.IntN.{ℤ, ◌*ℤ◌}
use mir.Val.{to_z, of_z}
use mir.Syntax.{w64}
use Rattle.tetri_rows.specs.Small.{IsShort, IsDenominator}
use Rattle.tetri_rows.specs.Rows.{meaning, put_in}
use Rattle.tetri_rows.specs.Terms.{AreTerms}
use Rattle.tetri_rows.proofs.Words.{short_word, divides_word}
use Rattle.tetri_rows.proofs.Scaled.{scaled_meaning, divides_scaled, scaled_back}
use Rattle.tetri_rows.proofs.terms.add_scaled.Goals as goal

pub add_terms-requires-clause-whole : goal.add_terms-requires-clause-whole
add_terms-requires-clause-whole c =
    divides_word c.args.pivot_den _ (get_or c.args.row.now c.args.j (pos 0) *ℤ c.args.scale) _ (short_word c.args.pivot_den c.requires.pivot_den.short)
    (c.in-Some.ensures.row c.args.j c.requires.place ∙ ap (λ z. get_or c.args.row.now c.args.j (pos 0) *ℤ z) (short_word c.args.scale c.requires.scale.short)) c.requires.whole

pub returns-then-add_terms-clause-formed : goal.returns-then-add_terms-clause-formed
returns-then-add_terms-clause-formed c =
    let w = c.in-Some.wider in
    let ew = short_word w c.in-Some.ensures.sound.short in
    let hw : IsDenominator (to_z w64 (of_z w64 w)) = subst IsDenominator (sym ew) c.in-Some.ensures.sound in
    let ed = short_word c.args.den c.requires.den.short in
    let es = short_word c.args.scale c.requires.scale.short in
    λ pivot t l.
    c.add_terms.ensures.formed c.if-add_terms.true pivot
    (subst (λ (ns : List ℤ). AreTerms c.deref.result.now ns pivot) (sym c.deref-2.ensures.value) (subst (λ (ps : List ℕ). AreTerms ps c.args.terms.now.numbers.items pivot) (sym c.deref.ensures.value) t)) (l ∙ sym c.scaled.auto.row) (to_z w64 (of_z w64 w)) hw
    ∙ ap (λ z. put_in c.args.j (meaning z pivot) (meaning (to_z w64 (of_z w64 w)) c.scaled.new.row)) (short_word c.args.pivot_den c.requires.pivot_den.short)
    ∙ ap (λ r. put_in c.args.j (meaning c.args.pivot_den pivot) r)
    (scaled_meaning c.args.den (to_z w64 (of_z w64 w)) c.args.scale (to_z w64 (of_z w64 c.args.scale)) c.args.row.now c.scaled.new.row c.requires.den hw
    (ew ∙ c.in-Some.ensures.den ∙ ap (λ z. z *ℤ to_z w64 (of_z w64 c.args.scale)) ed ∙ ap (λ z. c.args.den *ℤ z) es) es c.scaled.auto.row c.in-Some.ensures.row)

pub divide-requires-clause-divides : goal.divide-requires-clause-divides
divide-requires-clause-divides c =
    let s = to_z w64 (of_z w64 c.args.scale) in
    subst (λ r. (q : ℕ) → q < length r → unsigned_abs s ∣ unsigned_abs (get_or r q (pos 0))) (sym (c.add_terms.ensures.unchanged c.if-add_terms.false))
    (λ q m. divides_scaled (get_or c.args.row.now q (pos 0)) s s (get_or c.scaled.new.row q (pos 0)) (c.in-Some.ensures.row q (omega (arith, m, c.scaled.auto.row))) refl)

pub returns-clause-formed : goal.returns-clause-formed
returns-clause-formed c =
    let s = to_z w64 (of_z w64 c.args.scale) in
    let es = short_word c.args.scale c.requires.scale.short in
    scaled_back c.args.row.now c.scaled.new.row c.divide.new.row c.args.scale s s c.requires.scale.positive es es c.scaled.auto.row (omega (arith, c.divide.auto.row, c.add_terms.auto.row, c.scaled.auto.row)) c.in-Some.ensures.row
    (subst (λ r. (q : ℕ) → q < length r → get_or c.divide.new.row q (pos 0) *ℤ s ≡ get_or r q (pos 0)) (c.add_terms.ensures.unchanged c.if-add_terms.false) c.divide.ensures)

pub returns-clause-row : goal.returns-clause-row
returns-clause-row c = subst (λ xs. All IsShort xs) (sym (returns-clause-formed c)) c.requires.row

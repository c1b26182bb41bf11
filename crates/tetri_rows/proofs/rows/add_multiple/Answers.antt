use Rattle.std.proofs.Common.{◌*◌, ◌^◌, ◌<◌, length, get_or, set, refl, rules, sym, ap, ◌∙◌, arith, subst}
use Rattle.std.proofs.lemmas.Int.{to_z-of_z}
use Rattle.std.proofs.lemmas.List.{length-set}
use Rattle.std.proofs.lemmas.List.Elements.{All-set}
use Rattle.std.specs.Prelude.{unsigned_abs, All}
use Prim.Native.Nat.{◌∣◌}
use lib.IntN.{pos, ◌*ℤ◌}
use mir.Val.{to_z, of_z, SFits}
use mir.Syntax.{w64}
use Rattle.tetri_rows.specs.Small.{IsShort}
use Rattle.tetri_rows.specs.Rows.{combined_at}
use Rattle.tetri_rows.proofs.Words.{word, short_word, put_back, new_denominator, new_short}
use Rattle.tetri_rows.proofs.Pairs.{row_meaning}
use Rattle.tetri_rows.proofs.rows.add_multiple.Goals as goal

pub divisor-g-requires-clause-row : goal.divisor-g-requires-clause-row
divisor-g-requires-clause-row c = All-set IsShort c.args.row.now c.args.j (pos 0) (omega arith) c.requires.row

pub greatest-most-requires-clause-row : goal.greatest-most-requires-clause-row
greatest-most-requires-clause-row c = All-set IsShort c.args.row.now c.args.j (pos 0) (omega arith) c.requires.row

pub write-requires-clause-row : goal.write-requires-clause-row
write-requires-clause-row c = All-set IsShort c.args.row.now c.args.j (pos 0) (omega arith) c.requires.row

pub write-requires-clause-divides : goal.write-requires-clause-divides
write-requires-clause-divides c =
    let fg : SFits w64 c.divisor-g.result = search rules in
    λ q l. subst (λ z. unsigned_abs z ∣ unsigned_abs (combined_at (to_z w64 (of_z w64 c.args.pivot_den)) (to_z w64 (of_z w64 (get_or c.args.row.now c.args.j (pos 0)))) (set c.args.row.now c.args.j (pos 0)) c.args.pivot.now q))
    (sym (to_z-of_z w64 c.divisor-g.result fg)) (c.divisor-g.ensures.numbers q l)

pub returns-then-not-is_short-clause-formed : goal.returns-then-not-is_short-clause-formed
returns-then-not-is_short-clause-formed c = put_back c.args.row.now c.args.j (pos 0) _ (short_word _ (c.requires.row c.args.j (pos 0) c.requires.place))

pub returns-then-not-is_short-clause-row : goal.returns-then-not-is_short-clause-row
returns-then-not-is_short-clause-row c = subst (λ xs. All IsShort xs) (sym (returns-then-not-is_short-clause-formed c)) c.requires.row

pub divided-requires-clause-divides : goal.divided-requires-clause-divides
divided-requires-clause-divides c =
    let fg : SFits w64 c.divisor-g.result = search rules in
    subst (λ z. unsigned_abs z ∣ unsigned_abs (to_z w64 (of_z w64 c.product-unreduced.result))) (sym (to_z-of_z w64 c.divisor-g.result fg)) c.divisor-g.ensures.den

pub returns-clause-den : goal.returns-clause-den
returns-clause-den c =
    let fg : SFits w64 c.divisor-g.result = search rules in
    let fm : SFits w64 c.greatest-most.result = search rules in
    let fr : SFits w64 c.divided.result = search rules in
    new_denominator c.divided.result _ c.divisor-g.result _ c.product-unreduced.result _ c.greatest-most.result _ (to_z-of_z w64 _ fr) (to_z-of_z w64 _ fg) (word _ c.product-unreduced.ensures.fits) (to_z-of_z w64 _ fm)
    c.divisor-g.ensures.positive c.product-unreduced.ensures.positive c.divided.ensures.value c.greatest-most.ensures.least (c.is_short.ensures c.if-not-is_short.false)

pub returns-clause-row : goal.returns-clause-row
returns-clause-row c =
    let fm : SFits w64 c.greatest-most.result = search rules in
    let xs = set c.args.row.now c.args.j (pos 0) in
    let D = to_z w64 (of_z w64 c.args.pivot_den) in
    let F = to_z w64 (of_z w64 (get_or c.args.row.now c.args.j (pos 0))) in
    new_short c.write.new.row (length xs) (λ q. combined_at D F xs c.args.pivot.now q) (to_z w64 (of_z w64 c.divisor-g.result)) c.greatest-most.result (omega (arith, c.write.auto.row)) c.write.ensures c.greatest-most.ensures.most
    (subst (λ z. unsigned_abs z < 2 ^ 31 * unsigned_abs (to_z w64 (of_z w64 c.divisor-g.result))) (to_z-of_z w64 c.greatest-most.result fm) (c.is_short.ensures c.if-not-is_short.false))

pub returns-clause-formed : goal.returns-clause-formed
returns-clause-formed c =
    let fg : SFits w64 c.divisor-g.result = search rules in
    let fr : SFits w64 c.divided.result = search rules in
    let eg = to_z-of_z w64 c.divisor-g.result fg in
    let er = to_z-of_z w64 c.divided.result fr in
    let ed = short_word _ c.requires.den.short in
    let ep = short_word _ c.requires.pivot_den.short in
    let l = length-set c.args.row.now c.args.j (pos 0) in
    row_meaning c.args.j c.args.den c.args.pivot_den (get_or c.args.row.now c.args.j (pos 0)) c.divisor-g.result _ _ _ _ c.args.row.now c.args.pivot.now c.write.new.row
    c.requires.den c.requires.pivot_den (returns-clause-den c) ep (short_word _ (c.requires.row c.args.j (pos 0) c.requires.place)) eg refl c.requires.place c.requires.wide (omega (arith, c.write.auto.row, l))
    (ap (λ z. z *ℤ c.divisor-g.result) er ∙ ap (λ z. c.divided.result *ℤ z) (sym eg) ∙ c.divided.ensures.value ∙ word _ c.product-unreduced.ensures.fits ∙ c.product-unreduced.ensures.value ∙ ap (λ z. z *ℤ to_z w64 (of_z w64 c.args.pivot_den)) ed ∙ ap (λ z. c.args.den *ℤ z) ep)
    (λ q m. c.write.ensures q (omega (arith, l, m)))

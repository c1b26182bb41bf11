use Rattle.std.proofs.Common.{get_or, refl, rules, sym, ap, ◌∙◌, arith, subst}
use Rattle.std.proofs.lemmas.Int.{to_z-of_z}
use Rattle.std.proofs.lemmas.List.{length-set}
use Rattle.std.proofs.lemmas.List.Elements.{All-set}
use Rattle.std.specs.Prelude.{unsigned_abs}
use lib.IntN.{pos, ◌-ℤ◌}
use Rattle.tetri_rows.specs.Rows.{meaning}
use mir.Val.{to_z, of_z, SFits}
use mir.Syntax.{w64}
use Rattle.tetri_rows.specs.Small.{IsShort}
use Rattle.tetri_rows.proofs.Words.{short_word, neg_word, neg_short}
use Rattle.tetri_rows.proofs.Solved.{solved_meaning}
use Rattle.tetri_rows.proofs.rows.solve_for.Goals as goal

pub turn-requires : goal.turn-requires
turn-requires c = All-set IsShort c.args.row.now c.args.j _ (subst IsShort (sym (neg_word c.args.den _ (short_word _ c.requires.den.short) c.requires.den.short)) (neg_short _ c.requires.den.short)) c.requires.row

pub returns-clause-formed : goal.returns-clause-formed
returns-clause-formed c =
    let a = get_or c.args.row.now c.args.j (pos 0) in
    let fb : SFits w64 c.abs.result = search rules in
    let fr : SFits w64 c.reduce.result = search rules in
    let ea = short_word a (c.requires.row c.args.j (pos 0) c.requires.place) in
    let l = length-set c.args.row.now c.args.j (to_z w64 (of_z w64 (pos 0 -ℤ to_z w64 (of_z w64 c.args.den)))) in
    solved_meaning c.args.j c.args.den a _ _ (to_z w64 (of_z w64 c.reduce.result)) _ c.args.row.now c.turn.new.row c.reduce.new.row c.requires.den c.requires.place refl ea c.requires.pivot
    (neg_word c.args.den _ (short_word _ c.requires.den.short) c.requires.den.short) (omega (arith, c.turn.auto.row, l))
    (λ q m. c.turn.ensures.value q (omega (arith, l, m)))
    (to_z-of_z w64 c.abs.result fb ∙ c.abs.ensures.value ∙ ap (λ z. pos (unsigned_abs z)) ea)
    (ap (λ z. meaning z c.reduce.new.row) (to_z-of_z w64 c.reduce.result fr) ∙ c.reduce.ensures.same)

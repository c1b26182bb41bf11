use Rattle.std.proofs.Common.{get_or, sym, subst}
use Rattle.std.specs.Prelude.{pos, unsigned_abs}
use Prim.Native.Nat.{◌∣◌}
use lib.IntN.{◌*ℤ◌}
use mir.Val.{to_z, of_z}
use mir.Syntax.{w64}
use Rattle.tetri_rows.proofs.Words.{short_word}
use Rattle.tetri_rows.proofs.terms.put_in.Goals as goal

pub add_scaled-requires-clause-whole : goal.add_scaled-requires-clause-whole
add_scaled-requires-clause-whole c =
    let d = to_z w64 (of_z w64 c.args.pivot_den) in
    let f = get_or c.args.row.now c.args.j (pos 0) in
    let s = c.scale_for-scale.result in
    subst (λ z. unsigned_abs d ∣ unsigned_abs (f *ℤ z)) (sym (short_word s c.scale_for-scale.ensures.den.short))
    (subst (λ z. unsigned_abs d ∣ unsigned_abs (z *ℤ s)) (short_word f (c.requires.row c.args.j (pos 0) c.requires.place)) c.scale_for-scale.ensures.whole)

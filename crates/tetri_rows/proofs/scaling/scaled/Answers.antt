use Rattle.std.proofs.Common.{◌<◌, ◌*◌, ◌^◌, get_or, subst, rules}
use Rattle.std.specs.Prelude.{pos, unsigned_abs}
use Rattle.std.proofs.lemmas.Int.{to_z-of_z}
use mir.Val.{to_z, of_z, SFits}
use mir.Syntax.{w64}
use Rattle.tetri_rows.proofs.Scaled.{scaled_short, product_short, one_times}
use Rattle.tetri_rows.proofs.scaling.scaled.Goals as goal

pub returns-clause-short : goal.returns-clause-short
returns-clause-short c =
    let fm : SFits w64 c.greatest.result = search rules in
    let b : unsigned_abs c.greatest.result < 2 ^ 31 = one_times (unsigned_abs c.greatest.result) (subst (λ z. unsigned_abs z < 2 ^ 31 * 1) (to_z-of_z w64 c.greatest.result fm) (c.is_short.ensures c.if-not-is_short.false)) in
    scaled_short c.args.row.now c.multiply.new.row (to_z w64 (of_z w64 c.args.scale)) c.multiply.auto.row c.multiply.ensures
    (λ q m. product_short (get_or c.args.row.now q (pos 0)) (to_z w64 (of_z w64 c.args.scale)) c.greatest.result (c.greatest.ensures.most q m) b)

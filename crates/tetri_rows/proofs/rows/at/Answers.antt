use Rattle.std.proofs.Common.{get_or, sym, subst}
use Rattle.std.specs.Prelude.{pos, ◌<ℤ◌}
use Rattle.tetri_num.specs.Frac.{value}
use Rattle.tetri_rows.proofs.Words.{wide_short, short_within}
use Rattle.tetri_rows.proofs.Meanings.{item_of}
use Rattle.tetri_rows.proofs.rows.at.Goals as goal

pub new-requires-clause-num_within : goal.new-requires-clause-num_within
new-requires-clause-num_within c = let n = get_or c.args.row.now c.args.k (pos 0) in let h = c.requires.row c.args.k (pos 0) c.requires.within in short_within n _ (wide_short n h) h

pub new-requires-clause-den_within : goal.new-requires-clause-den_within
new-requires-clause-den_within c = short_within c.args.den _ (wide_short c.args.den c.requires.den.short) c.requires.den.short

pub new-requires-clause-positive : goal.new-requires-clause-positive
new-requires-clause-positive c = subst (λ z. pos 0 <ℤ z) (sym (wide_short c.args.den c.requires.den.short)) c.requires.den.positive

pub returns : goal.returns
returns c =
    let n = get_or c.args.row.now c.args.k (pos 0) in
    item_of (value c.new.result) c.args.den _ _ c.args.row.now c.args.k c.requires.within (wide_short c.args.den c.requires.den.short) (wide_short n (c.requires.row c.args.k (pos 0) c.requires.within)) c.new.ensures.rational

use Rattle.std.proofs.Common.{ap, ◌∙◌}
use Rattle.tetri_num.specs.Frac.{value}
use Rattle.tetri_dictionary.specs.Pivots.{replaced_entry}
use Rattle.tetri_dictionary.proofs.Entries.{entry_times_zero}
use Rattle.tetri_dictionary.proofs.rows.replaced_entry.Goals as goal

pub returns-then-is_zero : goal.returns-then-is_zero
returns-then-is_zero c =
    ap (λ y. replaced_entry c.args.columns c.args.i (value c.args.a) c.args.k (value c.args.x) y) (c.is_zero.ensures.0 c.if-is_zero.true)
    ∙ entry_times_zero c.args.columns c.args.i c.args.k c.args.a c.args.x

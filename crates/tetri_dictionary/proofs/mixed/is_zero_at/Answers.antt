use Rattle.std.proofs.lemmas.Bool.{eqb-true, eq-eqb}
use mir.Val.{of_z}
use mir.Syntax.{w64}
use Rattle.tetri_dictionary.proofs.MixedRows.{whole_of_zero, zero_in_whole}
use Rattle.tetri_dictionary.proofs.mixed.is_zero_at.Goals as goal

pub returns-in-Whole : goal.returns-in-Whole
returns-in-Whole c =
    let x = c.index.result.now in (
      λ t. zero_in_whole c.args.columns c.args.row.now c.in-Whole.den c.in-Whole.numbers c.args.k x c.requires.row c.in-Whole.is c.requires.within c.index.ensures (eqb-true (of_z w64 x) 0 t),
      λ e. eq-eqb (of_z w64 x) 0 (whole_of_zero c.args.columns c.args.row.now c.in-Whole.den c.in-Whole.numbers c.args.k x c.requires.row c.in-Whole.is c.requires.within c.index.ensures e),
    )

use Rattle.std.proofs.Common.{get_or, refl, sym, ap, ◌∙◌}
use Rattle.std.proofs.lemmas.List.{set-set}
use Rattle.tetri_dictionary.specs.declared.mixed.MixedRow.{MixedRow}
use Rattle.tetri_dictionary.specs.Mixed.{mixed_row}
use Rattle.tetri_dictionary.specs.Pivots.{replaced_row}
use Rattle.tetri_dictionary.proofs.BelowRows.{below_set}
use Rattle.tetri_dictionary.proofs.MixedPivots.{mixed_read, own_read}
use Rattle.tetri_dictionary.proofs.mixed.replace_at.Goals as goal

pub returns-in-Ok-clause-formed : goal.returns-in-Ok-clause-formed
returns-in-Ok-clause-formed c =
    let n = c.args.columns in
    let k = c.args.k in
    let j = c.args.j in
    let rows = c.args.rows.now in
    let s = mixed_row c.args.solved.now in
    record {
      row = c.in-Ok.new;
      rows = set-set rows k c.replace-old.new.dest c.in-Ok.new;
      formed =
          ap (replaced_row n k j s) (mixed_read rows k (get_or rows k c.index-rows-k.result) c.requires.row (own_read rows k c.index-rows-k.result c.requires.row))
          ∙ ap (λ (y : MixedRow). replaced_row n k j s (mixed_row y)) (sym c.replace-old.ensures.value)
          ∙ c.in-Ok.ensures.formed;
    }

pub returns-in-Ok-clause-below : goal.returns-in-Ok-clause-below
returns-in-Ok-clause-below c =
    below_set c.args.below.now _ c.args.rows.now _ c.args.k c.is_negative_at.result c.in-Ok.new c.requires.below refl (set-set c.args.rows.now c.args.k c.replace-old.new.dest c.in-Ok.new) c.is_negative_at.ensures

use Rattle.std.proofs.Common.{◌≡◌, ◌+◌, length, sym, ◌∙◌, arith}
use Rattle.tetri_dictionary.specs.Mirrors.{mirror}
use Rattle.tetri_dictionary.specs.Mixed.{mixed_row}
use Rattle.tetri_dictionary.proofs.MirrorPlaces.{mirror_sign}
use Rattle.tetri_dictionary.proofs.MirrorRows.{length-mirror}
use Rattle.tetri_dictionary.proofs.MixedRows.{mixed_wide}
use Rattle.tetri_dictionary.proofs.MixedChoices.{positive_init, positive_next, positive_done}
use Rattle.tetri_dictionary.proofs.pairs_numbers.falls.Goals as goal

pub returns-then-is_negative_at : goal.returns-then-is_negative_at
returns-then-is_negative_at c =
    let row = mixed_row c.args.row.now in
    let wide : length row ≡ c.args.columns + 1 = mixed_wide c.args.columns c.args.row.now c.requires in
    λ w. sym (positive_next (mirror w row) c.args.columns c.loop-j.j _ (length-mirror w row ∙ wide) c.loop-j-test.true (mirror_sign w row c.loop-j.j (omega (arith, wide, c.loop-j-test.true)) ∙ sym c.is_negative_at.ensures ∙ c.if-is_negative_at.true)) ∙ c.loop-j.invariant w

pub loop-j-init : goal.loop-j-init
loop-j-init c = λ w. positive_init (mirror w (mixed_row c.args.row.now))

pub loop-j-preserved : goal.loop-j-preserved
loop-j-preserved c =
    let row = mixed_row c.args.row.now in
    let wide : length row ≡ c.args.columns + 1 = mixed_wide c.args.columns c.args.row.now c.requires in
    λ w. sym (positive_next (mirror w row) c.args.columns c.loop-j.j _ (length-mirror w row ∙ wide) c.loop-j-test.true (mirror_sign w row c.loop-j.j (omega (arith, wide, c.loop-j-test.true)) ∙ sym c.is_negative_at.ensures ∙ c.if-is_negative_at.false)) ∙ c.loop-j.invariant w

pub returns : goal.returns
returns c =
    let row = mixed_row c.args.row.now in
    λ w. sym (positive_done (mirror w row) c.args.columns c.loop-j.j (length-mirror w row ∙ mixed_wide c.args.columns c.args.row.now c.requires) c.loop-j-test.false) ∙ c.loop-j.invariant w

use Rattle.std.proofs.Common.{◌<◌, length, get_or, refl, sym, subst, ◌∙◌, arith, false}
use Rattle.tetri_dictionary.specs.declared.mixed.MixedRow.{MixedRow}
use Rattle.tetri_dictionary.specs.Mixed.{mixed_row, mixed_rows}
use Rattle.tetri_dictionary.specs.Pairs.{IsWholeRow}
use Rattle.tetri_dictionary.proofs.MixedPivots.{mixed_read}
use Rattle.tetri_dictionary.proofs.PairSigns.{sign_read, told_all, told_row, whole_up_to}
use Rattle.tetri_dictionary.proofs.pairs_pivot.tell_signs.Goals as goal

pub returns-then-k-rows-clause-told : goal.returns-then-k-rows-clause-told
returns-then-k-rows-clause-told c =
    λ t. told_all c.args.columns (length c.args.rows.now) (mixed_rows c.args.rows.now) c.args.origins.now c.args.own.now c.loop.from c.loop.below c.requires.homes.within (c.loop.auto.below ∙ c.requires.count)
    (λ q l b. c.next_set-k.ensures.between q l (omega (arith, b, c.if-k-rows.true))) c.loop.invariant.told

pub returns-clause-told : goal.returns-clause-told
returns-clause-told c =
    λ t. told_all c.args.columns (length c.args.rows.now) (mixed_rows c.args.rows.now) c.args.origins.now c.args.own.now c.loop.from c.loop.below c.requires.homes.within (c.loop.auto.below ∙ c.requires.count)
    (λ q l b. absurd (omega (arith, l, b, c.loop.invariant.least, c.loop-test.false, c.loop.auto.counter-end))) c.loop.invariant.told

pub loop-preserved : goal.loop-preserved
loop-preserved c =
    let rows = c.args.rows.now in
    let k = c.next_set-k.result in
    let lk : k < length rows = omega (arith, c.next_set-k.ensures.most, c.if-k-rows.false) in
    let row = c.index-rows-k.result in
    record {
      told =
          told_row c.args.columns (length rows) (mixed_rows rows) c.args.origins.now c.args.homes.now c.args.mirrors.now c.args.own.now c.loop.from k c.loop.below c.tell_row.new.below (get_or c.args.row_below.now k false) (mixed_row row)
          c.requires.homes lk c.next_set-k.ensures.least c.next_set-k.ensures.between (c.loop.auto.below ∙ c.requires.count) (sym (mixed_read rows k row lk c.index-rows-k.is))
          (sign_read rows c.args.row_below.now k false c.requires.row_below lk) (c.if-not-tell_row.ensures.told refl) c.loop.invariant.told;
      whole = whole_up_to c.args.columns rows c.args.own.now c.loop.from k c.index-rows-k.result lk c.loop.invariant.whole c.next_set-k.ensures.between c.requires.whole (subst (λ (r : MixedRow). IsWholeRow c.args.columns r) c.index-rows-k.is (c.if-not-tell_row.ensures.whole refl));
      least = omega (arith, c.loop.invariant.least, c.next_set-k.ensures.least);
      most = omega (arith, lk);
    }

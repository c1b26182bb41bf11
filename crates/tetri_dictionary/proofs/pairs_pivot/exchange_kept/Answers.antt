use Rattle.std.proofs.Common.{◌∙◌}
use Rattle.tetri_dictionary.proofs.FullTables.{at_place}
use Rattle.tetri_dictionary.proofs.PairPivots.{IsPivotable, IsHeldPivot, AreWritten, exchange_made, never_past}
use Rattle.tetri_dictionary.proofs.pairs_pivot.exchange_kept.Goals as goal

pub unreachable-requires : goal.unreachable-requires
unreachable-requires c =
    let t = c.args.t.now in
    let h : IsPivotable t c.args.i c.args.r c.args.j = record { sound = c.requires.sound; row = c.requires.row; kept = c.requires.kept; place = c.requires.place; pivot = c.requires.pivot } in
    never_past t c.args.i c.args.r c.args.j c.len-columns.result c.in-Err-Past.field-0 c.in-Err-Past.field-0-0 c.deref_mut.result.now h (c.len-columns.ensures ∙ t.nonbasic.ok.0) c.deref_mut.ensures.value c.in-Err-Past.field-0-is c.in-Err-Past.ensures.formed

pub returns-in-Ok : goal.returns-in-Ok
returns-in-Ok c =
    let t = c.args.t.now in
    let h : IsPivotable t c.args.i c.args.r c.args.j = record { sound = c.requires.sound; row = c.requires.row; kept = c.requires.kept; place = c.requires.place; pivot = c.requires.pivot } in
    let p : IsHeldPivot t c.len-columns.result c.args.r c.args.j c.deref_mut.result.now c.pivot_held.new.rows c.deref_mut-2.result.now c.pivot_held.new.below c.deref_mut-3.result.now c.pivot_held.new.holders = record {
      count = c.len-columns.ensures ∙ t.nonbasic.ok.0;
      was_rows = c.deref_mut.ensures.value;
      was_signs = c.deref_mut-2.ensures.value;
      was_holders = c.deref_mut-3.ensures.value;
      many_rows = c.pivot_held.auto.rows;
      many_signs = c.pivot_held.auto.below;
      many_holders = c.pivot_held.auto.holders;
      formed = c.in-Ok.ensures.formed;
      sound = c.in-Ok.ensures.sound;
      below = c.in-Ok.ensures.below;
      hold = c.in-Ok.ensures.holders;
      holder = c.in-Ok.ensures.holder;
      untouched = c.in-Ok.ensures.untouched;
    } in
    let w : AreWritten t c.args.r c.args.j c.index.result.now c.deref_mut-in-Ok.result.now c.clear_sign.new.below c.deref_mut-in-Ok-2.result.now c.exchange_origins.new.origins c.deref_mut-in-Ok-3.result.now c.exchange_origins.new.mirrors c.deref_mut-in-Ok-4.result.now c.exchange_origins.new.columns = record {
      place_is = c.index.ensures;
      was_below = c.deref_mut-in-Ok.ensures.value;
      was_origins = c.deref_mut-in-Ok-2.ensures.value;
      was_mirrors = c.deref_mut-in-Ok-3.ensures.value;
      was_columns = c.deref_mut-in-Ok-4.ensures.value;
      many_below = c.clear_sign.auto.below;
      cleared = c.clear_sign.ensures;
      made = c.exchange_origins.ensures.origins;
      mirrors_are = c.exchange_origins.ensures.mirrors;
      columns_are = c.exchange_origins.ensures.columns;
    } in
    exchange_made t c.args.i c.args.r c.args.j c.len-columns.result c.swap.new.x c.swap.new.y c.deref_mut.result.now c.pivot_held.new.rows c.deref_mut-2.result.now c.pivot_held.new.below c.deref_mut-3.result.now c.pivot_held.new.holders c.pivot_held.new.terms c.index.result.now
    c.deref_mut-in-Ok.result.now c.clear_sign.new.below c.deref_mut-in-Ok-2.result.now c.exchange_origins.new.origins c.deref_mut-in-Ok-3.result.now c.exchange_origins.new.mirrors c.deref_mut-in-Ok-4.result.now c.exchange_origins.new.columns h p w
    (c.swap.ensures.x_after ∙ c.index_mut-in-Ok.ensures.value ∙ at_place t.basic.items c.args.i _ c.requires.row)
    (c.swap.ensures.y_after ∙ c.index_mut.ensures.value ∙ at_place t.nonbasic.items c.args.j _ c.requires.place)

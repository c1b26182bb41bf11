use Rattle.std.proofs.Common.{subst, ◌∙◌, refl}
use Rattle.tetri_dictionary.specs.Pairs.{IsWholeRow}
use Rattle.tetri_dictionary.proofs.PairTables.{kept_pairs, kept_table, mirrored_row, places_turned, turned_pairs, turned_table, width_word}
use Rattle.tetri_dictionary.proofs.pairs_pivot.keep_mirror.Goals as goal

pub returns-then-not-turn_row-clause-table : goal.returns-then-not-turn_row-clause-table
returns-then-not-turn_row-clause-table c =
    let t = c.args.t.now in
    kept_table t c.args.row c.index_mut.result.now c.turn_row.new.row (mirrored_row t c.args.i c.args.row c.args.width c.requires.sound c.requires.place c.requires.origin).row c.index_mut.ensures.value (c.if-not-turn_row.ensures.kept refl)

pub returns-then-not-turn_row-clause-sound : goal.returns-then-not-turn_row-clause-sound
returns-then-not-turn_row-clause-sound c =
    let t = c.args.t.now in
    kept_pairs t c.args.row c.index_mut.result.now c.turn_row.new.row c.requires.sound (mirrored_row t c.args.i c.args.row c.args.width c.requires.sound c.requires.place c.requires.origin).row c.index_mut.ensures.value (c.if-not-turn_row.ensures.kept refl)
    (subst (λ n. IsWholeRow n c.turn_row.new.row) (c.len-columns.ensures ∙ t.nonbasic.ok.0) c.turn_row.ensures.whole)

pub returns-clause-table : goal.returns-clause-table
returns-clause-table c =
    let t = c.args.t.now in
    turned_table t c.args.i c.args.row c.args.width c.index_mut.result.now c.turn_row.new.row c.index.result.now _ _ _ c.requires.sound
    (places_turned t c.args.i c.args.row c.len-columns.result c.args.width _ c.index_mut.result.now c.turn_row.new.row c.index.result.now c.change_places.new.origins c.deref_mut.result.now c.change_places.new.homes c.deref_mut-2.result.now c.change_places.new.mirrors c.deref_mut-3.result.now
    c.requires.sound c.requires.place c.requires.origin (width_word c.args.width (mirrored_row t c.args.i c.args.row c.args.width c.requires.sound c.requires.place c.requires.origin).width) (c.len-columns.ensures ∙ t.nonbasic.ok.0) c.index_mut.ensures.value (c.if-not-turn_row.ensures.turned refl) c.turn_row.ensures.whole c.index.ensures
    c.deref_mut.ensures.value c.deref_mut-2.ensures.value c.deref_mut-3.ensures.value c.change_places.ensures.origins c.change_places.ensures.homes c.change_places.ensures.mirrors)

pub returns-clause-sound : goal.returns-clause-sound
returns-clause-sound c =
    let t = c.args.t.now in
    turned_pairs t c.args.i c.args.row c.args.width c.index_mut.result.now c.turn_row.new.row c.index.result.now _ _ _ c.requires.sound
    (places_turned t c.args.i c.args.row c.len-columns.result c.args.width _ c.index_mut.result.now c.turn_row.new.row c.index.result.now c.change_places.new.origins c.deref_mut.result.now c.change_places.new.homes c.deref_mut-2.result.now c.change_places.new.mirrors c.deref_mut-3.result.now
    c.requires.sound c.requires.place c.requires.origin (width_word c.args.width (mirrored_row t c.args.i c.args.row c.args.width c.requires.sound c.requires.place c.requires.origin).width) (c.len-columns.ensures ∙ t.nonbasic.ok.0) c.index_mut.ensures.value (c.if-not-turn_row.ensures.turned refl) c.turn_row.ensures.whole c.index.ensures
    c.deref_mut.ensures.value c.deref_mut-2.ensures.value c.deref_mut-3.ensures.value c.change_places.ensures.origins c.change_places.ensures.homes c.change_places.ensures.mirrors)

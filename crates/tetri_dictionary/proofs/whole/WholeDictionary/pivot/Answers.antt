use Rattle.std.proofs.Common.{ℕ, List, length, refl, sym, ap, subst, ◌∙◌}
use Rattle.std.specs.Global.{Vec}
use Rattle.tetri_dictionary.specs.Holders.{AreHolders}
use Rattle.tetri_dictionary.specs.declared.mixed.MixedRow.{MixedRow}
use Rattle.tetri_dictionary.specs.Mixed.{mixed_rows, AreMixedRows}
use Rattle.tetri_dictionary.proofs.FullTables.{at_place, items_are}
use Rattle.tetri_dictionary.proofs.WholeTables.{pivot_sound, pivoted_done, pivoted_fault}
use Rattle.tetri_dictionary.proofs.whole.WholeDictionary.pivot.Goals as goal

pub pivot_held-requires-clause-rows : goal.pivot_held-requires-clause-rows
pivot_held-requires-clause-rows c =
    let t = c.args.self.now in
    subst (λ (us : List MixedRow). AreMixedRows c.len-columns.result us) (sym c.deref_mut.ensures.value) (subst (λ n. AreMixedRows n t.rows.items) (sym (c.len-columns.ensures ∙ t.nonbasic.ok.0)) c.requires.sound.wide)

pub returns-in-Ok-clause-formed : goal.returns-in-Ok-clause-formed
returns-in-Ok-clause-formed c =
    let t = c.args.self.now in
    pivoted_done t c.len-columns.result c.args.row c.args.column c.swap.new.x c.swap.new.y c.deref_mut.result.now c.pivot_held.new.rows
    (c.len-columns.ensures ∙ t.nonbasic.ok.0) c.deref_mut.ensures.value c.in-Ok.ensures.formed c.pivot_held.auto.rows
    (c.swap.ensures.x_after ∙ c.index_mut-in-Ok.ensures.value ∙ at_place t.basic.items c.args.row _ c.requires.row)
    (c.swap.ensures.y_after ∙ c.index_mut.ensures.value ∙ at_place t.nonbasic.items c.args.column _ c.requires.column)

pub returns-in-Ok-clause-sound : goal.returns-in-Ok-clause-sound
returns-in-Ok-clause-sound c =
    let t = c.args.self.now in
    pivot_sound t _ c.len-columns.result c.args.row c.args.column c.swap.new.x c.swap.new.y c.deref_mut.result.now c.pivot_held.new.rows c.requires.sound (c.len-columns.ensures ∙ t.nonbasic.ok.0) c.deref_mut.ensures.value c.pivot_held.auto.rows refl refl refl c.in-Ok.ensures.sound
    (items_are t.below c.pivot_held.new.below (c.pivot_held.auto.below ∙ ap length c.deref_mut-2.ensures.value) ∙ c.in-Ok.ensures.below)
    (subst (λ (hs : List (Vec ℕ)). AreHolders c.len-columns.result hs (mixed_rows c.pivot_held.new.rows)) (sym (items_are t.holders c.pivot_held.new.holders (c.pivot_held.auto.holders ∙ ap length c.deref_mut-3.ensures.value))) c.in-Ok.ensures.holders)

pub returns-in-Err-clause-formed : goal.returns-in-Err-clause-formed
returns-in-Err-clause-formed c =
    pivoted_fault c.args.self.now c.len-columns.result c.args.row c.args.column c.deref_mut.result.now c.in-Err.fault
    (c.len-columns.ensures ∙ c.args.self.now.nonbasic.ok.0) c.deref_mut.ensures.value c.in-Err.ensures.formed

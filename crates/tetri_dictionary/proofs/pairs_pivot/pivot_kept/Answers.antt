use Rattle.std.proofs.Common.{◌∙◌}
use Rattle.tetri_dictionary.proofs.PairPivots.{IsPivotable, AreRead, bounded_after, few_read, homes_read, paired_read, pairs_read, pivoted_after, told_read, whole_read}
use Rattle.tetri_dictionary.proofs.pairs_pivot.pivot_kept.Goals as goal

pub tell_signs-requires-clause-few : goal.tell_signs-requires-clause-few
tell_signs-requires-clause-few c =
    let t = c.args.t.now in
    let h : IsPivotable t c.args.i c.args.r c.args.j = record { sound = c.requires.sound; row = c.requires.row; kept = c.requires.kept; place = c.requires.place; pivot = c.requires.pivot } in
    let a : AreRead t c.exchange_kept.new.t c.args.j c.len-columns.result c.deref.result.now c.deref-3.result.now c.deref-4.result.now c.deref-5.result.now c.deref-6.result.now c.deref_mut.result.now c.index-own.result.now = record {
      count = c.len-columns.ensures ∙ t.nonbasic.ok.0;
      rows_are = c.deref.ensures.value;
      homes_are = c.deref-3.ensures.value;
      mirrors_are = c.deref-4.ensures.value;
      origins_are = c.deref-5.ensures.value;
      words_are = c.deref-6.ensures.value;
      own_is = c.index-own.ensures;
      below_is = c.deref_mut.ensures.value;
    } in
    few_read t c.exchange_kept.new.t c.args.i c.args.r c.args.j c.len-columns.result c.deref.result.now c.deref-3.result.now c.deref-4.result.now c.deref-5.result.now c.deref-6.result.now c.deref_mut.result.now c.index-own.result.now h c.in_ok-exchange_kept.ensures a

pub tell_signs-requires-clause-homes : goal.tell_signs-requires-clause-homes
tell_signs-requires-clause-homes c =
    let t = c.args.t.now in
    let h : IsPivotable t c.args.i c.args.r c.args.j = record { sound = c.requires.sound; row = c.requires.row; kept = c.requires.kept; place = c.requires.place; pivot = c.requires.pivot } in
    let a : AreRead t c.exchange_kept.new.t c.args.j c.len-columns.result c.deref.result.now c.deref-3.result.now c.deref-4.result.now c.deref-5.result.now c.deref-6.result.now c.deref_mut.result.now c.index-own.result.now = record {
      count = c.len-columns.ensures ∙ t.nonbasic.ok.0;
      rows_are = c.deref.ensures.value;
      homes_are = c.deref-3.ensures.value;
      mirrors_are = c.deref-4.ensures.value;
      origins_are = c.deref-5.ensures.value;
      words_are = c.deref-6.ensures.value;
      own_is = c.index-own.ensures;
      below_is = c.deref_mut.ensures.value;
    } in
    homes_read t c.exchange_kept.new.t c.args.i c.args.r c.args.j c.len-columns.result c.deref.result.now c.deref-3.result.now c.deref-4.result.now c.deref-5.result.now c.deref-6.result.now c.deref_mut.result.now c.index-own.result.now h c.in_ok-exchange_kept.ensures a

pub tell_signs-requires-clause-whole : goal.tell_signs-requires-clause-whole
tell_signs-requires-clause-whole c =
    let t = c.args.t.now in
    let h : IsPivotable t c.args.i c.args.r c.args.j = record { sound = c.requires.sound; row = c.requires.row; kept = c.requires.kept; place = c.requires.place; pivot = c.requires.pivot } in
    let a : AreRead t c.exchange_kept.new.t c.args.j c.len-columns.result c.deref.result.now c.deref-3.result.now c.deref-4.result.now c.deref-5.result.now c.deref-6.result.now c.deref_mut.result.now c.index-own.result.now = record {
      count = c.len-columns.ensures ∙ t.nonbasic.ok.0;
      rows_are = c.deref.ensures.value;
      homes_are = c.deref-3.ensures.value;
      mirrors_are = c.deref-4.ensures.value;
      origins_are = c.deref-5.ensures.value;
      words_are = c.deref-6.ensures.value;
      own_is = c.index-own.ensures;
      below_is = c.deref_mut.ensures.value;
    } in
    whole_read t c.exchange_kept.new.t c.args.i c.args.r c.args.j c.len-columns.result c.deref.result.now c.deref-3.result.now c.deref-4.result.now c.deref-5.result.now c.deref-6.result.now c.deref_mut.result.now c.index-own.result.now h c.in_ok-exchange_kept.ensures a

pub tell_signs-requires-clause-told : goal.tell_signs-requires-clause-told
tell_signs-requires-clause-told c =
    let t = c.args.t.now in
    let h : IsPivotable t c.args.i c.args.r c.args.j = record { sound = c.requires.sound; row = c.requires.row; kept = c.requires.kept; place = c.requires.place; pivot = c.requires.pivot } in
    let a : AreRead t c.exchange_kept.new.t c.args.j c.len-columns.result c.deref.result.now c.deref-3.result.now c.deref-4.result.now c.deref-5.result.now c.deref-6.result.now c.deref_mut.result.now c.index-own.result.now = record {
      count = c.len-columns.ensures ∙ t.nonbasic.ok.0;
      rows_are = c.deref.ensures.value;
      homes_are = c.deref-3.ensures.value;
      mirrors_are = c.deref-4.ensures.value;
      origins_are = c.deref-5.ensures.value;
      words_are = c.deref-6.ensures.value;
      own_is = c.index-own.ensures;
      below_is = c.deref_mut.ensures.value;
    } in
    told_read t c.exchange_kept.new.t c.args.i c.args.r c.args.j c.len-columns.result c.deref.result.now c.deref-3.result.now c.deref-4.result.now c.deref-5.result.now c.deref-6.result.now c.deref_mut.result.now c.index-own.result.now h c.in_ok-exchange_kept.ensures a

pub returns-clause-formed : goal.returns-clause-formed
returns-clause-formed c =
    let t = c.args.t.now in
    let h : IsPivotable t c.args.i c.args.r c.args.j = record { sound = c.requires.sound; row = c.requires.row; kept = c.requires.kept; place = c.requires.place; pivot = c.requires.pivot } in
    pivoted_after t c.exchange_kept.new.t c.args.i c.args.r c.args.j h c.in_ok-exchange_kept.ensures

pub returns-clause-bounded : goal.returns-clause-bounded
returns-clause-bounded c =
    let t = c.args.t.now in
    let h : IsPivotable t c.args.i c.args.r c.args.j = record { sound = c.requires.sound; row = c.requires.row; kept = c.requires.kept; place = c.requires.place; pivot = c.requires.pivot } in
    bounded_after t c.exchange_kept.new.t c.args.i c.args.r c.args.j h c.in_ok-exchange_kept.ensures

pub returns-clause-paired : goal.returns-clause-paired
returns-clause-paired c =
    let t = c.args.t.now in
    let h : IsPivotable t c.args.i c.args.r c.args.j = record { sound = c.requires.sound; row = c.requires.row; kept = c.requires.kept; place = c.requires.place; pivot = c.requires.pivot } in
    paired_read t c.exchange_kept.new.t c.args.i c.args.r c.args.j c.tell_signs.new.below h c.in_ok-exchange_kept.ensures

pub returns-clause-sound : goal.returns-clause-sound
returns-clause-sound c =
    let t = c.args.t.now in
    let h : IsPivotable t c.args.i c.args.r c.args.j = record { sound = c.requires.sound; row = c.requires.row; kept = c.requires.kept; place = c.requires.place; pivot = c.requires.pivot } in
    λ b. pairs_read t c.exchange_kept.new.t c.args.i c.args.r c.args.j c.len-columns.result c.deref.result.now c.deref-5.result.now c.deref_mut.result.now c.tell_signs.new.below h c.in_ok-exchange_kept.ensures (c.len-columns.ensures ∙ t.nonbasic.ok.0)
    c.deref.ensures.value c.deref-5.ensures.value c.deref_mut.ensures.value c.tell_signs.auto.below (c.tell_signs.ensures.whole b) (c.tell_signs.ensures.told b)

use Rattle.std.proofs.Common.{◌≡◌, ◌<◌, ℕ, List, length, get_or, ap, sym, subst, ◌∙◌, inl, inr, ⊎_elim}
use Rattle.std.specs.Global.{Vec}
use Rattle.std.specs.Prelude.{All}
use Rattle.std.specs.Vec.{with_items}
use Rattle.tetri_dictionary.specs.Holders.{bit, IsHolder}
use Rattle.tetri_dictionary.specs.Mixed.{mixed_rows}
use Rattle.tetri_dictionary.proofs.FullTables.{items_are}
use Rattle.tetri_dictionary.proofs.HolderBits.{words_same}
use Rattle.tetri_dictionary.proofs.HolderPivots.{held_after}
use Rattle.tetri_dictionary.proofs.MixedPivots.{own_read}
use Rattle.tetri_dictionary.proofs.holders.pivot_held.Goals as goal

pub returns-in-Ok-clause-holders : goal.returns-in-Ok-clause-holders
returns-in-Ok-clause-holders c =
    let hs = c.args.holders.now in
    let own = c.pivot_mixed.new.own in
    let v = with_items c.in_ok-own.own own in
    let old = c.deref_mut.ensures.value in
    let ve : v.items ≡ own = items_are c.in_ok-own.own own (c.pivot_mixed.auto.own ∙ ap length old) in
    let read : c.deref-in-Ok.result.now ≡ own = c.deref-in-Ok.ensures.value ∙ ve in
    let h = c.requires.holders in
    let l : c.args.j < length hs = subst (λ z. c.args.j < z) (sym h.columns) c.requires.place in
    let wide = c.pivot_mixed.auto.own ∙ ap length (old ∙ c.in_ok-own.ensures ∙ c.deref.ensures.value) ∙ h.words c.args.j c.index-holders-j.result l in
    let i : c.args.i < length c.pivot_mixed.new.rows = subst (λ z. c.args.i < z) (sym c.pivot_mixed.auto.rows) c.requires.row in
    held_after c.args.columns c.args.i c.args.j c.args.rows.now c.pivot_mixed.new.rows hs c.spread.new.holders own v (get_or c.pivot_mixed.new.rows c.args.i c.index-rows-i.result) h c.requires.row c.requires.place c.in-Ok.ensures.formed c.requires.pivot
    c.pivot_mixed.ensures.holder c.pivot_mixed.auto.rows (own_read c.pivot_mixed.new.rows c.args.i c.index-rows-i.result i) ve wide c.spread.auto.holders
    (subst (λ (us : List ℕ). All (λ (u : Vec ℕ). length u.items ≡ length us) c.spread.new.holders) read c.spread.ensures.words) c.spread.ensures.before
    (λ p q m b. ⊎_elim (λ z. inl z) (λ z. inr (subst (λ (us : List ℕ). bit us q ≡ 0) read z)) (c.spread.ensures.own p q m b))

pub returns-in-Ok-clause-holder : goal.returns-in-Ok-clause-holder
returns-in-Ok-clause-holder c =
    let own = c.pivot_mixed.new.own in
    let v = with_items c.in_ok-own.own own in
    let ve : v.items ≡ own = items_are c.in_ok-own.own own (c.pivot_mixed.auto.own ∙ ap length c.deref_mut.ensures.value) in
    let l : c.args.j < length c.spread.new.holders = subst (λ z. c.args.j < z) (sym (c.spread.auto.holders ∙ c.requires.holders.columns)) c.requires.place in
    subst (λ (us : List ℕ). IsHolder us (mixed_rows c.args.rows.now) c.args.j) (sym (words_same c.spread.new.holders c.args.j v l ∙ ve)) c.pivot_mixed.ensures.holder

pub returns-in-Ok-clause-untouched : goal.returns-in-Ok-clause-untouched
returns-in-Ok-clause-untouched c =
    let own = c.pivot_mixed.new.own in
    let v = with_items c.in_ok-own.own own in
    let ve : v.items ≡ own = items_are c.in_ok-own.own own (c.pivot_mixed.auto.own ∙ ap length c.deref_mut.ensures.value) in
    let l : c.args.j < length c.spread.new.holders = subst (λ z. c.args.j < z) (sym (c.spread.auto.holders ∙ c.requires.holders.columns)) c.requires.place in
    λ q r b. c.in-Ok.ensures.untouched q r (subst (λ (us : List ℕ). bit us q ≡ 0) (words_same c.spread.new.holders c.args.j v l ∙ ve) b)

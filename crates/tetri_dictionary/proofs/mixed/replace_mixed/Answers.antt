use Rattle.std.proofs.Common.{◌≡◌, ◌+◌, ◌<◌, ◌≤◌, ℕ, List, length, get_or, sym, ap, subst, ◌∙◌, arith}
use Rattle.std.proofs.lemmas.Bool.{false≢true}
use Rattle.tetri_dictionary.specs.declared.mixed.MixedRow.{MixedRow}
use Rattle.tetri_dictionary.specs.Pivots.{next_row}
use Rattle.tetri_dictionary.specs.Mixed.{mixed_row, mixed_rows, AreFractionsOfRow, AreMixedRows}
use Rattle.tetri_dictionary.specs.Below.{below_of}
use Rattle.tetri_dictionary.specs.Holders.{bit, IsHolder}
use Rattle.tetri_dictionary.proofs.HolderRows.{cleared_untouched, has_bit, later_replaced, later_same, later_there, narrowed, pass, passed, read_zero, replaced_untouched, same_there, still_there, there_zero}
use Rattle.tetri_dictionary.proofs.MixedPivots.{fault_along, mixed_done, mixed_next, mixed_own, mixed_stop, own_read}
use Rattle.tetri_dictionary.proofs.TableRows.{rest_of}
use Rattle.tetri_dictionary.proofs.mixed.replace_mixed.Goals as goal
use Rattle.tetri_dictionary.proofs.mixed.replace_mixed.Goals.{then-is_zero_at, else-is_zero_at+then-k-i+in-Ok, else-is_zero_at+else-k-i}

pub returns-then-k-rows-clause-formed : goal.returns-then-k-rows-clause-formed
returns-then-k-rows-clause-formed c =
    let n = c.args.columns in
    let s = mixed_row c.args.solved.now in
    let k = c.next_set-k.result in
    sym c.loop.invariant.formed
    ∙ sym (passed n c.args.i c.args.j c.args.solved.now c.loop.rows c.args.rows.now c.loop.own c.loop.from k c.loop.invariant.sound c.requires.solved c.next_set-k.ensures.least c.loop.invariant.holder c.loop.invariant.there c.next_set-k.ensures.between)
    ∙ mixed_done n c.args.i c.args.j s c.loop.rows k (omega (arith, c.if-k-rows.true))

pub returns-in-Err-clause-formed : goal.returns-in-Err-clause-formed
returns-in-Err-clause-formed c =
    let n = c.args.columns in
    let s = mixed_row c.args.solved.now in
    let k = c.next_set-k.result in
    let h : k < length c.loop.rows = omega (arith, c.next_set-k.ensures.most, c.if-k-rows.false) in
    fault_along c.in-Err.fault _ _
    (passed n c.args.i c.args.j c.args.solved.now c.loop.rows c.args.rows.now c.loop.own c.loop.from k c.loop.invariant.sound c.requires.solved c.next_set-k.ensures.least c.loop.invariant.holder c.loop.invariant.there c.next_set-k.ensures.between ∙ c.loop.invariant.formed)
    (mixed_stop n c.args.i c.args.j s c.loop.rows k c.in-Err.fault h c.if-k-i.true c.in-Err.ensures.formed)

pub loop-preserved : goal.loop-preserved
loop-preserved c =
    let n = c.args.columns in
    let i = c.args.i in
    let j = c.args.j in
    let s = mixed_row c.args.solved.now in
    let k = c.next_set-k.result in
    let first = c.args.rows.now in
    let rows = c.loop.rows in
    let after = c.if-is_zero_at.rows in
    let h : k < length rows = omega (arith, c.next_set-k.ensures.most, c.if-k-rows.false) in
    let most : k + 1 ≤ length after = omega (arith, h, c.if-is_zero_at.auto.rows) in
    let least : c.loop.counter + 1 ≤ k + 1 = omega (arith, c.loop.invariant.least, c.next_set-k.ensures.least) in
    let there = later_there rows first c.loop.from k c.next_set-k.ensures.least c.loop.invariant.there in
    let before = passed n i j c.args.solved.now rows first c.loop.own c.loop.from k c.loop.invariant.sound c.requires.solved c.next_set-k.ensures.least c.loop.invariant.holder c.loop.invariant.there c.next_set-k.ensures.between ∙ c.loop.invariant.formed in
    elim c.if-is_zero_at.branch [
      | then-is_zero_at w ↦
          let z = read_zero rows k j (get_or rows k c.index-rows-k.result) h (own_read rows k c.index-rows-k.result h) (c.is_zero_at.ensures.0 w.if-is_zero_at.true) in
          record {
            formed = ap (λ (us : List MixedRow). rest_of (next_row n i j s) i s (mixed_rows us) (k + 1)) w.rows-is ∙ pass n i j c.args.solved.now rows k c.loop.invariant.sound c.requires.solved z ∙ before;
            sound = subst (λ (us : List MixedRow). AreMixedRows n us) (sym w.rows-is) c.loop.invariant.sound;
            known = subst (AreFractionsOfRow c.args.solved.now) (sym w.known-is) c.loop.invariant.known;
            below = w.below-is ∙ c.loop.invariant.below ∙ ap (λ (us : List MixedRow). below_of (mixed_rows us)) (sym w.rows-is);
            holder = narrowed c.loop.own c.if-is_zero_at.own (mixed_rows first) j k (there_zero rows first k j (there k (omega arith)) z) (λ q d b. w.clear_bit.ensures q d (subst (λ (ws : List ℕ). bit ws q ≡ 0) w.own-is b)) c.loop.invariant.holder;
            untouched = cleared_untouched rows first after c.loop.own c.if-is_zero_at.own c.loop.from k c.next_set-k.ensures.least w.rows-is
                (λ q d b. w.clear_bit.ensures q d (subst (λ (ws : List ℕ). bit ws q ≡ 0) w.own-is b)) c.loop.invariant.untouched c.loop.invariant.later;
            later = later_same rows first after c.loop.from k c.next_set-k.ensures.least w.rows-is c.loop.invariant.later;
            there = same_there rows first after k w.rows-is there;
            least = least;
            most = most;
          }
      | else-is_zero_at+then-k-i+in-Ok w ↦ record {
        formed = mixed_next n i j s rows after k h w.if-k-i.true w.in-Ok.ensures.formed.row (w.rows-is ∙ w.in-Ok.ensures.formed.rows) w.in-Ok.ensures.formed.formed ∙ before;
        sound = subst (λ (us : List MixedRow). AreMixedRows n us) (sym w.rows-is) w.in-Ok.ensures.sound;
        known = subst (AreFractionsOfRow c.args.solved.now) (sym w.known-is) w.in-Ok.ensures.known;
        below = w.below-is ∙ w.in-Ok.ensures.below ∙ ap (λ (us : List MixedRow). below_of (mixed_rows us)) (sym w.rows-is);
        holder = subst (λ (ws : List ℕ). IsHolder ws (mixed_rows first) j) (sym w.own-is) c.loop.invariant.holder;
        untouched = replaced_untouched rows first after c.loop.own c.if-is_zero_at.own k w.in-Ok.ensures.formed.row (w.rows-is ∙ w.in-Ok.ensures.formed.rows) w.own-is (has_bit c.loop.own rows first k j (get_or rows k c.index-rows-k.result) h (own_read rows k c.index-rows-k.result h) (there k (omega arith)) c.loop.invariant.holder (λ z. false≢true (sym w.if-is_zero_at.false ∙ c.is_zero_at.ensures.1 z))) c.loop.invariant.untouched;
        later = later_replaced rows first after c.loop.from k c.next_set-k.ensures.least w.in-Ok.ensures.formed.row (w.rows-is ∙ w.in-Ok.ensures.formed.rows) c.loop.invariant.later;
        there = still_there rows first after k w.in-Ok.ensures.formed.row (w.rows-is ∙ w.in-Ok.ensures.formed.rows) there;
        least = least;
        most = most;
      }
      | else-is_zero_at+else-k-i w ↦ record {
        formed = ap (λ (us : List MixedRow). rest_of (next_row n i j s) i s (mixed_rows us) (k + 1)) w.rows-is ∙ mixed_own n i j s rows k h w.if-k-i.false ∙ before;
        sound = subst (λ (us : List MixedRow). AreMixedRows n us) (sym w.rows-is) c.loop.invariant.sound;
        known = subst (AreFractionsOfRow c.args.solved.now) (sym w.known-is) c.loop.invariant.known;
        below = w.below-is ∙ c.loop.invariant.below ∙ ap (λ (us : List MixedRow). below_of (mixed_rows us)) (sym w.rows-is);
        holder = subst (λ (ws : List ℕ). IsHolder ws (mixed_rows first) j) (sym w.own-is) c.loop.invariant.holder;
        untouched = λ q r b. ap (λ (us : List MixedRow). get_or us q r) w.rows-is ∙ c.loop.invariant.untouched q r (subst (λ (ws : List ℕ). bit ws q ≡ 0) w.own-is b);
        later = later_same rows first after c.loop.from k c.next_set-k.ensures.least w.rows-is c.loop.invariant.later;
        there = same_there rows first after k w.rows-is there;
        least = least;
        most = most;
      }
    ]

pub returns-clause-formed : goal.returns-clause-formed
returns-clause-formed c =
    sym c.loop.invariant.formed ∙ mixed_done c.args.columns c.args.i c.args.j (mixed_row c.args.solved.now) c.loop.rows c.loop.from (omega (arith, c.loop.invariant.least, c.loop.auto.rows, c.loop-test.false))

use Rattle.std.proofs.Common.{◌<◌, ℕ, List, length, get_or, refl, set, sym, ap, subst, ◌∙◌, ⊎_elim}
use Rattle.std.specs.Vec.{with_items}
use Rattle.std.proofs.lemmas.Bool.{cases_eq}
use Rattle.tetri_ip.specs.Points.{column_at}
use Rattle.tetri_dictionary.specs.Holders.{bit, words_at}
use Rattle.tetri_dictionary.proofs.HolderBits.{IsWritten, is_written, words_wide, written_before, before_last}
use Rattle.tetri_dictionary.proofs.holders.hold_terms.Goals as goal

pub loop-t-preserved : goal.loop-t-preserved
loop-t-preserved c =
    let hs = c.loop-t.holders in
    let terms = c.args.terms.now in
    let t = c.loop-t.t in
    let k = column_at terms t in
    let l : k < length hs = subst (λ n. k < n) (sym c.loop-t.auto.holders) (c.requires.columns t c.loop-t-test.true) in
    let old = c.deref_mut.result.now in
    let new = c.set_bit.new.words in
    let r = c.index-holders-terms.result in
    let after = set hs k (with_items (get_or hs k r) new) in
    let h : IsWritten hs after k old new = is_written hs after k r old new l c.deref_mut.ensures.value c.set_bit.auto.words refl in
    record {
      words = words_wide c.args.words hs after k r old new l c.deref_mut.ensures.value c.set_bit.auto.words refl c.loop-t.invariant.words;
      before = λ p q b. c.loop-t.invariant.before p q (written_before hs after k old new h c.set_bit.ensures.more p q b);
      own = λ p u b m e.
          ⊎_elim
          (λ s. c.set_bit.ensures.own (ap (λ (us : List ℕ). bit us c.args.k) (sym h.own ∙ ap (words_at after) (ap (column_at terms) (sym s) ∙ e)) ∙ b))
          (λ d. c.loop-t.invariant.own p u (written_before hs after k old new h c.set_bit.ensures.more p c.args.k b) (before_last t u m d) e)
          (cases_eq u t);
    }

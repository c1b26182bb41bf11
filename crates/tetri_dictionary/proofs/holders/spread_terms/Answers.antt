use Rattle.std.proofs.Common.{◌≡◌, ◌-◌, ◌<◌, ℕ, List, length, get_or, ap, sym, subst, ◌∙◌, inl, inr, ⊎_elim, arith}
use Rattle.std.specs.Global.{Vec}
use Rattle.std.specs.Prelude.{All}
use Rattle.std.proofs.lemmas.Bool.{cases_eq}
use Rattle.tetri_dictionary.specs.Holders.{bit, words_at}
use Rattle.tetri_dictionary.proofs.HolderBits.{IsWritten, is_written, words_wide, written_before}
use Rattle.tetri_dictionary.proofs.HolderTerms.{also_unlisted, named_before, named_column}
use Rattle.tetri_dictionary.proofs.holders.spread_terms.Goals as goal
use Rattle.tetri_dictionary.proofs.holders.spread_terms.Goals.{then-place-ne0, else-place-ne0}

pub loop-t-preserved : goal.loop-t-preserved
loop-t-preserved c =
    let hs = c.loop-t.holders in
    let after = c.if-place-ne0.holders in
    let places = c.args.places.now in
    let t = c.loop-t.t in
    let k = get_or places t 0 - 1 in
    let own = c.args.own.now in
    let m : length hs ≡ length c.args.holders.now = c.loop-t.auto.holders in
    let within = c.requires.places t c.loop-t-test.true in
    elim c.if-place-ne0.branch [
      | then-place-ne0 w ↦
          let l : k < length hs = named_column (get_or places t 0) (length c.args.holders.now) (length hs) m w.if-place-ne0.true within in
          let old = w.deref_mut.result.now in
          let new = w.unite.new.words in
          let r = w.index-holders-place.result in
          let h : IsWritten hs after k old new = is_written hs after k r old new l w.deref_mut.ensures.value w.unite.auto.words w.holders-is in
          record {
            words = words_wide (length own) hs after k r old new l w.deref_mut.ensures.value w.unite.auto.words w.holders-is c.loop-t.invariant.words;
            before = λ p q b. c.loop-t.invariant.before p q (written_before hs after k old new h w.unite.ensures.own p q b);
            own = λ p q b.
                ⊎_elim
                (λ e. inr (w.unite.ensures.others q (ap (λ (us : List ℕ). bit us q) (sym h.own ∙ ap (λ z. words_at after z) (sym e)) ∙ b)))
                (λ d.
                ⊎_elim (λ f. inl (also_unlisted places t p (λ e. d (named_before (get_or places t 0) p e)) f)) (λ z. inr z)
                (c.loop-t.invariant.own p q (written_before hs after k old new h w.unite.ensures.own p q b)))
                (cases_eq p k);
          }
      | else-place-ne0 w ↦ record {
        words = subst (λ (us : List (Vec ℕ)). All (λ (v : Vec ℕ). length v.items ≡ length own) us) (sym w.holders-is) c.loop-t.invariant.words;
        before = λ p q b. c.loop-t.invariant.before p q (subst (λ (us : List (Vec ℕ)). bit (words_at us p) q ≡ 0) w.holders-is b);
        own = λ p q b.
            ⊎_elim (λ f. inl (also_unlisted places t p (λ e. absurd (omega (arith, e, w.if-place-ne0.false))) f)) (λ z. inr z)
            (c.loop-t.invariant.own p q (subst (λ (us : List (Vec ℕ)). bit (words_at us p) q ≡ 0) w.holders-is b));
      }
    ]

use Rattle.std.proofs.Common.{◌≡◌, ◌+◌, ◌<◌, ℕ, List, length, get_or, ap, sym, subst, ◌∙◌, inl, inr, ⊎_elim, arith}
use Prim.Native.Nat.{suc}
use Rattle.std.specs.Global.{Vec}
use Rattle.std.specs.Prelude.{All}
use Rattle.tetri_algebra.specs.RationalRing.{zero_ℚ}
use Rattle.tetri_dictionary.specs.Holders.{bit, words_at}
use Rattle.tetri_dictionary.specs.Mixed.{mixed_row}
use Rattle.tetri_dictionary.proofs.HolderBits.{IsWritten, is_written, words_wide, written_before, before_last}
use Rattle.std.proofs.lemmas.Bool.{cases_eq}
use Rattle.tetri_dictionary.proofs.holders.spread_each.Goals as goal
use Rattle.tetri_dictionary.proofs.holders.spread_each.Goals.{then-not-is_zero_at, else-not-is_zero_at}

pub is_zero_at-requires : goal.is_zero_at-requires
is_zero_at-requires c = record { row = c.requires.row; within = omega (arith, c.loop-p-test.true, c.requires.columns) }

pub loop-p-preserved : goal.loop-p-preserved
loop-p-preserved c =
    let hs = c.loop-p.holders in
    let after = c.if-not-is_zero_at.holders in
    let k = c.loop-p.p in
    let own = c.args.own.now in
    let row = mixed_row c.args.row.now in
    let l : k < length hs = omega (arith, c.loop-p-test.true, c.loop-p.auto.holders) in
    let s : k + 1 ≡ suc k = omega arith in
    elim c.if-not-is_zero_at.branch [
      | then-not-is_zero_at w ↦
          let old = w.deref_mut.result.now in
          let new = w.unite.new.words in
          let r = w.index-holders-p.result in
          let h : IsWritten hs after k old new = is_written hs after k r old new l w.deref_mut.ensures.value w.unite.auto.words w.holders-is in
          record {
            words = words_wide (length own) hs after k r old new l w.deref_mut.ensures.value w.unite.auto.words w.holders-is c.loop-p.invariant.words;
            before = λ p q b. c.loop-p.invariant.before p q (written_before hs after k old new h w.unite.ensures.own p q b);
            own = λ p q m b.
                ⊎_elim
                (λ e. inr (w.unite.ensures.others q (ap (λ (us : List ℕ). bit us q) (sym h.own ∙ ap (λ z. words_at after z) (sym e)) ∙ b)))
                (λ d. c.loop-p.invariant.own p q (before_last k p m d) (written_before hs after k old new h w.unite.ensures.own p q b))
                (cases_eq p k);
          }
      | else-not-is_zero_at w ↦ record {
        words = subst (λ (us : List (Vec ℕ)). All (λ (v : Vec ℕ). length v.items ≡ length own) us) (sym w.holders-is) c.loop-p.invariant.words;
        before = λ p q b. c.loop-p.invariant.before p q (subst (λ (us : List (Vec ℕ)). bit (words_at us p) q ≡ 0) w.holders-is b);
        own = λ p q m b.
            ⊎_elim
            (λ e. inl (ap (λ z. get_or row z zero_ℚ) (ap suc e ∙ sym s) ∙ c.is_zero_at.ensures.0 w.if-not-is_zero_at.false))
            (λ d. c.loop-p.invariant.own p q (before_last k p m d) (subst (λ (us : List (Vec ℕ)). bit (words_at us p) q ≡ 0) w.holders-is b))
            (cases_eq p k);
      }
    ]

use Rattle.std.proofs.Common.{◌≡◌, ◌+◌, ◌<◌, ℕ, List, length, get_or, ap, sym, subst, ◌∙◌, ⊎_elim, arith}
use Prim.Native.Nat.{suc}
use Rattle.std.specs.Global.{Vec}
use Rattle.std.specs.Prelude.{All}
use Rattle.tetri_algebra.specs.RationalRing.{zero_ℚ}
use Rattle.tetri_dictionary.specs.Holders.{bit, words_at}
use Rattle.tetri_dictionary.specs.Mixed.{mixed_row}
use Rattle.tetri_dictionary.proofs.HolderBits.{IsWritten, is_written, words_wide, written_before, before_last}
use Rattle.std.proofs.lemmas.Bool.{cases_eq}
use Rattle.tetri_dictionary.proofs.holders.hold_row.Goals as goal
use Rattle.tetri_dictionary.proofs.holders.hold_row.Goals.{then-not-is_zero_at, else-not-is_zero_at}

pub is_zero_at-requires : goal.is_zero_at-requires
is_zero_at-requires c = record { row = c.requires.row; within = omega (arith, c.loop-p-test.true, c.requires.columns) }

pub loop-p-preserved : goal.loop-p-preserved
loop-p-preserved c =
    let hs = c.loop-p.holders in
    let after = c.if-not-is_zero_at.holders in
    let k = c.loop-p.p in
    let row = mixed_row c.args.row.now in
    let l : k < length hs = omega (arith, c.loop-p-test.true, c.loop-p.auto.holders) in
    let s : k + 1 ≡ suc k = omega arith in
    elim c.if-not-is_zero_at.branch [
      | then-not-is_zero_at w ↦
          let old = w.deref_mut.result.now in
          let new = w.set_bit.new.words in
          let r = w.index-holders-p.result in
          let h : IsWritten hs after k old new = is_written hs after k r old new l w.deref_mut.ensures.value w.set_bit.auto.words w.holders-is in
          record {
            words = words_wide c.args.words hs after k r old new l w.deref_mut.ensures.value w.set_bit.auto.words w.holders-is c.loop-p.invariant.words;
            before = λ p q b. c.loop-p.invariant.before p q (written_before hs after k old new h w.set_bit.ensures.more p q b);
            own = λ p m b.
                ⊎_elim
                (λ e. absurd (w.set_bit.ensures.own (ap (λ (us : List ℕ). bit us c.args.k) (sym h.own ∙ ap (λ z. words_at after z) (sym e)) ∙ b)))
                (λ d. c.loop-p.invariant.own p (before_last k p m d) (written_before hs after k old new h w.set_bit.ensures.more p c.args.k b))
                (cases_eq p k);
          }
      | else-not-is_zero_at w ↦ record {
        words = subst (λ (us : List (Vec ℕ)). All (λ (v : Vec ℕ). length v.items ≡ c.args.words) us) (sym w.holders-is) c.loop-p.invariant.words;
        before = λ p q b. c.loop-p.invariant.before p q (subst (λ (us : List (Vec ℕ)). bit (words_at us p) q ≡ 0) w.holders-is b);
        own = λ p m b.
            ⊎_elim
            (λ e. ap (λ z. get_or row z zero_ℚ) (ap suc e ∙ sym s) ∙ c.is_zero_at.ensures.0 w.if-not-is_zero_at.false)
            (λ d. c.loop-p.invariant.own p (before_last k p m d) (subst (λ (us : List (Vec ℕ)). bit (words_at us p) c.args.k ≡ 0) w.holders-is b))
            (cases_eq p k);
      }
    ]

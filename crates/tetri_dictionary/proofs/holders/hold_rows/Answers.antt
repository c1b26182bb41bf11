use Rattle.std.proofs.Common.{◌≡◌, List, get_or, ap, subst, ◌∙◌, ⊎_elim}
use Prim.Native.Nat.{suc}
use Rattle.std.proofs.lemmas.Bool.{cases_eq}
use Rattle.tetri_algebra.specs.Rational.{ℚ}
use Rattle.tetri_algebra.specs.RationalRing.{zero_ℚ}
use Rattle.tetri_dictionary.specs.Holders.{bit, words_at, number_in}
use Rattle.tetri_dictionary.specs.Mixed.{mixed_rows}
use Rattle.tetri_dictionary.proofs.HolderBits.{before_last}
use Rattle.tetri_dictionary.proofs.MixedPivots.{mixed_read}
use Rattle.tetri_dictionary.proofs.holders.hold_rows.Goals as goal

pub loop-k-preserved : goal.loop-k-preserved
loop-k-preserved c =
    let rows = c.args.rows.now in
    let k = c.loop-k.k in
    let new = c.hold_row.new.holders in
    record {
      words = c.hold_row.ensures.words;
      before = λ p q b. c.loop-k.invariant.before p q (c.hold_row.ensures.before p q b);
      own = λ p q m f t b.
          ⊎_elim
          (λ e. ap (λ z. number_in (mixed_rows rows) z p) e ∙ ap (λ (us : List ℚ). get_or us (suc p) zero_ℚ) (mixed_read rows k c.index-rows-k.result c.loop-k-test.true c.index-rows-k.is)
          ∙ c.hold_row.ensures.own p m (subst (λ i. bit (words_at new p) i ≡ 0) e b))
          (λ d. c.loop-k.invariant.own p q m f (before_last k q t d) (c.hold_row.ensures.before p q b))
          (cases_eq q k);
    }

use Rattle.std.proofs.Common.{ℕ, ◌+◌, ◌^◌, ◌<◌, sym, ◌∙◌, arith, subst}
use Rattle.std.proofs.Math.Nat.{one-dvd, dvd_trans}
use Rattle.std.proofs.lemmas.Int.{to_z-of_z}
use lib.IntN.{pos}
use Rattle.std.specs.Prelude.{unsigned_abs, ◌<ℤ◌}
use mir.Val.{to_z, of_z}
use mir.Syntax.{w64}
use Prim.Native.Nat.{◌∣◌}
use Rattle.tetri_rows.specs.Rows.{combined_at}
use Rattle.tetri_rows.proofs.Words.{short_word, wide_word, wide_of_word, combined_read, at_word, up_to_next, gcd_step, fits_along, word_along}
use Rattle.tetri_rows.proofs.rows.divisor.Goals as goal

pub returns-then-g-eq1-clause-den : goal.returns-then-g-eq1-clause-den
returns-then-g-eq1-clause-den c = one-dvd _

pub returns-then-g-eq1-clause-numbers : goal.returns-then-g-eq1-clause-numbers
returns-then-g-eq1-clause-numbers c = λ q l. one-dvd _

pub overflow_cast-g-in-loop-k : goal.overflow_cast-g-in-loop-k
overflow_cast-g-in-loop-k c =
    let s = gcd_step c.gcd-g.result c.combined-new.result _ _ _ (wide_of_word _ c.combined-new.ensures.fits) (wide_word _ c.loop-k.invariant.fits) c.gcd-g.ensures.value c.loop-k.invariant.positive c.loop-k.invariant.fits in
    fits_along c.gcd-g.result _ (wide_word _ s.3) s.3

pub loop-k-preserved : goal.loop-k-preserved
loop-k-preserved c =
    let s = gcd_step c.gcd-g.result c.combined-new.result _ _ _ (wide_of_word _ c.combined-new.ensures.fits) (wide_word _ c.loop-k.invariant.fits) c.gcd-g.ensures.value c.loop-k.invariant.positive c.loop-k.invariant.fits in
    let e = word_along c.gcd-g.result _ (wide_word c.gcd-g.result s.3) s.3 in
    record {
      positive = subst (λ z. pos 0 <ℤ z) (sym e) s.0;
      fits = subst (λ z. unsigned_abs z < 2 ^ 63) (sym e) s.3;
      den = subst (λ z. unsigned_abs z ∣ unsigned_abs (to_z w64 (of_z w64 c.args.den))) (sym e) (dvd_trans _ s.1 c.loop-k.invariant.den);
      numbers = subst (λ z. (q : ℕ) → q < c.loop-k.k + 1 → unsigned_abs z ∣ unsigned_abs (combined_at (to_z w64 (of_z w64 c.args.d)) (to_z w64 (of_z w64 c.args.f)) c.args.row.now c.args.pivot.now q)) (sym e)
          (up_to_next (λ z. unsigned_abs c.gcd-g.result ∣ unsigned_abs z) (λ q. combined_at (to_z w64 (of_z w64 c.args.d)) (to_z w64 (of_z w64 c.args.f)) c.args.row.now c.args.pivot.now q) c.loop-k.k c.combined-new.result
          (λ q l. dvd_trans _ s.1 (c.loop-k.invariant.numbers q l))
          (c.combined-new.ensures.value ∙ combined_read _ _ c.args.row.now c.args.pivot.now c.loop-k.k _ _ (short_word _ (c.requires.row c.loop-k.k (pos 0) c.loop-k-test.true)) (short_word _ (c.requires.pivot c.loop-k.k (pos 0) (omega (arith, c.requires.wide, c.loop-k-test.true)))))
          s.2);
    }

pub returns-clause-den : goal.returns-clause-den
returns-clause-den c = subst (λ z. unsigned_abs (to_z w64 c.loop-k.g-bits) ∣ unsigned_abs z) (to_z-of_z _ _ c.ranges.den) c.loop-k.invariant.den

pub returns-clause-numbers : goal.returns-clause-numbers
returns-clause-numbers c =
    λ q l. subst (λ z. unsigned_abs (to_z w64 c.loop-k.g-bits) ∣ unsigned_abs z) (at_word _ _ c.args.row.now c.args.pivot.now q _ _ (to_z-of_z _ _ c.ranges.d) (to_z-of_z _ _ c.ranges.f)) (c.loop-k.invariant.numbers q (omega (arith, l, c.loop-k-test.false)))

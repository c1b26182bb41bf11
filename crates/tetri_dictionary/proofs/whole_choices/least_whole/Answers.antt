use Rattle.std.proofs.Common.{◌+◌, ◌<◌, ℕ, Option, length, get_or, refl, sym, ap, subst, ◌∙◌, arith, IfSome}
use lib.IntN.{pos}
use lib.Signed.{lt_z}
use Rattle.tetri_algebra.specs.Rational.{ℚ}
use Rattle.tetri_rows.specs.Rows.{meaning}
use Rattle.tetri_rows.proofs.RowLaws.{test_above}
use Rattle.tetri_dictionary.specs.SignedNumbers.{signed_numbers}
use Rattle.tetri_dictionary.specs.WholeRatios.{ratio_candidate, IsAbove}
use Rattle.tetri_dictionary.proofs.MixedChoices.{rest_of}
use Rattle.tetri_dictionary.proofs.SignedNumbers.{signed_length, signed_short, signed_word}
use Rattle.tetri_dictionary.proofs.WholeEntering.{whole_taken, whole_skipped, whole_done}
use Rattle.tetri_dictionary.proofs.whole_choices.least_whole.Goals as goal
use Rattle.tetri_dictionary.proofs.whole_choices.least_whole.Goals.{then-signed_at-gt0, else-signed_at-gt0}

pub lesser_whole-best-requires-clause-place : goal.lesser_whole-best-requires-clause-place
lesser_whole-best-requires-clause-place c =
    let ns = signed_numbers c.args.other c.args.numbers.now in
    let hs = signed_short c.args.other c.args.numbers.now c.requires.numbers in
    let wide = signed_length c.args.other c.args.numbers.now ∙ c.requires.wide in
    let l : c.loop-j.j + 1 < length ns = omega (arith, wide, c.loop-j-test.true) in
    record { within = l; positive = test_above (get_or ns (c.loop-j.j + 1) (pos 0)) _ (signed_word ns (c.loop-j.j + 1) c.signed_at.result hs l c.signed_at.ensures) c.if-signed_at-gt0.true }

pub loop-j-init : goal.loop-j-init
loop-j-init c = record { formed = λ d e i hd he. refl; above = tt }

pub loop-j-preserved : goal.loop-j-preserved
loop-j-preserved c =
    let vs = c.args.nonbasic.now in
    let ns = signed_numbers c.args.other c.args.numbers.now in
    let hs = signed_short c.args.other c.args.numbers.now c.requires.numbers in
    let wide = signed_length c.args.other c.args.numbers.now ∙ c.requires.wide in
    let os = c.args.objective.now in
    let j = c.loop-j.j in
    let l : j + 1 < length ns = omega (arith, wide, c.loop-j-test.true) in
    let s = signed_word ns (j + 1) c.signed_at.result hs l c.signed_at.ensures in
    elim c.if-signed_at-gt0.branch [
      | then-signed_at-gt0 w ↦ record {
        formed =
            λ d e i hd he. ap (λ (b : Option ℕ). rest_of vs i (meaning d ns) (meaning e os) (j + 1) (ratio_candidate d e ns os b)) w.best-is
            ∙ ap (λ (b : Option (ℕ × ℚ)). rest_of vs i (meaning d ns) (meaning e os) (j + 1) b) (w.lesser_whole-best.ensures.value d e hd he)
            ∙ whole_taken vs i (length vs) j d e ns os (ratio_candidate d e ns os c.loop-j.best) hd he hs c.requires.objective wide c.requires.wide_too c.loop-j-test.true
            (test_above (get_or ns (j + 1) (pos 0)) _ s w.if-signed_at-gt0.true)
            ∙ c.loop-j.invariant.formed d e i hd he;
        above = subst (λ (b : Option ℕ). IfSome b (IsAbove ns)) (sym w.best-is) w.lesser_whole-best.ensures.above;
      }
      | else-signed_at-gt0 w ↦ record {
        formed =
            λ d e i hd he. ap (λ (b : Option ℕ). rest_of vs i (meaning d ns) (meaning e os) (j + 1) (ratio_candidate d e ns os b)) w.best-is
            ∙ whole_skipped vs i (length vs) j d e ns os (ratio_candidate d e ns os c.loop-j.best) hd wide c.requires.wide_too c.loop-j-test.true (ap (λ z. lt_z (pos 0) z) (sym s) ∙ w.if-signed_at-gt0.false)
            ∙ c.loop-j.invariant.formed d e i hd he;
        above = subst (λ (b : Option ℕ). IfSome b (IsAbove ns)) (sym w.best-is) c.loop-j.invariant.above;
      }
    ]

pub returns-clause-formed : goal.returns-clause-formed
returns-clause-formed c =
    let ns = signed_numbers c.args.other c.args.numbers.now in
    λ d e i hd he. sym (c.loop-j.invariant.formed d e i hd he)
    ∙ whole_done c.args.nonbasic.now i (length c.args.nonbasic.now) c.loop-j.j d e ns c.args.objective.now (ratio_candidate d e ns c.args.objective.now c.loop-j.best) (signed_length c.args.other c.args.numbers.now ∙ c.requires.wide) c.loop-j-test.false

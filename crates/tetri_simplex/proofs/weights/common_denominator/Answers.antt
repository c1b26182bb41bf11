use Rattle.std.proofs.Common.{sym, refl, ◌∙◌}
use Rattle.std.proofs.lemmas.Bool.{false≢true}
use mir.Val.{to_z}
use mir.Syntax.{w128}
use Rattle.tetri_dictionary.proofs.DictionaryLaws.{number_read}
use Rattle.tetri_simplex.proofs.Weighting.{lcm_step, lcm_stop}
use Rattle.tetri_simplex.proofs.weights.common_denominator.Goals as goal

pub returns-in-None-clause-formed : goal.returns-in-None-clause-formed
returns-in-None-clause-formed c =
    sym c.loop-i.invariant.formed
    ∙ lcm_stop c.args.weights.now c.loop-i.i (to_z w128 c.loop-i.q-bits) _ _ c.index-weights-i.result c.loop-i-test.true c.index-weights-i.is refl (number_read c.index-weights-i.result.den c.index-weights-i.result.lowest.den_within) (λ l. false≢true (c.in-None.ensures.fits.1 l))

pub loop-i-preserved : goal.loop-i-preserved
loop-i-preserved c =
    let s = lcm_step c.args.weights.now c.loop-i.i (to_z w128 c.loop-i.q-bits) _ _ c.in-Some.next _ c.index-weights-i.result c.loop-i-test.true c.index-weights-i.is c.loop-i.invariant.positive refl (number_read c.index-weights-i.result.den c.index-weights-i.result.lowest.den_within) c.in-Some.ensures.value (c.in-Some.ensures.fits.0 refl) (λ w. number_read _ w) in
    record { formed = s.formed ∙ c.loop-i.invariant.formed; positive = s.positive; within = s.within }

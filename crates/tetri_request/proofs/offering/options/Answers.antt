use Rattle.std.proofs.Common.{◌+◌, ◌∙◌, ap}
use Rattle.std.specs.List.Sorted.{IsStrictlyIncreasing}
use Rattle.tetri_strl.specs.Aligned.{EachLeaf}
use Rattle.tetri_strl.specs.Tree.{numbers, tree}
use Rattle.tetri_strl.specs.WellMade.{IsWellMade}
use Rattle.tetri_request.specs.Options.{IsSetOf, one_of}
use Rattle.tetri_request.proofs.OfferLemmas.{IsOffer, loop_end, loop_step, offered, some_weaker}
use Rattle.tetri_request.proofs.offering.options.Goals as goal

pub loop-start-preserved : goal.loop-start-preserved
loop-start-preserved c =
    loop_step c.args.ask.now c.args.arrival c.loop-start.start (c.args.now + c.args.window) _ _ _ _ _ _ c.loop-start-test.true
    c.in_ok-add.ensures c.in_ok-add-2.ensures c.preferred_option.ensures c.general_option.ensures c.loop-start.invariant

pub returns-clause-offer : goal.returns-clause-offer
returns-clause-offer c =
    c.one_or_max.ensures
    ∙ ap one_of (loop_end c.args.ask.now c.args.arrival c.loop-start.start (c.args.now + c.args.window) _ _ c.loop-start-test.false c.loop-start.invariant)

pub returns-clause-well_made : goal.returns-clause-well_made
returns-clause-well_made c =
    some_weaker (λ e. IsOffer c.args.ask.now c.args.arrival (tree e)) (λ e. IsWellMade (tree e)) c.one_or_max.result (λ e h. h.well_made)
    (offered c.args.ask.now c.args.arrival c.one_or_max.result c.args.now c.args.window c.requires.sound c.requires.arrived c.requires.early c.requires.window (returns-clause-offer c))

pub returns-clause-sets : goal.returns-clause-sets
returns-clause-sets c =
    some_weaker (λ e. IsOffer c.args.ask.now c.args.arrival (tree e)) (λ e. EachLeaf (λ l. IsSetOf c.args.ask.now l.set) (tree e)) c.one_or_max.result (λ e h. h.sets)
    (offered c.args.ask.now c.args.arrival c.one_or_max.result c.args.now c.args.window c.requires.sound c.requires.arrived c.requires.early c.requires.window (returns-clause-offer c))

pub returns-clause-ascending : goal.returns-clause-ascending
returns-clause-ascending c =
    some_weaker (λ e. IsOffer c.args.ask.now c.args.arrival (tree e)) (λ e. IsStrictlyIncreasing (numbers (tree e))) c.one_or_max.result (λ e h. h.ascending)
    (offered c.args.ask.now c.args.arrival c.one_or_max.result c.args.now c.args.window c.requires.sound c.requires.arrived c.requires.early c.requires.window (returns-clause-offer c))

use Rattle.std.proofs.Common.{sym, ap, ◌∙◌}
use Rattle.tetri_dictionary.specs.Choices.{lesser_ratio}
use Rattle.tetri_dictionary.specs.SignedNumbers.{signed_numbers}
use Rattle.tetri_dictionary.specs.WholeRatios.{ratio_at, ratio_candidate}
use Rattle.tetri_dictionary.proofs.WholeEntering.{lesser_alone, lesser_new, lesser_old, lesser_tie}
use Rattle.tetri_dictionary.proofs.whole_choices.lesser_whole.Goals as goal

pub returns-in_default-clause-value : goal.returns-in_default-clause-value
returns-in_default-clause-value c =
    let vs = c.args.nonbasic.now in
    let ns = signed_numbers c.args.other c.args.numbers.now in
    let os = c.args.objective.now in
    λ d e hd he. lesser_alone vs d e ns os c.args.k ∙ ap (λ o. lesser_ratio vs (ratio_candidate d e ns os o) c.args.k (ratio_at d e ns os c.args.k)) (sym c.in_default.is)

pub returns-then-is_lesser_at-clause-value : goal.returns-then-is_lesser_at-clause-value
returns-then-is_lesser_at-clause-value c =
    let vs = c.args.nonbasic.now in
    let ns = signed_numbers c.args.other c.args.numbers.now in
    let os = c.args.objective.now in
    λ d e hd he. lesser_new vs d e ns os c.args.k c.in-Some.b (sym (c.is_lesser_at.ensures d e hd he) ∙ c.if-is_lesser_at.true)
    ∙ ap (λ o. lesser_ratio vs (ratio_candidate d e ns os o) c.args.k (ratio_at d e ns os c.args.k)) (sym c.in-Some.is)

pub returns-then-is_lesser_at-2-clause-value : goal.returns-then-is_lesser_at-2-clause-value
returns-then-is_lesser_at-2-clause-value c =
    let vs = c.args.nonbasic.now in
    let ns = signed_numbers c.args.other c.args.numbers.now in
    let os = c.args.objective.now in
    λ d e hd he. lesser_old vs d e ns os c.args.k c.in-Some.b (sym (c.is_lesser_at.ensures d e hd he) ∙ c.if-is_lesser_at.false) (sym (c.is_lesser_at-2.ensures d e hd he) ∙ c.if-is_lesser_at-2.true)
    ∙ ap (λ o. lesser_ratio vs (ratio_candidate d e ns os o) c.args.k (ratio_at d e ns os c.args.k)) (sym c.in-Some.is)

pub returns-clause-value : goal.returns-clause-value
returns-clause-value c =
    let vs = c.args.nonbasic.now in
    let ns = signed_numbers c.args.other c.args.numbers.now in
    let os = c.args.objective.now in
    λ d e hd he. lesser_tie vs d e ns os c.args.k c.in-Some.b c.lesser_place.result (sym (c.is_lesser_at.ensures d e hd he) ∙ c.if-is_lesser_at.false) (sym (c.is_lesser_at-2.ensures d e hd he) ∙ c.if-is_lesser_at-2.false)
    c.lesser_place.ensures.value
    ∙ ap (λ o. lesser_ratio vs (ratio_candidate d e ns os o) c.args.k (ratio_at d e ns os c.args.k)) (sym c.in-Some.is)

use Rattle.std.proofs.Common.{◌<◌, ◌≤◌, ◌∷◌, length, map, sym, ap, ◌∙◌, arith}
use Rattle.std.proofs.lemmas.List.{at_drop_all, at_drop_more}
use lib.IntN.{pos}
use Rattle.tetri_algebra.specs.Rational.{whole_ℚ}
use Rattle.tetri_dictionary.specs.Start.{minus_one_at}
use Rattle.tetri_dictionary.proofs.Numbers.{number_read}
use Rattle.tetri_dictionary.proofs.Starting.{number_pushed, whole_read, nothing_left}
use Rattle.tetri_dictionary.proofs.start.bound_row.Goals as goal

pub loop-k-preserved : goal.loop-k-preserved
loop-k-preserved c =
    let h : c.loop-k.k < length c.args.p.now.costs.items = omega (arith, c.len-k-end.ensures, c.args.p.now.costs.ok.0) in
    number_pushed c.loop-k.slack.items c.push-in-loop-k.new.self.items c.whole-in-loop-k.result _ _ _ c.in_ok-push-2.ensures.items
    (whole_read c.whole-in-loop-k.result c.bound_coefficient.result _ c.whole-in-loop-k.ensures.rational c.bound_coefficient.ensures.within c.bound_coefficient.ensures.value)
    (at_drop_more (minus_one_at c.args.j c.loop-k.k) c.args.p.now.costs.items c.loop-k.k (pos 0) h)
    ∙ c.loop-k.invariant

pub returns : goal.returns
returns c =
    let h : length c.args.p.now.costs.items ≤ c.loop-k.k = omega (arith, c.len-k-end.ensures, c.args.p.now.costs.ok.0) in
    sym (nothing_left c.loop-k.slack.items _ (at_drop_all (minus_one_at c.args.j c.loop-k.k) c.args.p.now.costs.items c.loop-k.k h)) ∙ c.loop-k.invariant
    ∙ ap (λ z. whole_ℚ z ∷ map whole_ℚ (minus_one_at c.args.j 0 c.args.p.now.costs.items)) (number_read c.args.width c.requires)

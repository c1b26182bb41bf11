use Rattle.std.proofs.Common.{◌<◌, length, ap, ◌∙◌, arith, rules, sym, subst}
use Rattle.std.proofs.lemmas.Int.{fits_signed_from_abs, to_z-of_z}
use Rattle.std.proofs.lemmas.List.{length-set}
use mir.Val.{SFits, of_z, to_z}
use mir.Syntax.{w128}
use Rattle.tetri_ip.specs.Points.{number_at, term_at}
use Rattle.tetri_algebra.specs.Range.{IsWithin}
use Rattle.tetri_ip.proofs.FactorLemmas.{row_step, set_within}
use Rattle.tetri_ip.proofs.Steps.{subtract_is}
use Rattle.tetri_ip.proofs.by_row.subtract_row.Goals as goal

pub loop-term-preserved : goal.loop-term-preserved
loop-term-preserved c =
    let ts = c.args.row.now.terms.items in
    let us = c.deref-term-items.result.now in
    let i = c.loop-term.term-index in
    let t = term_at us i in
    let same = c.deref-term-items.ensures.value in
    let lt : i < length ts = omega (arith, c.loop-term-test.true, ap length same) in
    let within : t.column < length c.loop-term.factors = omega (arith, c.requires.columns i lt, ap (λ vs. (term_at vs i).column) same, c.loop-term.invariant.count) in
    let rest : SFits w128 (number_at c.loop-term.factors t.column) = fits_signed_from_abs w128 _ (c.loop-term.invariant.in_range t.column within) in
    let by : SFits w128 t.by = search rules in
    let left = to_z w128 (of_z w128 (number_at c.loop-term.factors t.column)) in
    let weight = to_z w128 (of_z w128 c.args.by) in
    let part = to_z w128 (of_z w128 t.by) in
    let formed = sym c.subtract_product.ensures ∙ c.in-Some.is in
    let fits = (subtract_is left weight part c.in-Some.next formed).1 in
    let next = to_z-of_z w128 c.in-Some.next (fits_signed_from_abs w128 _ fits) in
    record {
      count = length-set _ _ _ ∙ c.loop-term.invariant.count;
      in_range = set_within c.loop-term.factors t.column _ (subst IsWithin (sym next) fits) c.loop-term.invariant.in_range;
      taken = λ j.
          row_step ts us i c.loop-term.factors weight left part c.in-Some.next _ c.subtract_product.result same c.requires.ascending c.loop-term-test.true within (to_z-of_z _ _ rest) (to_z-of_z _ _ by) c.subtract_product.ensures c.in-Some.is next j
          ∙ c.loop-term.invariant.taken j;
    }

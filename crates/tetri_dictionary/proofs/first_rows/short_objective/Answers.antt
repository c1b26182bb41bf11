use Rattle.std.proofs.Common.{◌≡◌, ◌<◌, ◌≤◌, ◌++◌, [], ◌∷◌, List, append_assoc, drop, length, map, sym, ap, subst, ◌∙◌, arith, rules}
use Rattle.std.specs.Prelude.{All}
use Rattle.std.proofs.lemmas.Int.{to_z-of_z}
use Rattle.std.proofs.lemmas.List.{append-nil, at_drop_all, at_drop_more}
use Rattle.std.proofs.lemmas.List.Elements.{All-push}
use lib.IntN.{ℤ, pos, ◌*ℤ◌}
use mir.Val.{SFits, to_z, of_z}
use mir.Syntax.{w64, w128}
use Rattle.tetri_ip.proofs.IntegerProgramLaws.{item_is}
use Rattle.tetri_rows.proofs.RowLaws.{short_word}
use Rattle.tetri_rows.specs.Small.{IsShort}
use Rattle.tetri_dictionary.specs.Start.{direction, objective_row}
use Rattle.tetri_dictionary.proofs.FirstRows.{number_pushed, objective_wide, one_is_denominator, one_short}
use Rattle.tetri_dictionary.proofs.Numbers.{number_read}
use Rattle.tetri_dictionary.proofs.first_rows.short_objective.Goals as goal

pub loop-j-init : goal.loop-j-init
loop-j-init c =
    let n = c.in-Some.constant in
    let w = short_word n c.in-Some.ensures.short in
    let value = w ∙ c.in-Some.ensures.value ∙ number_read c.objective_at.result c.objective_at.ensures.within ∙ c.objective_at.ensures.value in
    let z = to_z w64 (of_z w64 n) in
    let e = c.in_ok-push.ensures.items ∙ ap (λ (xs : List ℤ). xs ++ (z ∷ [])) c.in_ok-numbers.ensures.items in
    record {
      formed = ap (λ (xs : List ℤ). xs ++ map (λ c. c *ℤ direction c) c.args.p.now.costs.items) e ∙ ap (λ (z : ℤ). z ∷ map (λ c. c *ℤ direction c) c.args.p.now.costs.items) value;
      short = one_short c.push.new.self.items z e (subst IsShort (sym w) c.in-Some.ensures.short);
    }

pub loop-j-preserved : goal.loop-j-preserved
loop-j-preserved c =
    let cs = c.args.p.now.costs.items in
    let h : c.loop-j.j < length cs = omega (arith, c.len-j-end.ensures, c.args.p.now.costs.ok.0) in
    let a : SFits w128 c.index-cost.result.now = search rules in
    let e = to_z-of_z _ _ a ∙ item_is cs c.loop-j.j c.index-cost.result.now (pos 0) h c.index-cost.ensures in
    let n = c.in-Some-short.number in
    let w = short_word n c.in-Some-short.ensures.short in
    let value = w ∙ c.in-Some-short.ensures.value ∙ number_read c.directed.result c.directed.ensures.within ∙ c.directed.ensures.value ∙ ap (λ z. z *ℤ direction z) e in
    record {
      formed =
          number_pushed c.loop-j.numbers.items c.push-in-loop-j.new.self.items _ _ _ _ c.in_ok-push-2.ensures.items value
          (at_drop_more (map (λ z. z *ℤ direction z)) cs c.loop-j.j (pos 0) h)
          ∙ c.loop-j.invariant.formed;
      short = subst (λ (xs : List ℤ). All IsShort xs) (sym c.in_ok-push-2.ensures.items) (All-push IsShort c.loop-j.numbers.items _ c.loop-j.invariant.short (subst IsShort (sym w) c.in-Some-short.ensures.short));
    }

pub returns-clause-numbers : goal.returns-clause-numbers
returns-clause-numbers c =
    let h : length c.args.p.now.costs.items ≤ c.loop-j.j = omega (arith, c.len-j-end.ensures, c.args.p.now.costs.ok.0) in
    sym (append-nil c.loop-j.numbers.items) ∙ sym (at_drop_all (λ (xs : List ℤ). c.loop-j.numbers.items ++ map (λ z. z *ℤ direction z) xs) c.args.p.now.costs.items c.loop-j.j h) ∙ c.loop-j.invariant.formed

pub returns-clause-sound : goal.returns-clause-sound
returns-clause-sound c = record {
  over = one_is_denominator;
  short = c.loop-j.invariant.short;
  wide = ap length (returns-clause-numbers c) ∙ objective_wide c.args.p.now.costs.items c.args.start.now;
}

use Rattle.std.proofs.Common.{◌<◌, ◌∷◌, List, length, map, sym, ap, subst, ◌∙◌, arith}
use Rattle.std.proofs.lemmas.List.Elements.{All-push}
use Rattle.tetri_algebra.specs.Rational.{whole_ℚ}
use Rattle.tetri_dictionary.specs.declared.lines.Line.{Line}
use Rattle.tetri_dictionary.specs.Sparse.{AreEntries, AreLines}
use Rattle.tetri_dictionary.specs.Start.{minus_one_at}
use Rattle.tetri_dictionary.proofs.FirstTable.{bounds_more}
use Rattle.tetri_dictionary.proofs.Numbers.{number_read}
use Rattle.tetri_dictionary.proofs.SparseStart.{line_pushed}
use Rattle.tetri_dictionary.proofs.start_lines.with_bound_lines.Goals as goal

pub loop-j-preserved : goal.loop-j-preserved
loop-j-preserved c =
    let cs = c.args.p.now.costs.items in
    let n = length cs in
    let ls = c.args.r.now.lower.items in
    let us = c.args.r.now.upper.items in
    let j = c.loop-j.j in
    let h : j < length ls = omega (arith, c.len-j-end.ensures, c.args.p.now.costs.ok.0, c.requires.in_box.lower_count) in
    let g : j < length us = omega (arith, c.len-j-end.ensures, c.args.p.now.costs.ok.0, c.requires.in_box.upper_count) in
    record {
      formed =
          line_pushed n c.loop-j.lines.items c.push.new.self.items _ _ _ _ c.in_ok-push.ensures.items
          (c.in_ok-bound_line.ensures.numbers ∙ ap (λ z. whole_ℚ z ∷ map whole_ℚ (minus_one_at j 0 cs)) (number_read c.width_at.result c.width_at.ensures.within ∙ c.width_at.ensures.value))
          (bounds_more cs ls us j h g)
          ∙ c.loop-j.invariant.formed;
      sound = subst (λ (zs : List Line). AreLines n zs) (sym c.in_ok-push.ensures.items) (All-push (λ (l : Line). AreEntries n l.entries.items) c.loop-j.lines.items _ c.loop-j.invariant.sound c.in_ok-bound_line.ensures.sound);
    }

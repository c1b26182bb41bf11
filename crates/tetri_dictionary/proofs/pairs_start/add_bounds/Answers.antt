use Rattle.std.proofs.Common.{◌≡◌, ◌+◌, ◌<◌, ◌≤◌, ◌∷◌, ℕ, length, map, ap, ◌∙◌, arith}
use Rattle.tetri_algebra.specs.Rational.{whole_ℚ}
use Rattle.tetri_dictionary.specs.Drafts.{draft_rows}
use Rattle.tetri_dictionary.specs.Start.{minus_one_at}
use Rattle.tetri_dictionary.proofs.FirstHolders.{front_of_front}
use Rattle.tetri_dictionary.proofs.FirstTable.{bounds_more}
use Rattle.tetri_dictionary.proofs.Numbers.{number_read}
use Rattle.tetri_dictionary.proofs.WholeStart.{rows_step}
use Rattle.tetri_dictionary.proofs.pairs_start.add_bounds.Goals as goal

above : (j q : ℕ) → j + 1 ≤ q → q ≡ j → ⊥
above j q l e = omega arith

pub loop-j-preserved : goal.loop-j-preserved
loop-j-preserved c =
    let cs = c.args.p.now.costs.items in
    let n = length cs in
    let ls = c.args.r.now.lower.items in
    let us = c.args.r.now.upper.items in
    let j = c.loop-j.j in
    let h : j < length ls = omega (arith, c.len-j-end.ensures, c.args.p.now.costs.ok.0, c.requires.in_box.lower_count) in
    let g : j < length us = omega (arith, c.len-j-end.ensures, c.args.p.now.costs.ok.0, c.requires.in_box.upper_count) in
    record {
      draft = c.in_ok-add_bound.ensures.draft;
      rows =
          rows_step (draft_rows n c.loop-j.draft) (draft_rows n c.add_bound.new.draft) _ _ _ _ c.in_ok-add_bound.ensures.rows
          (ap (λ z. map whole_ℚ (z ∷ minus_one_at j 0 cs)) (number_read c.width_at.result c.width_at.ensures.within ∙ c.width_at.ensures.value)) (bounds_more cs ls us j h g)
          ∙ c.loop-j.invariant.rows;
      kept = front_of_front c.args.draft.now.rows.items c.loop-j.draft.rows.items c.add_bound.new.draft.rows.items c.loop-j.invariant.kept c.in_ok-add_bound.ensures.kept;
      free = λ q l. c.in_ok-add_bound.ensures.others q (above j q l) ∙ c.loop-j.invariant.free q (omega (arith, l));
    }

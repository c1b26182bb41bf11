use Rattle.std.proofs.Common.{◌+◌, ◌∙◌, ℕ, List, ap, drop}
use Rattle.std.specs.Prelude.{min, option_map, unwrap_or}
use Rattle.tetri_base.specs.Lists.{sum_of}
use Rattle.tetri_state.specs.declared.pieces.Piece.{Piece}
use Rattle.tetri_figures.specs.Figures.{most, piece_slots}
use Rattle.tetri_figures.proofs.SumLemmas.{capped_sum_all, capped_sum_next}
use Rattle.tetri_figures.proofs.sums.row_slots.Goals as goal

pub loop-piece-preserved : goal.loop-piece-preserved
loop-piece-preserved c =
    let l = c.loop-piece in
    let f : Piece → ℕ = piece_slots (option_map (λ m. m.now) c.args.counted) c.unwrap_or-end.result in
    let pieces : List Piece = c.as_slice-piece-items.result.now in
    record {
      told =
          ap (λ n. min (n + sum_of f (drop (l.piece-index + 1) pieces)) most) (c.plus_capped-sum.ensures.value ∙ ap (λ n. min (l.sum + n) most) c.piece_slots.ensures)
          ∙ capped_sum_next f pieces l.piece-index l.sum _ most l.invariant.told c.piece-item.result c.loop-piece-test.true c.piece-item.is;
      few = c.plus_capped-sum.ensures.few;
    }

pub returns : goal.returns
returns c =
    let l = c.loop-piece in
    let counted = option_map (λ m. m.now) c.args.counted in
    let pieces : List Piece = c.as_slice-piece-items.result.now in
    capped_sum_all (piece_slots counted c.unwrap_or-end.result) pieces l.piece-index l.sum _ most l.invariant.told c.loop-piece-test.false l.invariant.few
    ∙ ap (λ (end : ℕ). min (sum_of (piece_slots counted end) pieces) most) c.unwrap_or-end.ensures
    ∙ ap (λ (ps : List Piece). min (sum_of (piece_slots counted (unwrap_or c.args.row.now.end c.args.trace.now.header.until)) ps) most) c.as_slice-piece-items.ensures

use Rattle.std.proofs.Common.{◌≡◌, ◌<◌, ◌-◌, ◌∙◌, ◌∷◌, [], All, None, Some, List, refl, sym, ap, subst, arith, rules, drop, filter, length, map, not, replicate}
use Rattle.std.specs.List.{range_with_len}
use Rattle.std.proofs.lemmas.List.{drop_all}
use Rattle.std.proofs.lemmas.List.FromFn.{length-map-range_with_len}
use Rattle.tetri_state.specs.declared.pieces.Piece.{Piece}
use Rattle.tetri_state.specs.Begin.{has_ended, holder_in}
use Rattle.tetri_state.specs.Planning.{marked}
use Rattle.tetri_state.proofs.BusyLemmas.{first_holder, known_nodes, piece_before, row_marked, row_of_same, still_running}
use Rattle.tetri_state.proofs.busy.holder_row.Goals as goal

pub loop-left-init : goal.loop-left-init
loop-left-init c =
    let fresh : c.in_ok-row.row.items ≡ replicate c.args.nodes None = search rules in
    record {
      within = omega arith;
      row =
          row_of_same c.args.nodes None (holder_in []) c.in_ok-row.row.items fresh (λ n. refl)
          ∙ ap (λ ps. map (holder_in (filter (λ p. not (has_ended c.args.now p)) ps)) (range_with_len 0 c.args.nodes))
          (sym (drop_all (length c.args.pieces.now) c.args.pieces.now (omega arith)));
    }

pub mark-requires : goal.mark-requires
mark-requires c =
    let p = c.index-pieces-left.result in
    let nodes = c.args.nodes in
    let known = known_nodes nodes c.args.pieces.now (c.loop-left.left - 1) p c.requires (omega (arith, c.loop-left.invariant.within)) c.index-pieces-left.is in
    let len : length c.loop-left.row.items ≡ nodes = ap length c.loop-left.invariant.row ∙ length-map-range_with_len _ 0 nodes in
    subst (λ ns. All (λ n. n < length c.loop-left.row.items) ns) (sym c.as_slice.ensures) (λ k d lt. omega (arith, known k d lt, len))

pub loop-left-preserved-then-now-piece : goal.loop-left-preserved-then-now-piece
loop-left-preserved-then-now-piece c =
    let p = c.index-pieces-left.result in
    let nodes = c.args.nodes in
    let now = c.args.now in
    let runs : List Piece → List Piece = filter (λ p. not (has_ended now p)) in
    let rest = runs (drop c.loop-left.left c.args.pieces.now) in
    let known = known_nodes nodes c.args.pieces.now (c.loop-left.left - 1) p c.requires (omega (arith, c.loop-left.invariant.within)) c.index-pieces-left.is in
    record {
      within = omega arith;
      row =
          c.mark.ensures
          ∙ ap (marked (Some p.job) c.loop-left.row.items) c.as_slice.ensures
          ∙ row_marked nodes (Some p.job) (holder_in rest) (holder_in (p ∷ rest)) c.loop-left.row.items p.nodes c.loop-left.invariant.row known (first_holder p rest)
          ∙ ap (λ ps. map (holder_in ps) (range_with_len 0 nodes)) (sym (still_running now p (drop c.loop-left.left c.args.pieces.now) c.if-now-piece.true))
          ∙ ap (λ ps. map (holder_in (runs ps)) (range_with_len 0 nodes))
          (sym (piece_before c.args.pieces.now c.loop-left.left p c.loop-left-test.true c.loop-left.invariant.within c.index-pieces-left.is));
    }

use Rattle.std.proofs.Common.{◌≡◌, ◌<◌, ◌-◌, ◌∙◌, ◌∷◌, [], All, refl, sym, ap, subst, arith, rules, drop, length, map, replicate}
use Rattle.std.specs.List.{range_with_len}
use Rattle.std.proofs.lemmas.List.{drop_all}
use Rattle.std.proofs.lemmas.List.FromFn.{length-map-range_with_len}
use Rattle.tetri_state.specs.Planning.{busy_until, marked}
use Rattle.tetri_state.proofs.BusyLemmas.{first_busy, known_nodes, piece_before, row_marked, row_of_same}
use Rattle.tetri_state.proofs.busy.busy_row.Goals as goal

pub loop-left-init : goal.loop-left-init
loop-left-init c =
    let fresh : c.in_ok-row.row.items ≡ replicate c.args.nodes c.args.now = search rules in
    record {
      within = omega arith;
      row =
          row_of_same c.args.nodes c.args.now (busy_until c.args.now []) c.in_ok-row.row.items fresh (λ n. refl)
          ∙ ap (λ ps. map (busy_until c.args.now ps) (range_with_len 0 c.args.nodes)) (sym (drop_all (length c.args.pieces.now) c.args.pieces.now (omega arith)));
    }

pub mark-requires : goal.mark-requires
mark-requires c =
    let p = c.index-pieces-left.result in
    let nodes = c.args.nodes in
    let known = known_nodes nodes c.args.pieces.now (c.loop-left.left - 1) p c.requires (omega (arith, c.loop-left.invariant.within)) c.index-pieces-left.is in
    let len : length c.loop-left.row.items ≡ nodes = ap length c.loop-left.invariant.row ∙ length-map-range_with_len _ 0 nodes in
    subst (λ ns. All (λ n. n < length c.loop-left.row.items) ns) (sym c.as_slice.ensures) (λ k d lt. omega (arith, known k d lt, len))

pub loop-left-preserved : goal.loop-left-preserved
loop-left-preserved c =
    let p = c.index-pieces-left.result in
    let nodes = c.args.nodes in
    let rest = drop c.loop-left.left c.args.pieces.now in
    let known = known_nodes nodes c.args.pieces.now (c.loop-left.left - 1) p c.requires (omega (arith, c.loop-left.invariant.within)) c.index-pieces-left.is in
    record {
      within = omega arith;
      row =
          c.mark.ensures
          ∙ ap (marked p.expected c.loop-left.row.items) c.as_slice.ensures
          ∙ row_marked nodes p.expected (busy_until c.args.now rest) (busy_until c.args.now (p ∷ rest)) c.loop-left.row.items p.nodes c.loop-left.invariant.row known
          (first_busy c.args.now p rest)
          ∙ ap (λ ps. map (busy_until c.args.now ps) (range_with_len 0 nodes))
          (sym (piece_before c.args.pieces.now c.loop-left.left p c.loop-left-test.true c.loop-left.invariant.within c.index-pieces-left.is));
    }

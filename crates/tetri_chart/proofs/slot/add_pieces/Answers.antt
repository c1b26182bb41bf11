use Rattle.std.proofs.Common.{◌+◌, ◌++◌, ◌∷◌, [], ◌∙◌, drop, sym, ap, append_assoc}
use Rattle.std.proofs.lemmas.List.{append-nil}
use Rattle.tetri_chart.proofs.FromLemmas.{none_from, some_from}
use Rattle.tetri_chart.proofs.slot.add_pieces.Goals as goal

pub returns-in-None : goal.returns-in-None
returns-in-None c =
    let l = c.loop-place in
    sym (append-nil l.active.items) ∙ ap (λ ps. l.active.items ++ ps) (sym (none_from c.args.state.now.pieces l.place (sym c.in-None.ensures))) ∙ l.invariant

pub loop-place-preserved : goal.loop-place-preserved
loop-place-preserved c =
    let l = c.loop-place in
    let pieces = c.args.state.now.pieces in
    let piece = c.in_ok-copy_piece-in-Some.field-0 in
    let rest = drop (l.place + 1) pieces in
    ap (λ ps. ps ++ rest) c.in_ok-push-in-Some.ensures.items ∙ append_assoc l.active.items (piece ∷ []) rest
    ∙ ap (λ ps. l.active.items ++ ps) (ap (λ p. p ∷ rest) c.in_ok-copy_piece-in-Some.ensures ∙ sym (some_from pieces l.place c.in-Some.piece.now (sym c.in-Some.ensures)))
    ∙ l.invariant

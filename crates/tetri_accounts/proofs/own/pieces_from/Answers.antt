use Rattle.std.proofs.Common.{◌+◌, ◌++◌, ◌∷◌, [], ◌∙◌, drop, sym, ap, append_assoc}
use Rattle.std.proofs.lemmas.List.{append-nil}
use Rattle.tetri_accounts.proofs.FromLemmas.{none_from, some_from}
use Rattle.tetri_accounts.proofs.own.pieces_from.Goals as goal

pub returns-in-None : goal.returns-in-None
returns-in-None c =
    let l = c.loop-place in
    sym (append-nil l.pieces.items) ∙ ap (λ ps. l.pieces.items ++ ps) (sym (none_from c.args.state.now.pieces l.place (sym c.in-None.ensures))) ∙ l.invariant

pub loop-place-preserved : goal.loop-place-preserved
loop-place-preserved c =
    let l = c.loop-place in
    let pieces = c.args.state.now.pieces in
    let piece = c.in-Some.piece.now in
    ap (λ ps. ps ++ drop (l.place + 1) pieces) c.in_ok-add_copy-in-Some.ensures
    ∙ append_assoc l.pieces.items (piece ∷ []) (drop (l.place + 1) pieces)
    ∙ ap (λ ps. l.pieces.items ++ ps) (sym (some_from pieces l.place piece (sym c.in-Some.ensures)))
    ∙ l.invariant

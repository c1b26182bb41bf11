use Rattle.std.proofs.Common.{◌+◌, ◌++◌, ◌∷◌, [], ◌∙◌, drop, map, sym, ap, append_assoc}
use Rattle.std.proofs.lemmas.List.{append-nil}
use Rattle.tetri_queue.specs.Orders.{launch_of}
use Rattle.tetri_queue.proofs.FromLemmas.{none_from, some_from}
use Rattle.tetri_queue.proofs.ordering.pieces_from.Goals as goal

pub returns-in-None : goal.returns-in-None
returns-in-None c =
    let l = c.loop-place in
    sym (append-nil l.pieces.items) ∙ ap (λ ps. l.pieces.items ++ map launch_of ps) (sym (none_from c.args.state.now.pieces l.place (sym c.in-None.ensures))) ∙ l.invariant

pub loop-place-preserved : goal.loop-place-preserved
loop-place-preserved c =
    let l = c.loop-place in
    let pieces = c.args.state.now.pieces in
    let launch = c.in_ok-launch_of-in-Some.field-0 in
    let rest = map launch_of (drop (l.place + 1) pieces) in
    ap (λ ps. ps ++ rest) c.in_ok-push-in-Some.ensures.items ∙ append_assoc l.pieces.items (launch ∷ []) rest
    ∙ ap (λ ps. l.pieces.items ++ ps) (ap (λ p. p ∷ rest) c.in_ok-launch_of-in-Some.ensures ∙ sym (ap (map launch_of) (some_from pieces l.place c.in-Some.piece.now (sym c.in-Some.ensures))))
    ∙ l.invariant

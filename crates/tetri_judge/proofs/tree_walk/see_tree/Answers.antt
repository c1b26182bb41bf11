use Rattle.std.proofs.Common.{◌∙◌, [], ◌∷◌, ◌++◌, List, ap, sym, subst, take, arith}
use Rattle.std.proofs.lemmas.List.{take_all, take_more}
use Rattle.tetri_cert.specs.declared.marks.Mark.{Mark}
use Rattle.tetri_judge.specs.Seen.{WalksTree}
use Rattle.tetri_space.specs.Space.{space}
use Rattle.tetri_judge.proofs.tree_walk.see_tree.Goals as goal

pub feed-requires-clause-walks : goal.feed-requires-clause-walks
feed-requires-clause-walks c = (space c.args.inst.now, take c.loop-mark.mark-index c.args.marks.now, c.loop-mark.invariant.walks)

pub loop-mark-preserved : goal.loop-mark-preserved
loop-mark-preserved c =
    let i = c.loop-mark.mark-index in
    let marks = c.args.marks.now in
    let m = c.mark-item.result in
    let s = space c.args.inst.now in
    record {
      fed = omega (arith, c.in_ok-feed.ensures.fed, c.loop-mark.invariant.fed);
      walks = subst (λ (ms : List Mark). WalksTree s ms c.feed.new.self)
          (sym (take_more marks i m c.loop-mark-test.true ∙ ap (λ (h : Mark). take i marks ++ h ∷ []) (sym c.mark-item.is)))
          (c.in_ok-feed.ensures.walks s (take i marks) c.loop-mark.invariant.walks);
    }

pub returns : goal.returns
returns c =
    let marks = c.args.marks.now in
    let i = c.loop-mark.mark-index in
    c.end.ensures (space c.args.inst.now) marks
    (subst (λ (ms : List Mark). WalksTree (space c.args.inst.now) ms c.loop-mark.walk) (take_all i marks (omega (arith, c.loop-mark-test.false))) c.loop-mark.invariant.walks)

use Rattle.std.proofs.Common.{◌≡◌, Ok, Err, rules, subst}
use Rattle.tetri_claims.specs.Certified.{MayHaveTree}
use Rattle.tetri_judge.specs.Seen.{Tells}
use Rattle.tetri_judge.specs.declared.seen.Seen.TheVariants as seen
use Rattle.tetri_judge.proofs.SeenLemmas.{tree_bounds, tree_fails}
use Rattle.tetri_space.specs.Space.{space}
use Rattle.tetri_judge.proofs.certificate.bound_of.Goals as goal

pub returns-in-Ok-answer : goal.returns-in-Ok-answer
returns-in-Ok-answer c = λ certificate told.
    let s = space c.args.inst.now in
    let e : c.args.seen.now ≡ seen.Tree (Ok c.in-Ok-answer.bound) c.in-Tree.nodes = cc in
    let may : MayHaveTree s = search rules in
    tree_bounds s certificate c.in-Ok-answer.bound c.in-Tree.nodes (subst (Tells s certificate) e told) may

pub returns : goal.returns
returns c = λ certificate told.
    let s = space c.args.inst.now in
    let e : c.args.seen.now ≡ seen.Tree (Err c.in-Err.fault) c.in-Tree.nodes = cc in
    let may : MayHaveTree s = search rules in
    tree_fails s certificate c.in-Err.fault c.in-Tree.nodes c.verdict_of.result (subst (Tells s certificate) e told) may c.verdict_of.ensures

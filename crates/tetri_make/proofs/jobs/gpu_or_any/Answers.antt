use Rattle.std.proofs.Common.{◌≡◌, ◌∙◌}
use Rattle.std.proofs.lemmas.Result.{IfOk-weaker}
use Rattle.tetri_strl.specs.Tree.{tree}
use Rattle.tetri_strl.specs.declared.expr.Expr.{Expr}
use Rattle.tetri_make.specs.Generated.{either_of, request_of}
use Rattle.tetri_make.proofs.RequestLemmas.{of_any, request_by_first, sets_by_first}
use Rattle.tetri_make.proofs.jobs.gpu_or_any.Goals as goal

pub returns-clause-tree : goal.returns-clause-tree
returns-clause-tree c =
    let sets = c.args.sets.now in
    let d = c.args.drawn.now in
    let one = c.in_ok-gpu in
    let other = c.in_ok-every in
    let is : either_of c.exact-first.result c.exact-second.result ≡ request_of sets c.args.slot d =
    request_by_first sets c.args.slot d c.number_of.new.sets one.gpu other.every c.from-worth.result c.exact-first.result c.exact-second.result
    c.requires.shape one.ensures.sets one.ensures.number other.ensures.number c.from-worth.ensures c.exact-first.ensures c.exact-second.ensures in
    IfOk-weaker c.either.result (λ (e : Expr). tree e ≡ either_of c.exact-first.result c.exact-second.result) (λ (e : Expr). tree e ≡ request_of sets c.args.slot d) (λ e h. h ∙ is) c.either.ensures

pub returns-clause-sets : goal.returns-clause-sets
returns-clause-sets c =
    of_any c.either.result _ (sets_by_first c.args.sets.now c.args.slot c.args.drawn.now c.number_of.new.sets c.number_of-2.new.sets c.requires.shape c.in_ok-gpu.ensures.sets c.in_ok-every.ensures.sets)

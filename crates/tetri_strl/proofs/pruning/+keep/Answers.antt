use Rattle.tetri_strl.specs.declared.expr.Expr.TheFolds.{the_lemmas}
use Rattle.std.proofs.Common.{◌≤◌, ◌<◌, ◌∙◌, ap, sym, arith, length, rules}
use Rattle.tetri_strl.specs.Prune.{pruned, pruned_of, kept}
use Rattle.tetri_strl.specs.Tree.{tree, trees}
use Rattle.tetri_strl.proofs.PruneLemmas.{least_lost, least_left}
use Rattle.tetri_strl.proofs.TreeLemmas.{tree-Min}
use Rattle.tetri_strl.proofs.pruning.+keep.Goals as goal

pub keep-returns-then-len : goal.keep-returns-then-len
keep-returns-then-len t c =
    let parts = c.in-Min.parts in
    let left = c.in_ok-left-in-Min.left in
    let same = ap (λ e. pruned c.args.from c.args.to (tree e)) c.in-Min.is ∙ ap (pruned c.args.from c.args.to) (tree-Min parts) in
    let made =
    c.in_ok-left-in-Min.ensures
    ∙ ap (λ es. kept (pruned_of c.args.from c.args.to (trees es))) c.deref-in-Min.ensures.value in
    let fewer : length left.items < length parts.items = omega (arith, left.ok.0, parts.ok.0) in
    sym (same ∙ least_lost c.args.from c.args.to parts.items left.items made fewer)

pub keep-returns-else-len : goal.keep-returns-else-len
keep-returns-else-len t c =
    let parts = c.in-Min.parts in
    let left = c.in_ok-left-in-Min.left in
    let same = ap (λ e. pruned c.args.from c.args.to (tree e)) c.in-Min.is ∙ ap (pruned c.args.from c.args.to) (tree-Min parts) in
    let made =
    c.in_ok-left-in-Min.ensures
    ∙ ap (λ es. kept (pruned_of c.args.from c.args.to (trees es))) c.deref-in-Min.ensures.value in
    let all : length parts.items ≤ length left.items = omega (arith, left.ok.0, parts.ok.0) in
    c.some_min.ensures ∙ least_left c.args.from c.args.to parts.items left.items made all ∙ sym same

pub keep-returns-in_err-keep_parts-in-Max : goal.keep-returns-in_err-keep_parts-in-Max
keep-returns-in_err-keep_parts-in-Max t c = search (rules, the_lemmas)

pub keep-returns-in_err-left-in-Min : goal.keep-returns-in_err-left-in-Min
keep-returns-in_err-left-in-Min t c = search (rules, the_lemmas)

pub keep-returns-in_err-keep_parts-in-Sum : goal.keep-returns-in_err-keep_parts-in-Sum
keep-returns-in_err-keep_parts-in-Sum t c = search (rules, the_lemmas)

pub keep-returns-in_err-keep-in-Scale : goal.keep-returns-in_err-keep-in-Scale
keep-returns-in_err-keep-in-Scale t c = search (rules, the_lemmas)

pub keep-returns-in_err-new-in-Some : goal.keep-returns-in_err-new-in-Some
keep-returns-in_err-new-in-Some t c = search (rules, the_lemmas)

pub keep-returns-in_err-keep-in-Barrier : goal.keep-returns-in_err-keep-in-Barrier
keep-returns-in_err-keep-in-Barrier t c = search (rules, the_lemmas)

pub keep-returns-in_err-new-in-Some-2 : goal.keep-returns-in_err-new-in-Some-2
keep-returns-in_err-new-in-Some-2 t c = search (rules, the_lemmas)

pub keep_parts-returns-in_err-kept : goal.keep_parts-returns-in_err-kept
keep_parts-returns-in_err-kept t c = search (rules, the_lemmas)

pub keep_parts-returns-in_err-push : goal.keep_parts-returns-in_err-push
keep_parts-returns-in_err-push t c = search (rules, the_lemmas)

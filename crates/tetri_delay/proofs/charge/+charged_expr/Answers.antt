use Rattle.std.proofs.Common.{◌∙◌, ap, sym}
use Rattle.tetri_strl.specs.Tree.{added, greatest, join, least, row, tree, trees}
use Rattle.tetri_strl.proofs.ExprLaws.{tree-Max, tree-Min, tree-Sum}
use Rattle.tetri_delay.specs.Charge.{charged}
use Rattle.tetri_delay.proofs.ChargeLemmas.{charged_row}
use Rattle.tetri_delay.proofs.charge.+charged_expr.Goals as goal

pub charged_expr-returns-in_ok-charged_parts-in-Max : goal.charged_expr-returns-in_ok-charged_parts-in-Max
charged_expr-returns-in_ok-charged_parts-in-Max t c =
    let same = ap tree c.in-Max.is ∙ tree-Max _ ∙ ap (λ es. join greatest (trees es)) (sym c.deref.ensures.value) in
    tree-Max _ ∙ ap (λ ts. join greatest (row ts)) c.in_ok-charged_parts-in-Max.ensures ∙ ap (join greatest) (charged_row c.args.charge c.args.by _) ∙ sym (ap (charged c.args.charge c.args.by) same)

pub charged_expr-returns-in_ok-charged_parts-in-Min : goal.charged_expr-returns-in_ok-charged_parts-in-Min
charged_expr-returns-in_ok-charged_parts-in-Min t c =
    let same = ap tree c.in-Min.is ∙ tree-Min _ ∙ ap (λ es. join least (trees es)) (sym c.deref-in-Min.ensures.value) in
    tree-Min _ ∙ ap (λ ts. join least (row ts)) c.in_ok-charged_parts-in-Min.ensures ∙ ap (join least) (charged_row c.args.charge c.args.by _) ∙ sym (ap (charged c.args.charge c.args.by) same)

pub charged_expr-returns-in_ok-charged_parts-in-Sum : goal.charged_expr-returns-in_ok-charged_parts-in-Sum
charged_expr-returns-in_ok-charged_parts-in-Sum t c =
    let same = ap tree c.in-Sum.is ∙ tree-Sum _ ∙ ap (λ es. join added (trees es)) (sym c.deref-in-Sum.ensures.value) in
    tree-Sum _ ∙ ap (λ ts. join added (row ts)) c.in_ok-charged_parts-in-Sum.ensures ∙ ap (join added) (charged_row c.args.charge c.args.by _) ∙ sym (ap (charged c.args.charge c.args.by) same)

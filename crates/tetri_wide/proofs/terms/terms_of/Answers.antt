use Rattle.std.proofs.Common.{◌++◌, List, ◌∙◌, sym, ap, arith}
use Rattle.std.proofs.lemmas.List.{drop_all}
use Rattle.tetri_wide.specs.declared.terms.Sides.{Sides}
use Rattle.tetri_wide.proofs.EntryLemmas.{terms_after, terms_are}
use Rattle.tetri_wide.proofs.terms.terms_of.Goals as goal

pub returns : goal.returns
returns c = λ most under n are below.
    let es = c.args.entries.now in
    let over = drop_all c.loop-entry.entry-index es (omega (arith, c.loop-entry-test.false)) in
    c.in_ok-add_term-2.ensures ∙ ap (λ (xs : List Sides). c.loop-entry.terms.items ++ terms_after c.loop-entry.last xs) (sym over)
    ∙ c.loop-entry.invariant.terms ∙ terms_are most under n es are below
